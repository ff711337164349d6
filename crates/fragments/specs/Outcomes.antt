-- What comes of a ruling by document 02 (request 4/13): what is said, the state, and when a datagram is complete.
use Rattle.std.specs.Prelude.{ℕ, cond, Option, Some, None, Result, Ok, Err, eqb}
use Rattle.bitmap.specs.Bitmap.{count, having, blocks_of_lem}
use Rattle.fragments.specs.Answer.{Said, passed, stored, complete, said_for}
use Rattle.fragment_packets.specs.declared.packet.Datagram.{Datagram}
use Rattle.fragment_packets.specs.Packets.{first_block, stop_block}
use Rattle.fragment_rules.specs.declared.answer.Refusal.{Refusal}
use Rattle.fragment_rules.specs.declared.answer.State.{State}
use Rattle.fragment_rules.specs.declared.answer.State.TheVariants.{Filling, Complete}
use Rattle.fragment_rules.specs.declared.ruling.Ruling.{Ruling}
use Rattle.fragment_rules.specs.declared.ruling.Ruling.TheVariants.{Pass, Write}

-- What is to come of a call: what it says, and the state.
pub record Outcome : Type 0 where
  pub said : Said
  pub state : State

-- "The datagram is complete when the end is known and no block before it is missing, counted from the bits."
unfoldable pub settled : Datagram → Option ℕ → (there : ℕ → ℕ) → Outcome
settled d None there = record { said = stored; state = Filling d None }
settled d (Some end) there =
    cond (eqb (count there 0 (blocks_of_lem end)) (blocks_of_lem end)) (record { said = complete; state = Complete d end })
    (record { said = stored; state = Filling d (Some end) })

-- what comes of a ruling
unfoldable pub outcome_of : State → (there : ℕ → ℕ) → Result Ruling Refusal → Outcome
outcome_of state there (Err refusal) = record { said = said_for (Err refusal); state = state }
outcome_of state there (Ok Pass) = record { said = passed; state = state }
outcome_of state there (Ok (Write f end)) = settled f.datagram end (having there (first_block f) (stop_block f))
