-- What comes of a call without a new state: the state, the bytes and the bits are as they were. A fragment that is written always changes the state.
use Prim.Native.Nat.{ℕ}
use mathlib.Core.Bool.{true, false, cond}
use mathlib.Core.List.{List}
use mathlib.Core.Path.{◌≡◌}
use native.Mathlib.Omega.{arith}
use Rattle.std.proofs.lemmas.Grind.{common_steps}
use Rattle.fragment_packets.specs.declared.packet.Datagram.{Datagram}
use Rattle.fragments.specs.Answer.{said_for}
use Rattle.fragments.specs.Promises.{Untouched, Does, Releases}
use Rattle.fragments.specs.Outcomes.{outcome_of, settled}
use Rattle.fragment_rules.specs.declared.answer.Refusal.{Refusal}
use Rattle.std.specs.Prelude.{Option, Result, Ok, Err}
use Rattle.fragment_rules.specs.declared.answer.State.{State}
use Rattle.fragments.specs.declared.answer.Taken.{Taken}
use Rattle.fragment_rules.specs.declared.ruling.Ruling.{Ruling}
use Rattle.fragment_rules.specs.declared.ruling.Ruling.TheVariants.{Pass, Write}
use Rattle.store_words.specs.Reports.{changes}

-- a fragment that is written gets stored or complete
pub settled_changes : (d : Datagram) (end : Option ℕ) (there : ℕ → ℕ) → changes (settled d end there).said ≡ true
unfolding settled changes
settled_changes d end there = grind (arith, common_steps)

-- what is done to a store without a new state leaves the state
pub read_as : (r : Result Ruling Refusal) (state : State) (frame bytes bits bytes' bits' : List ℕ) (taken : Taken) → Does r state frame bytes bits bytes' bits' taken
    → cond (changes (said_for taken.answer)) taken.state state ≡ taken.state
unfolding outcome_of
read_as r state frame bytes bits bytes' bits' taken d = grind (arith, common_steps, d.answers, d.next, settled_changes)

-- and leaves its bytes and bits
pub leaves_alone : (r : Result Ruling Refusal) (state : State) (frame bytes bits bytes' bits' : List ℕ) (taken : Taken) → Does r state frame bytes bits bytes' bits' taken
    → changes (said_for taken.answer) ≡ false → Untouched bytes bits bytes' bits'
unfolding outcome_of
leaves_alone (Err refusal) state frame bytes bits bytes' bits' taken d e = d.store
leaves_alone (Ok Pass) state frame bytes bits bytes' bits' taken d e = d.store
leaves_alone (Ok (Write f end)) state frame bytes bits bytes' bits' taken d e = grind (arith, common_steps, d.answers, settled_changes f.datagram end)

-- and a release that is refused leaves the state
pub released_as : (state : State) (bytes bits bits' : List ℕ) (taken : Taken) → Releases state bytes bits bits' taken
    → cond (changes (said_for taken.answer)) taken.state state ≡ taken.state
unfolding changes
released_as state bytes bits bits' taken r = grind (arith, common_steps, r.answers, r.next)
