-- No reader has to believe this: the promise of `store::settle` and `store::write`, from which `take`'s own is proved.
use Rattle.std.specs.Prelude.{ℕ, ◌≡◌, Option}
use Rattle.fragment_packets.specs.declared.packet.Datagram.{Datagram}
use Rattle.fragments.specs.Answer.{said_for}
use Rattle.fragments.specs.Outcomes.{settled}
use Rattle.fragments.specs.declared.answer.Taken.{Taken}

-- the answer once blocks are there, and the state
pub record Settles (datagram : Datagram) (end : Option ℕ) (there : ℕ → ℕ) (taken : Taken) : Type 0 where
  pub answers : said_for taken.answer ≡ (settled datagram end there).said
  pub next : taken.state ≡ (settled datagram end there).state
