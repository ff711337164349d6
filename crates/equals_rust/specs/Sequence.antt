-- Calls one after the other, each with the record that the one before left.
use Rattle.std.specs.Prelude.{ℕ, ◌≤◌, ◌≡◌, List, [], ◌∷◌, length}
use Rattle.base.specs.Runs.{Runs}
use Rattle.record.specs.Answer.{Meets}
use Rattle.record.specs.declared.answer.Answer.{Answer}
use Rattle.record.specs.declared.guest.Guest.{Guest}
use Rattle.published.specs.Rust.{gives, whole}
use Rattle.published.specs.Backend.{SlirpBackend}
use Rattle.published.specs.Slirp.{send}
use Rattle.rules.specs.Rules.{outcome}
use Rattle.equals_rust.specs.Alike.{came_of}
use Rattle.equals_rust.specs.Amended.{amended_in}
use Rattle.equals_rust.specs.Types.{Bytes}

-- one call: the frame, the buffer before and after, the answer
pub record Exchange : Type 0 where
  pub frame : List ℕ
  pub before : List ℕ
  pub after : List ℕ
  pub answer : Answer
  pub bytes : Bytes frame

-- answered as `handle` promises, from this record
abbrev pub Answered : Guest → Exchange → Type 0
Answered guest x = Meets (outcome guest x.frame (length x.before)) x.before x.after x.answer

-- the record that it leaves
abbrev pub left_by : Exchange → Guest
left_by x = x.answer.guest

-- a guest served as `handle` promises, each time with the record that the call before left
abbrev pub Served : Guest → List Exchange → Type 0
Served guest xs = Runs Answered left_by guest xs

-- the same frames sent to the Rust: as long as it gives a backend and the reply has room, each answer is the Rust's, as it is amended
abbrev pub AsTheRust : SlirpBackend → List Exchange → Type 0
AsTheRust self [] = Unit
AsTheRust self (x ∷ xs) =
    (b : SlirpBackend) → send self (whole x.frame) ≡ gives b → length (came_of self b).writing.image ≤ length x.before
    → Meets (amended_in (came_of self b)) x.before x.after x.answer × AsTheRust b xs
