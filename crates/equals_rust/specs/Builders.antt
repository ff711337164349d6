-- What "equal" means of a builder: the Rust's run beside an answer of ours to the same arguments, with document 01's limit for the `len` bytes that it is given.
use Rattle.std.specs.Prelude.{ℕ, ◌≤◌, ◌<◌, ◌≡◌, ◌↔◌, List, [], ◌∷◌, length, Result}
use Rattle.record.specs.Answer.{Wrote, Meets}
use Rattle.record.specs.declared.answer.Answer.{Answer}
use Rattle.record.specs.declared.guest.Guest.{Guest}
use Rattle.record.specs.declared.answer.Refusal.{Refusal}
use Rattle.record.specs.declared.answer.Verdict.{Verdict}
use Rattle.published.specs.Rust.{Run, gives, panics, cuts, unfinished}
use Rattle.published.specs.Frames.{Counted}
use Rattle.record.specs.Answer.{unwritten}
use Rattle.equals_rust.specs.Alike.{came_of_builder, written_as, unwritten_as}
use Rattle.equals_rust.specs.Amended.{summed}

-- one that takes an id
pub record FrameEquals (guest : Guest) (run : Run Counted) (limit len : ℕ) (before after : List ℕ) (answer : Answer) : Type 0 where
  -- where the Rust gives a frame and the buffer has room for it: that frame, and the record with the Rust's counter
  pub equal : (made : Counted) → run ≡ gives made → length made.frame ≤ length before → Meets (came_of_builder guest made) before after answer
  -- where it is too short: 5 with the frame's length
  pub lacks_room : (made : Counted) → run ≡ gives made → length before < length made.frame → Meets (unwritten (5 ∷ length made.frame ∷ []) guest) before after answer
  -- the Rust cuts exactly past the limit, and there it is 6
  pub cuts_exactly : (run ≡ cuts) ↔ (limit < len)
  pub too_long : run ≡ cuts → Meets (unwritten (6 ∷ len ∷ []) guest) before after answer
  -- it never panics, and always ends
  pub never_panics : run ≡ panics → ⊥
  pub ends : run ≡ unfinished → ⊥

-- one that takes none, but two addresses, of which the Rust's knows nothing. Where the Rust gives a datagram and the buffer has room for it: that datagram, with RFC 768's checksum in it (6/13)
pub record DatagramEquals (from to : List ℕ) (run : Run (List ℕ)) (limit len : ℕ) (before after : List ℕ) (verdict : Result Verdict Refusal) : Type 0 where
  pub equal : (built : List ℕ) → run ≡ gives built → length built ≤ length before → Wrote (written_as (summed from to built)) before after verdict
  pub lacks_room : (built : List ℕ) → run ≡ gives built → length before < length built → Wrote (unwritten_as (5 ∷ length built ∷ [])) before after verdict
  pub cuts_exactly : (run ≡ cuts) ↔ (limit < len)
  pub too_long : run ≡ cuts → Wrote (unwritten_as (6 ∷ len ∷ [])) before after verdict
  pub never_panics : run ≡ panics → ⊥
  pub ends : run ≡ unfinished → ⊥
