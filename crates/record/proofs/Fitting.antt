-- The rule of 5 by itself: its laws are those of the rule of 5 and 6 with a limit that nothing passes.
use Rattle.std.proofs.Common.{◌≡◌, ℕ, ◌<◌, ◌≤◌, List, [], ◌∷◌, ◌++◌, length, drop, Result, Ok, Err, IsErrAnd, arith}
use Rattle.record.specs.Answer.{paper, Wrote, as_verdict, building, fitting}
use Rattle.record.specs.declared.answer.Verdict.{Verdict}
use Rattle.record.specs.declared.answer.Verdict.TheVariants.{Reply}
use Rattle.record.specs.declared.answer.Refusal.{Refusal}
use Rattle.record.specs.declared.answer.Refusal.TheVariants.{NoRoom}
use Rattle.record.proofs.Built.{no_room, exit_no_room, written}
use Rattle.record.proofs.Changes.{on_five, five_short_room, on_one, one_with_room}
use Rattle.record.proofs.InBuffer.{InBuffer, in_buffer}

module _ (need room : ℕ) (image before : List ℕ) where
  pub does_not_fit : room < need → Wrote (fitting need room image) before before (Err (NoRoom need))
  unfolding building
  does_not_fit r = no_room 0 0 need room image before (omega arith) r

  -- the same at the exit of a `?` behind `within_room`: `r` is what the call answers there, `e` what that said
  pub exit_does_not_fit : (r : Result ℕ Refusal) (e : Refusal) → IsErrAnd r (λ y. y ≡ e) → (room < need) × (e ≡ NoRoom need)
      → Wrote (fitting need room image) before before (as_verdict r)
  unfolding building
  exit_does_not_fit r e handed_on said = exit_no_room 0 0 need room image before r e handed_on (omega arith) said

  pub does_fit : (after : List ℕ) → need ≤ room → after ≡ image ++ drop (length image) before → Wrote (fitting need room image) before after (Ok (Reply need))
  unfolding building
  does_fit after r e = written 0 0 need room image before after (omega arith) r e

  module _ (after : List ℕ) (v : Result Verdict Refusal) (w : Wrote (fitting need room image) before after v) where
    unlimited : Wrote (building 0 0 need room image) before after v
    unfolding building
    unlimited = w

    -- 5 exactly with less room than the need; it says the need, and not one byte changes
    pub on_no_room : (k : ℕ) → paper v ≡ 5 ∷ k ∷ [] → (room < need) × (k ≡ need) × (after ≡ before)
    on_no_room k e = let c = on_five 0 0 need room image before after v unlimited k e in (c.1, c.2, c.3)

    pub short_of_room : room < need → paper v ≡ 5 ∷ need ∷ []
    short_of_room r = five_short_room 0 0 need room image before after v unlimited (omega arith) r

    -- 1 exactly with that much room; it says the need
    pub on_written : (k : ℕ) → paper v ≡ 1 ∷ k ∷ [] → (need ≤ room) × (k ≡ need)
    on_written k e = let c = on_one 0 0 need room image before after v unlimited k e in (c.1, c.2)

    pub with_room : need ≤ room → paper v ≡ 1 ∷ need ∷ []
    with_room r = one_with_room 0 0 need room image before after v unlimited (omega arith) r

    -- and then what was to be built is in the buffer
    pub fits_in_buffer : length image ≡ need → (n : ℕ) → paper v ≡ 1 ∷ n ∷ [] → InBuffer image before after n
    fits_in_buffer e n one = in_buffer 0 0 need room image before after v n (λ r. e) unlimited one
