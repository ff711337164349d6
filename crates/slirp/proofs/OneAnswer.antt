-- The contract of `handle` leaves one answer, for every record.
use mathlib.Core.Path.{◌≡◌}
use Prim.Native.Nat.{ℕ}
use mathlib.Core.List.{List}
use lib.ListN.{length}
use Rattle.record.specs.Answer.{Meets}
use Rattle.record.specs.declared.answer.Answer.{Answer}
use Rattle.record.specs.declared.guest.Guest.{Guest}
use Rattle.record.proofs.OneAnswer.{one_outcome}
use Rattle.rules.specs.Rules.{outcome}

pub handle_answers_once : (guest : Guest) (frame before after after' : List ℕ) (a a' : Answer)
    → Meets (outcome guest frame (length before)) before after a
    → Meets (outcome guest frame (length before)) before after' a' → (a ≡ a') × (after ≡ after')
handle_answers_once guest frame before after after' a a' = one_outcome _ before after after' a a'
