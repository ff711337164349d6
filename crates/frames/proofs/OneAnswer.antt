-- The contracts of the two calls that build leave one answer.
use Prim.Native.Nat.{ℕ}
use mathlib.Core.Path.{◌≡◌}
use mathlib.Core.List.{List}
use lib.ListN.{length}
use Rattle.frames.specs.Builders.{make_ip_frame_lem, make_ip_frame_in_place_lem}
use Rattle.record.proofs.OneAnswer.{one_outcome}
use Rattle.record.specs.Answer.{Meets}
use Rattle.record.specs.declared.answer.Answer.{Answer}
use Rattle.record.specs.declared.guest.Guest.{Guest}

module _ (before after after' : List ℕ) where
  module _ (guest : Guest) (a a' : Answer) where
    pub make_ip_frame_answers_once : (mac source target : List ℕ) (protocol : ℕ) (payload : List ℕ)
        → Meets (make_ip_frame_lem guest mac source target protocol payload (length before)) before after a
        → Meets (make_ip_frame_lem guest mac source target protocol payload (length before)) before after' a' → (a ≡ a') × (after ≡ after')
    make_ip_frame_answers_once mac source target protocol payload = one_outcome _ before after after' a a'

    pub make_ip_frame_in_place_answers_once : (mac source target : List ℕ) (protocol len : ℕ)
        → Meets (make_ip_frame_in_place_lem guest mac source target protocol len before) before after a
        → Meets (make_ip_frame_in_place_lem guest mac source target protocol len before) before after' a' → (a ≡ a') × (after ≡ after')
    make_ip_frame_in_place_answers_once mac source target protocol len = one_outcome _ before after after' a a'
