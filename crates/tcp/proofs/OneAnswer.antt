-- The contract leaves one answer: whatever meets it twice on the same input has answered the same twice.
use Prim.Native.Nat.{ℕ}
use mathlib.Core.Path.{◌≡◌}
use mathlib.Core.List.{List}
use lib.ListN.{length}
use Rattle.record.specs.Answer.{Meets}
use Rattle.record.specs.declared.guest.Guest.{Guest}
use Rattle.record.specs.declared.answer.Answer.{Answer}
use Rattle.record.proofs.OneAnswer.{one_outcome}
use Rattle.tcp.specs.Builders.{make_tcp_frame_lem}
use Rattle.tcp.specs.declared.Endpoints.{Endpoints}

module _ (before after after' : List ℕ) where
  module _ (guest : Guest) (a a' : Answer) where
    pub make_tcp_frame_answers_once : (ends : Endpoints) (seq ack flags : ℕ) (body : List ℕ)
        → Meets (make_tcp_frame_lem guest ends seq ack flags body (length before)) before after a
        → Meets (make_tcp_frame_lem guest ends seq ack flags body (length before)) before after' a' → (a ≡ a') × (after ≡ after')
    make_tcp_frame_answers_once ends seq ack flags body = one_outcome _ before after after' a a'
