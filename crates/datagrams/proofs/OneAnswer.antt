-- The contract leaves one answer: whatever meets it twice on the same input has answered the same twice.
use Prim.Native.Nat.{ℕ}
use mathlib.Core.Path.{◌≡◌}
use mathlib.Core.List.{List}
use lib.ListN.{length}
use Rattle.datagrams.specs.Builders.{make_udp_payload_lem}
use Rattle.record.proofs.OneAnswer.{one_writing, one_built}
use Rattle.record.specs.Answer.{Wrote, as_verdict}
use Rattle.std.proofs.Common.{Result}
use Rattle.record.specs.declared.answer.Verdict.{Verdict}
use Rattle.record.specs.declared.answer.Refusal.{Refusal}

pub make_udp_payload_answers_once : (before after after' : List ℕ) (v v' : Result Verdict Refusal) (from to : List ℕ) (source target : ℕ) (body : List ℕ)
    → Wrote (make_udp_payload_lem from to source target body (length before)) before after v
    → Wrote (make_udp_payload_lem from to source target body (length before)) before after' v' → (v ≡ v') × (after ≡ after')
make_udp_payload_answers_once before after after' v v' from to source target body = one_writing _ before after after' v v'

-- the same of what the function itself answers
pub make_udp_payload_results_once : (before after after' : List ℕ) (r r' : Result ℕ Refusal) (from to : List ℕ) (source target : ℕ) (body : List ℕ)
    → Wrote (make_udp_payload_lem from to source target body (length before)) before after (as_verdict r)
    → Wrote (make_udp_payload_lem from to source target body (length before)) before after' (as_verdict r') → (r ≡ r') × (after ≡ after')
make_udp_payload_results_once before after after' r r' from to source target body = one_built _ before after after' r r'
