-- The contract leaves one answer: whatever meets it twice on the same input has answered the same twice.
use Prim.Native.Nat.{ℕ}
use mathlib.Core.Path.{◌≡◌}
use mathlib.Core.List.{List}
use lib.ListN.{length}
use Rattle.record.specs.Answer.{Wrote, as_verdict}
use Rattle.std.proofs.Common.{Result}
use Rattle.record.specs.declared.answer.Verdict.{Verdict}
use Rattle.record.specs.declared.answer.Refusal.{Refusal}
use Rattle.record.specs.declared.network.Network.{Network}
use Rattle.record.proofs.OneAnswer.{one_writing, one_built}
use Rattle.dhcp_message.specs.Message.{build_reply_lem}

pub build_reply_answers_once : (before after after' : List ℕ) (v v' : Result Verdict Refusal) (net : Network) (mac : List ℕ) (xid type : ℕ)
    → Wrote (build_reply_lem net mac xid type (length before)) before after v
    → Wrote (build_reply_lem net mac xid type (length before)) before after' v' → (v ≡ v') × (after ≡ after')
build_reply_answers_once before after after' v v' net mac xid type = one_writing _ before after after' v v'

-- the same of what the function itself answers
pub build_reply_results_once : (before after after' : List ℕ) (r r' : Result ℕ Refusal) (net : Network) (mac : List ℕ) (xid type : ℕ)
    → Wrote (build_reply_lem net mac xid type (length before)) before after (as_verdict r)
    → Wrote (build_reply_lem net mac xid type (length before)) before after' (as_verdict r') → (r ≡ r') × (after ≡ after')
build_reply_results_once before after after' r r' net mac xid type = one_built _ before after after' r r'
