-- `is_icmp` meets its contract: each test is a field of the rule, and the message is what lies behind the header.
use Rattle.std.proofs.Common.{ℕ, ◌+◌, List, ap, ◌∙◌, rules}
use Rattle.sums.specs.Rfc1071.{total, fold}
use Rattle.grammar.specs.Grammar.{payload}
use Rattle.packets_strict.proofs.Reading.{tells_sums}
use Rattle.packets_strict.proofs.payloads.is_icmp.Goals as goal

pub returns : goal.returns
returns c =
    let part = c.in-Some.ensures.1 in
    tells_sums c.sum.result (payload c.args.packet.now) (c.sum.ensures ∙ ap (λ (m : List ℕ). fold (0 + total m)) part)
    (λ right. record { carried = search rules; size = search rules; sums = right })
    (λ a. a.sums)
