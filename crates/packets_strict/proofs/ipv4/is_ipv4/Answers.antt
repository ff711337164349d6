-- `is_ipv4` meets its contract: each test is a field of the rule.
use Rattle.std.proofs.Common.{ℕ, ◌+◌, take, ap, ◌∙◌, rules}
use Rattle.sums.specs.Rfc1071.{total, fold}
use Rattle.grammar.specs.Grammar.{header_length_lem}
use Rattle.packets_strict.proofs.Reading.{tells_sums}
use Rattle.packets_strict.proofs.ipv4.is_ipv4.Goals as goal

pub returns : goal.returns
returns c =
    let s = c.args.packet.now in
    tells_sums c.sum.result (take (header_length_lem s) s) (c.sum.ensures ∙ ap (λ (n : ℕ). fold (0 + total (take n s))) c.header_length-header.ensures.0)
    (λ right.
    record {
      version = search rules;
      least_header = search rules;
      most_header = search rules;
      total = search rules;
      inside = search rules;
      unfragmented = c.if-not-is_unfragmented.ensures;
      sums = right;
    })
    (λ a. a.sums)
