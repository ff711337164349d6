-- `sums_with_pseudo_header` meets its contract: the sum of the pseudo-header, continued over the payload.
use Rattle.std.proofs.Common.{◌≡◌, ℕ, ◌+◌, List, length, ap, ◌∙◌, arith}
use Rattle.sums.specs.Rfc1071.{total, fold}
use Rattle.grammar.specs.Grammar.{payload}
use Rattle.packets_strict.proofs.Pseudo.{sums_on, laid_out}
use Rattle.packets_strict.proofs.Reading.{tells_sums}
use Rattle.packets_strict.proofs.payloads.sums_with_pseudo_header.Goals as goal

pub returns : goal.returns
returns c =
    let p : List ℕ = c.args.packet.now in
    λ ip.
    let len : c.in-Ok.length ≡ length (payload p) = omega (arith, c.in-Ok.ensures, ap length c.requires) in
    tells_sums c.sum-2.result _
    (sums_on p (omega (arith, ip.least_header, ip.inside, ip.total)) c.sum.result c.sum-2.result
    (c.sum.ensures
    ∙ laid_out p c.pseudo_header-pseudo.ensures c.bytes_at.ensures c.bytes_at-2.ensures c.byte_at.ensures len)
    (c.sum-2.ensures ∙ ap (λ (m : List ℕ). fold (c.sum.result + total m)) c.requires))
    (λ right. right) (λ a. a)
