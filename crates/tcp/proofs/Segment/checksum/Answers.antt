-- `Segment::checksum` meets its contract: the sum goes over four pieces, of which all but the last have an even length.
use Prim.Native.Nat.{ℕ, ◌+◌, ◌-◌, ◌/◌}
use mathlib.Core.Path.{refl, ap, ◌∙◌}
use native.Mathlib.Omega.{arith}
use lib.ListN.{length}
use Rattle.sums.specs.Rfc1071.{total, fold}
use Rattle.sums.proofs.Laws.{checksum_pieces}
use Rattle.tcp.proofs.TcpLaws.{options_even}
use Rattle.tcp.proofs.Segment.checksum.Goals as goal

pub returns : goal.returns
returns c =
    let s = c.args.self in
    let d = c.args.data.now in
    let pseudo = c.pseudo_header-pseudo.result in
    let blank = c.header_with-blank.result in
    let o = c.options.result.now in
    ap (λ (n : ℕ). 65535 - n)
    (c.sum-4.ensures
    ∙ ap (λ (n : ℕ). fold (n + total d))
    (c.sum-3.ensures
    ∙ ap (λ (n : ℕ). fold (n + total o)) (c.sum-2.ensures ∙ ap (λ (n : ℕ). fold (n + total blank)) c.sum.ensures)))
    ∙ checksum_pieces pseudo blank o d 6 10 (length o / 2) (omega arith) (omega arith) (omega (arith, ap length c.options.ensures.0, options_even s.flags))
    ∙ rw (c.pseudo_header-pseudo.ensures, c.header_with-blank.ensures, c.options.ensures.0) refl
