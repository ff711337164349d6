-- `UdpDatagram::front_sum` meets its contract: the sum of the pseudo-header is continued over the header.
use Prim.Native.Nat.{ℕ, ◌+◌}
use mathlib.Core.Path.{◌≡◌, ap, ap₂, ◌∙◌}
use mathlib.Core.List.{List}
use native.Mathlib.Nat.{zero-add}
use Rattle.sums.specs.Rfc1071.{total, fold}
use Rattle.sums.proofs.Laws.{fold_fold}
use Rattle.wire.specs.Rfc768.{datagram_header, pseudo_header_lem}
use Rattle.datagrams.proofs.UdpDatagram.front_sum.Goals as goal

pub returns : goal.returns
returns c =
    let blank = c.header_with-blank in
    let pseudo = c.pseudo_header-pseudo in
    let d = c.args.self in
    let p : pseudo.result ≡ pseudo_header_lem d.src_ip d.dst_ip 17 d.len = pseudo.ensures in
    let h : blank.result ≡ datagram_header 0 d.src_port d.dst_port d.len = blank.ensures in
    c.sum-2.ensures
    ∙ ap (λ (n : ℕ). fold (n + total blank.result)) (c.sum.ensures ∙ ap fold (zero-add _))
    ∙ fold_fold (total pseudo.result) (total blank.result)
    ∙ ap₂ (λ (s t : List ℕ). fold (total s + total t)) p h
