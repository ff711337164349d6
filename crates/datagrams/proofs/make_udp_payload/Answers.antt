-- `make_udp_payload` meets its contract: the header and then the data, put one behind the other, are the datagram at the buffer's front.
use Prim.Native.Nat.{ℕ, ◌+◌, ◌-◌}
use mathlib.Core.Path.{◌≡◌, refl, ap₂, ◌∙◌}
use mathlib.Core.List.{◌++◌}
use native.Mathlib.Omega.{arith}
use lib.ListN.{length}
use Rattle.wire.specs.Rfc768.{datagram_header, transmitted, checksum_of, datagram}
use Rattle.base.proofs.Lists.{put_front}
use Rattle.base.proofs.Front.{nothing_yet, behind_as}
use Rattle.datagrams.proofs.Datagram.{checksum_continued}
use Rattle.record.proofs.Built.{exit_too_long, exit_no_room, written}
use Rattle.datagrams.proofs.make_udp_payload.Goals as goal

pub returns-in_err-len : goal.returns-in_err-len
returns-in_err-len c = exit_too_long _ _ _ _ _ _ _ _ c.from_residual.ensures.1 c.in_err-len.ensures

pub returns-in_err-need : goal.returns-in_err-need
returns-in_err-need c =
    let len = c.in_ok-len.ensures in
    exit_no_room _ _ _ _ _ _ _ _ c.from_residual-in_err-need.ensures.1 len.0 (rw len.1 at c.in_err-need.ensures)

pub returns : goal.returns
unfolding datagram
returns c =
    let a = c.args in
    let d = a.data.now in
    let four : length a.src_ip ≡ 4 = omega (arith, c.well_formed) in
    let four' : length a.dst_ip ≡ 4 = omega (arith, c.well_formed) in
    let within = c.in_ok-len.ensures in
    let need = rw within.1 at c.in_ok-need.ensures in
    let sent : transmitted (65535 - c.sum.result) ≡ checksum_of a.src_ip a.dst_ip a.src_port a.dst_port d =
    checksum_continued a.src_ip a.dst_ip four four' a.src_port a.dst_port d _ _ (rw need.1 at c.front_sum.ensures) c.sum.ensures in
    let head = datagram_header (checksum_of a.src_ip a.dst_ip a.src_port a.dst_port d) a.src_port a.dst_port (8 + length d) in
    let its-head : c.header-header.result ≡ head = c.header-header.ensures ∙ ap₂ (λ (n m : ℕ). datagram_header n a.src_port a.dst_port m) sent need.1 in
    let front = nothing_yet a.out.now in
    let one = behind_as front head 8 refl (omega arith) _ its-head c.put.ensures in
    let both = behind_as one d (length d) refl (omega arith) _ refl c.put-2.ensures in
    rw need.1 (written _ _ _ _ _ _ _ within.0 need.0 (both.bytes ∙ put_front (head ++ d) a.out.now))
