-- `ipv4::put_headers` meets its contract: the two headers, one behind the other, stand at the buffer's front.
use mathlib.Core.Path.{◌≡◌, sym}
use native.Mathlib.Omega.{arith}
use lib.ListN.{length}
use Rattle.base.proofs.Lists.{no_fit}
use Rattle.base.proofs.Front.{two_pieces}
use Rattle.frames.proofs.Lengths.{length_ethernet, length_header, length_headers}
use Rattle.frames.proofs.ipv4.put_headers.Goals as goal

pub returns-then-out-lt-PAYLOAD_AT : goal.returns-then-out-lt-PAYLOAD_AT
returns-then-out-lt-PAYLOAD_AT c =
    let a = c.args in
    let p = a.packet in
    sym (no_fit 0 _ a.out.now (omega (arith, length_headers p.src_ip p.dst_ip (omega (arith, c.well_formed)) (omega (arith, c.well_formed)) a.dst_mac p.total p.id p.proto (omega (arith, c.well_formed)))))

pub returns : goal.returns
returns c =
    let room = c.if-out-lt-PAYLOAD_AT.false in
    let a = c.args in
    let p = a.packet in
    let six : length a.dst_mac ≡ 6 = omega (arith, c.well_formed) in
    let four : length p.src_ip ≡ 4 = omega (arith, c.well_formed) in
    let four' : length p.dst_ip ≡ 4 = omega (arith, c.well_formed) in
    two_pieces _ _ 14 20 a.out.now _ _ _ _ (length_ethernet a.dst_mac 0x0800 six) (length_header p.src_ip p.dst_ip four four' p.total p.id p.proto) (omega (arith, room))
    c.ethernet_header.ensures c.header.ensures c.put.ensures c.put-2.ensures
