-- `put_arp_reply` meets its contract: Ethernet's header and the packet, one behind the other.
use mathlib.Core.Path.{◌≡◌, sym}
use native.Mathlib.Omega.{arith}
use lib.ListN.{length}
use Rattle.arp_reply.proofs.Lengths.{length_packet, length_reply_to}
use Rattle.arp_reply.specs.Reply.{reply_to}
use Rattle.base.proofs.Front.{two_pieces}
use Rattle.base.proofs.Lists.{no_fit}
use Rattle.frames.proofs.Lengths.{length_ethernet}
use Rattle.arp_reply.proofs.put_arp_reply.Goals as goal

pub returns-then-out-lt-FRAME : goal.returns-then-out-lt-FRAME
returns-then-out-lt-FRAME c =
    let a = c.args in
    sym (no_fit 0 _ a.out.now (omega (arith, length_reply_to a.gateway a.mac a.address (omega (arith, c.well_formed)) (omega (arith, c.well_formed)) (omega (arith, c.well_formed)))))

pub returns : goal.returns
unfolding reply_to
returns c =
    let a = c.args in
    let four : length a.gateway ≡ 4 = omega (arith, c.well_formed) in
    let six : length a.mac ≡ 6 = omega (arith, c.well_formed) in
    let four' : length a.address ≡ 4 = omega (arith, c.well_formed) in
    two_pieces _ _ 14 28 a.out.now _ _ _ _ (length_ethernet a.mac 0x0806 six) (length_packet a.gateway a.mac a.address four six four') (omega (arith, c.if-out-lt-FRAME.false))
    c.ethernet_header-outer.ensures c.reply_packet-inner.ensures c.put.ensures c.put-2.ensures
