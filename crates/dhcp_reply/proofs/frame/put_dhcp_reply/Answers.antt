-- `frame::put_dhcp_reply` meets its contract: the reply, UDP's header in front of it, and the headers in front of both make the frame.
use mathlib.Core.Path.{◌≡◌, refl, sym}
use native.Mathlib.Omega.{arith}
use lib.ListN.{length}
use Rattle.base.proofs.Lists.{no_fit}
use Rattle.dhcp_reply.proofs.FramePieces.{length_dhcp_frame_to, frame_put}
use Rattle.record.specs.Network.{FourBytes}
use borrow.Author.Rules.{rules}
use Rattle.dhcp_reply.proofs.frame.put_dhcp_reply.Goals as goal

pub returns-then-out-lt-FRAME : goal.returns-then-out-lt-FRAME
returns-then-out-lt-FRAME c =
    let a = c.args in
    let four : FourBytes a.net = record { gateway = search rules; guest = search rules; mask = search rules } in
    let six : length a.mac ≡ 6 = omega (arith, c.well_formed) in
    let six' : length a.dst_mac ≡ 6 = omega (arith, c.well_formed) in
    sym (no_fit 0 _ a.out.now (omega (arith, length_dhcp_frame_to a.net a.mac a.id a.dst_mac a.xid a.kind four six six')))

pub returns : goal.returns
returns c =
    let a = c.args in
    let four : FourBytes a.net = record { gateway = search rules; guest = search rules; mask = search rules } in
    let six : length a.mac ≡ 6 = omega (arith, c.well_formed) in
    let six' : length a.dst_mac ≡ 6 = omega (arith, c.well_formed) in
    frame_put a.net a.mac a.id a.dst_mac a.xid a.kind four six six' a.out.now _ _ _ _ _ _ _ _ c.if-out-lt-FRAME.false c.broadcast-dst_ip.ensures c.put_reply.ensures refl
    c.front_sum.ensures c.sum-all.ensures c.header.ensures c.put.ensures c.put_headers.ensures
