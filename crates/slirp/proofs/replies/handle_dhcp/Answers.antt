-- `replies::handle_dhcp` meets its contract: with room the frame is put at the buffer's front.
use Prim.Native.Nat.{ℕ}
use mathlib.Core.Path.{◌≡◌, refl, ap, ◌∙◌}
use mathlib.Core.List.{List}
use lib.ListN.{length}
use Rattle.base.specs.Buffer.{put_if_fits}
use Rattle.dhcp_reply.proofs.FramePieces.{length_dhcp_frame_to}
use Rattle.dhcp_reply.specs.Reply.{dhcp_frame_to}
use Rattle.record.specs.Network.{FourBytes}
use Rattle.slirp.proofs.Framing.{large_enough}
use Rattle.wire.specs.Rfc894.{source_mac}
use borrow.Author.Rules.{rules}
use Rattle.slirp.proofs.replies.handle_dhcp.Goals as goal

pub returns : goal.returns
returns c =
    let a = c.args in
    let four : FourBytes a.guest.network =
    record {
      gateway = search rules;
      guest = search rules;
      mask = search rules;
    } in
    let six : length a.guest.mac ≡ 6 = search rules in
    rw (c.answer-2.ensures, c.spend.ensures, c.note.ensures)
    (large_enough _ _ 342 _ _ 342 refl (length_dhcp_frame_to a.guest.network a.guest.mac a.guest.id (source_mac a.frame.now) a.xid a.kind four six refl) c.if-reply-lt-FRAME.false _
    (c.put_dhcp_reply.ensures
    ∙ ap (λ (to : List ℕ). put_if_fits 0 (dhcp_frame_to a.guest.network a.guest.mac a.guest.id to a.xid a.kind) a.reply.now) c.eth_src.ensures))
