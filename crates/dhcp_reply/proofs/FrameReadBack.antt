-- The frame of a DHCP reply read by its fields, against RFC 791, 768 and 2131 as document 01 condenses them.
use Prim.Native.Nat.{ℕ}
use mathlib.Core.Path.{◌≡◌, refl, ap, sym, ◌∙◌}
use mathlib.Core.List.{List}
use native.Mathlib.Omega.{arith}
use lib.ListN.{length, drop}
use lib.Seq.{drop-drop}
use Rattle.dhcp_message.specs.Message.{reply}
use Rattle.dhcp_reply.specs.Reply.{reply_source, reply_target, dhcp_frame, dhcp_frame_to}
use Rattle.dhcp_message.proofs.ReadBack.{ReplyOf, reply_reads_back}
use Rattle.datagrams.proofs.Datagram.{length_datagram}
use Rattle.datagrams.proofs.ReadBack.{DatagramOf, datagram_reads_back}
use Rattle.frames.proofs.ReadBack.{FrameOf, frame_of}
use Rattle.record.specs.Guest.{Sized}
use Rattle.record.specs.Network.{broadcast_of}
use Rattle.record.specs.declared.guest.Guest.{Guest}
use Rattle.wire.specs.Rfc768.{datagram}
use Rattle.wire.specs.Rfc894.{source_mac}

-- the frame of a DHCP reply goes to the sender's MAC and the broadcast address, and holds the reply in its datagram
pub record AnswersDhcp (answer : List ℕ) (guest : Guest) (frame : List ℕ) (xid type : ℕ) : Type 0 where
  pub framed : FrameOf answer (source_mac frame) guest.network.gateway (broadcast_of guest.network) guest.id 17
      (datagram guest.network.gateway (broadcast_of guest.network) reply_source reply_target (reply guest.network guest.mac xid type))
  pub long : length answer ≡ 342
  -- RFC 2131, section 4.1: to the client's port, 68; document 02, 2/13: from the server's, 67; 6/13: with the checksum of RFC 768, of the addresses in the frame
  pub in_datagram : DatagramOf (drop 34 answer) guest.network.gateway (broadcast_of guest.network) 67 68 (reply guest.network guest.mac xid type)
  pub message : ReplyOf (drop 42 answer) guest.network guest.mac xid type

pub dhcp_reads_back : (guest : Guest) (frame : List ℕ) (xid type : ℕ) → Sized guest
    → AnswersDhcp (dhcp_frame guest frame xid type) guest frame xid type
unfolding dhcp_frame_to datagram
dhcp_reads_back guest frame xid type sized =
    let net = guest.network in
    let m = reply net guest.mac xid type in
    let d = datagram net.gateway (broadcast_of net) reply_source reply_target m in
    let f = frame_of (source_mac frame) net.gateway (broadcast_of net) guest.id 17 d refl sized.network.gateway refl in
    let inner : drop 42 (dhcp_frame guest frame xid type) ≡ m =
    sym (drop-drop 8 34 (dhcp_frame guest frame xid type)) ∙ ap (drop 8) f.carried in
    record {
      framed = f;
      long = omega (arith, f.long, length_datagram net.gateway (broadcast_of net) reply_source reply_target m, (reply_reads_back net guest.mac xid type sized.network sized.mac).long);
      in_datagram = rw f.carried (datagram_reads_back net.gateway (broadcast_of net) sized.network.gateway refl reply_source reply_target m);
      message = rw inner (reply_reads_back net guest.mac xid type sized.network sized.mac);
    }
