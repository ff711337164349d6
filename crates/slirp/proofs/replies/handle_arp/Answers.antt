-- `replies::handle_arp` meets its contract: with room the reply is put at the buffer's front.
use Prim.Native.Nat.{ℕ}
use mathlib.Core.Path.{◌≡◌, refl, ap, ap₂, ◌∙◌}
use mathlib.Core.List.{List}
use lib.ListN.{length}
use lib.Seq.{get_or-drop}
use Rattle.arp_reply.proofs.Lengths.{length_reply_to}
use Rattle.arp_reply.specs.Reply.{reply_to}
use Rattle.base.specs.Buffer.{put_if_fits}
use Rattle.slirp.proofs.Framing.{large_enough}
use Rattle.wire.specs.Rfc826.{sender_mac_lem, sender_address}
use Rattle.wire.specs.Rfc894.{body}
use borrow.Author.Rules.{rules}
use Rattle.slirp.proofs.replies.handle_arp.Goals as goal

pub returns : goal.returns
returns c =
    let a = c.args in
    let mac : c.bytes_at.result ≡ sender_mac_lem (body a.frame.now) = simp get_or-drop c.bytes_at.ensures in
    let address : c.bytes_at-2.result ≡ sender_address (body a.frame.now) = simp get_or-drop c.bytes_at-2.ensures in
    let four : length a.guest.network.gateway ≡ 4 = search rules in
    rw c.answer-2.ensures
    (large_enough _ _ 42 _ _ 42 refl (length_reply_to a.guest.network.gateway (sender_mac_lem (body a.frame.now)) (sender_address (body a.frame.now)) four refl refl) c.if-reply-lt-FRAME.false _
    (c.put_arp_reply.ensures ∙ ap (λ (s : List ℕ). put_if_fits 0 s a.reply.now) (ap₂ (reply_to a.guest.network.gateway) mac address)))
