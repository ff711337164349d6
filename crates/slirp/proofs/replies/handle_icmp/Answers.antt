-- `replies::handle_icmp` meets its contract: with room the echo's frame is put at the buffer's front.
use Prim.Native.Nat.{ℕ, ◌+◌, ◌-◌, ◌≤◌}
use mathlib.Core.Path.{◌≡◌, refl, ap, ap₂, ◌∙◌}
use mathlib.Core.List.{List}
use native.Mathlib.Omega.{arith}
use lib.ListN.{length, take, drop, length-drop}
use Rattle.base.proofs.Lists.{from_on}
use Rattle.echo_reply.proofs.Echo.{there, long}
use Rattle.echo_reply.specs.Reply.{put_echo_lem}
use Rattle.slirp.proofs.Framing.{large_enough}
use Rattle.wire.specs.Rfc791.{source_of}
use Rattle.wire.specs.Rfc894.{body, source_mac}
use borrow.Author.Rules.{rules}
use Rattle.slirp.proofs.replies.handle_icmp.Goals as goal

pub returns : goal.returns
returns c =
    let a = c.args in
    let frame = a.frame.now in
    let request = drop a.start frame in
    let all = ap (λ (s : List ℕ). 34 + length s) (from_on a.start a.frame.now) in
    let cut = length-drop a.start frame in
    let four : length a.guest.network.gateway ≡ 4 = search rules in
    let whole : 4 ≤ length request = omega (arith, cut, c.requires) in
    let short : length request ≤ 65515 = omega (arith, cut, c.requires) in
    let as-asked = ap₂ (λ (to at : List ℕ). put_echo_lem to a.guest.id a.guest.network.gateway at (take (length frame - a.start) request) a.reply.now) c.eth_src.ensures c.ip_src.ensures in
    rw (c.answer-2.ensures, c.spend.ensures)
    (large_enough _ _ _ _ _ _ all
    (long (source_mac frame) a.guest.id a.guest.network.gateway (source_of (body frame)) request a.reply.now whole short refl four refl)
    (omega (arith, all, c.if-reply-need.false)) _
    (c.put_echo_reply.ensures
    ∙ as-asked
    ∙ ap (λ (r : List ℕ). put_echo_lem (source_mac frame) a.guest.id a.guest.network.gateway (source_of (body frame)) r a.reply.now) (from_on a.start frame)
    ∙ there (source_mac frame) a.guest.id a.guest.network.gateway (source_of (body frame)) request a.reply.now whole short refl four refl))
