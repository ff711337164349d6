-- `put_echo_reply` meets its contract: the headers and then the echo make the frame.
use Prim.Native.Nat.{ℕ, ◌+◌}
use mathlib.Core.List.{List, ◌∷◌}
use mathlib.Core.Path.{◌≡◌, refl, sym, ap, ◌∙◌}
use native.Mathlib.Omega.{arith}
use lib.ListN.{length}
use Rattle.base.specs.Buffer.{put_if_fits}
use Rattle.base.proofs.BigEndian.{be16_is}
use Rattle.base.proofs.Lists.{fits, from_on, length-put}
use Rattle.echo_reply.proofs.Echo.{echo_put, no_checksum, too_long, no_room, framed}
use Rattle.frames.proofs.Lengths.{length_headers}
use Rattle.echo_reply.proofs.put_echo_reply.Goals as goal

pub returns-then-len-lt-CHANGED : goal.returns-then-len-lt-CHANGED
returns-then-len-lt-CHANGED c = sym (no_checksum _ _ _ _ _ _ c.if-len-lt-CHANGED.true)

pub returns-then-len-gt-PAYLOAD_LIMIT : goal.returns-then-len-gt-PAYLOAD_LIMIT
returns-then-len-gt-PAYLOAD_LIMIT c = sym (too_long _ _ _ _ _ _ c.if-len-lt-CHANGED.false c.if-len-gt-PAYLOAD_LIMIT.true)

pub returns-then-out-len : goal.returns-then-out-len
returns-then-out-len c =
    sym (no_room _ _ _ _ _ _ c.if-len-lt-CHANGED.false c.if-len-gt-PAYLOAD_LIMIT.false (omega (arith, c.well_formed)) (omega (arith, c.well_formed)) (omega (arith, c.well_formed)) c.if-out-len.true)

pub returns : goal.returns
returns c =
    let a = c.args in
    let six : length a.dst_mac ≡ 6 = omega (arith, c.well_formed) in
    let four : length a.src_ip ≡ 4 = omega (arith, c.well_formed) in
    let four' : length a.dst_ip ≡ 4 = omega (arith, c.well_formed) in
    let request = a.request.now in
    let front = length_headers a.src_ip a.dst_ip four four' a.dst_mac (20 + length request) a.id 1 six in
    let headed = c.put_headers.ensures ∙ fits 0 _ a.out.now (omega (arith, front, c.if-out-len.false)) in
    let same : length c.put_headers.new.out ≡ length a.out.now = ap length headed ∙ length-put 0 _ a.out.now (omega (arith, front, c.if-out-len.false)) in
    let written = echo_put 34 c.checksum.result request _ c.put_headers.new.out _ _ c.if-len-lt-CHANGED.false (omega (arith, same, c.if-out-len.false)) (from_on 4 request) c.checksum.ensures
    (c.put.ensures ∙ ap (λ (field : List ℕ). put_if_fits 34 (0 ∷ 0 ∷ field) c.put_headers.new.out) (rw (c.to_be_bytes-sum.ensures ∙ be16_is c.checksum.result (omega arith)) refl)) c.put-2.ensures in
    framed a.dst_mac a.id a.src_ip a.dst_ip request a.out.now c.if-len-lt-CHANGED.false c.if-len-gt-PAYLOAD_LIMIT.false six four four' _ _ c.if-out-len.false
    c.put_headers.ensures written
