-- `read` meets its contract: past the last test, by all tests that the frame has come through. The other goals need no answer.
use Prim.Native.Nat.{ℕ, ◌+◌, ◌-◌, ◌≤◌, ◌<◌}
use mathlib.Core.Bool.{Bool, true, false, not}
use mathlib.Core.List.{List}
use mathlib.Core.Path.{◌≡◌, sym, ap, ◌∙◌}
use borrow.Author.Tests.{not-false, le-leb, lt-leb}
use Rattle.std.specs.Prelude.{Some, None}
use Rattle.base.proofs.Lists.{from_on}
use Rattle.wire.specs.Rfc791.{header_length_lem, total_length, more_fragments_lem, fragment_offset_lem}
use Rattle.wire.specs.Rfc894.{body}
use Rattle.fragment_packets.specs.Packets.{sound, packet_of, is_whole_lem, good_length, payload_length, datagram_of_lem, fragment_of}
use Rattle.fragment_packets.specs.declared.packet.Datagram.{Datagram}
use Rattle.fragment_packets.specs.declared.packet.Packet.TheVariants.{Part}
use Rattle.fragment_packets.proofs.packet.read.Goals as goal

-- a test that is negated and passed
passed : {t : Bool} (r : Bool) → r ≡ t → not r ≡ false → t ≡ true
passed r e n = sym e ∙ not-false r n

-- what a frame is, by the tests that it has passed; `p` is its body, `h` its header's length, `t` its total length and `o` its offset
module _ (frame p : List ℕ) (same : p ≡ body frame) (ok : sound frame ≡ true) (h t : ℕ) (eh : h ≡ header_length_lem p) (et : t ≡ total_length p)
    (w : is_whole_lem p ≡ false) (more : Bool) (em : more ≡ more_fragments_lem p) (g : good_length more (t - h) ≡ true) (o : ℕ) (eo : o ≡ fragment_offset_lem p) where
  too_far : 65515 < o + (t - h) → None ≡ packet_of frame
  unfolding packet_of payload_length
  too_far far = rw (← same) (simp (ok, w, rw (em, et, eh) at g, rw (eo, et, eh) at (lt-leb (o + (t - h)) 65515 far)))

  part-of-one : o + (t - h) ≤ 65515 → (d : Datagram) → d ≡ datagram_of_lem p
      → Some (Part (record { datagram = d; start = 14 + h; length = t - h; offset = o; last = not more })) ≡ packet_of frame
  unfolding packet_of payload_length fragment_of
  part-of-one near d ed = rw (← same) (simp (ok, w, rw (em, et, eh) at g, rw (eo, et, eh) at (le-leb (o + (t - h)) 65515 near), ed, em, eo, et, eh))

pub returns-then-offset-length-gt-PAYLOAD_LIMIT : goal.returns-then-offset-length-gt-PAYLOAD_LIMIT
returns-then-offset-length-gt-PAYLOAD_LIMIT c =
    let f = c.args.frame.now in
    too_far f _ (from_on 14 f) (passed _ c.is_sound.ensures (ap not c.if-not-is_sound.false)) _ _ c.header_length-header.ensures.0 (c.from.ensures ∙ c.u16be.ensures)
    (sym c.is_whole.ensures ∙ c.if-is_whole.false) _ c.more_fragments-more.ensures
    (passed _ c.is_good_length.ensures (ap not c.if-not-is_good_length.false)) _ c.fragment_offset-offset.ensures.0 c.if-offset-length-gt-PAYLOAD_LIMIT.true

pub returns : goal.returns
returns c =
    let f = c.args.frame.now in
    part-of-one f _ (from_on 14 f) (passed _ c.is_sound.ensures (ap not c.if-not-is_sound.false)) _ _ c.header_length-header.ensures.0 (c.from.ensures ∙ c.u16be.ensures)
    (sym c.is_whole.ensures ∙ c.if-is_whole.false) _ c.more_fragments-more.ensures
    (passed _ c.is_good_length.ensures (ap not c.if-not-is_good_length.false)) _ c.fragment_offset-offset.ensures.0 c.if-offset-length-gt-PAYLOAD_LIMIT.false _ c.datagram_of.ensures
