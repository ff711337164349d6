-- What a frame that is not unfit has, by the tests that it passed: a payload that lies in it, and as a fragment some bytes that end at 65,515 at most.
use Prim.Native.Nat.{ℕ, ◌+◌, ◌%◌, ◌≤◌}
use mathlib.Core.Path.{◌≡◌, subst}
use mathlib.Core.Bool.{true, false}
use mathlib.Core.List.{List}
use native.Mathlib.Omega.{arith}
use borrow.Author.Tests.{leb-true}
use lib.ListN.{length, length-drop}
use lib.Dec.{leb}
use Rattle.std.proofs.lemmas.Grind.{common_steps}
use Rattle.wire.specs.Rfc791.{header_length_lem, total_length, more_fragments_lem, fragment_offset_lem}
use Rattle.wire.specs.Rfc894.{body}
use Rattle.std.specs.Prelude.{Some}
use Rattle.fragment_packets.specs.Packets.{sound_header, sound, payload_length, good_length, fragment_of, end_of, packet_of}
use Rattle.fragment_packets.specs.declared.packet.Fragment.{Fragment}
use Rattle.fragment_packets.specs.declared.packet.Packet.TheVariants.{Whole, Part}

-- the lengths in a sound frame
pub record Lengths (frame : List ℕ) : Type 0 where
  pub long : 34 ≤ length frame
  pub header_within : header_length_lem (body frame) ≤ total_length (body frame)
  pub total_within : total_length (body frame) ≤ length (body frame)

pub lengths : (frame : List ℕ) → sound frame ≡ true → Lengths frame
unfolding sound sound_header
lengths frame e = record { long = grind (arith, common_steps); header_within = grind (arith, common_steps); total_within = grind (arith, common_steps) }

-- the payload of a sound frame lies in it
pub within_frame : (frame : List ℕ) → sound frame ≡ true → 14 + header_length_lem (body frame) + payload_length (body frame) ≤ length frame
unfolding payload_length
within_frame frame e = let l = lengths frame e in omega (arith, l.long, l.header_within, l.total_within, length-drop 14 frame)

-- a fragment starts at a block
pub at_block : (packet : List ℕ) → (fragment_of packet).offset % 8 ≡ 0
unfolding fragment_of fragment_offset_lem
at_block packet = omega arith

-- a fragment that is fit
pub record Fits (frame : List ℕ) (f : Fragment) : Type 0 where
  pub not_empty : 1 ≤ f.length
  pub short : end_of f ≤ 65515
  pub in_frame : f.start + f.length ≤ length frame

-- a frame that is a fragment has passed the tests
record Passed (frame : List ℕ) (f : Fragment) : Type 0 where
  is : fragment_of (body frame) ≡ f
  is_sound : sound frame ≡ true
  good : good_length (more_fragments_lem (body frame)) (payload_length (body frame)) ≡ true
  near : leb (fragment_offset_lem (body frame) + payload_length (body frame)) 65515 ≡ true

passed : (frame : List ℕ) (f : Fragment) → packet_of frame ≡ Some (Part f) → Passed frame f
unfolding packet_of
passed frame f e = record { is = grind (arith, common_steps); is_sound = grind (arith, common_steps); good = grind (arith, common_steps); near = grind (arith, common_steps) }

-- it is the fragment that its frame holds
pub part_is : (frame : List ℕ) (f : Fragment) → packet_of frame ≡ Some (Part f) → fragment_of (body frame) ≡ f
part_is frame f e = (passed frame f e).is

pub part_fits : (frame : List ℕ) (f : Fragment) → packet_of frame ≡ Some (Part f) → Fits frame f
unfolding fragment_of good_length
part_fits frame f e =
    let tests = passed frame f e in
    subst (Fits frame) tests.is
    (record { not_empty = grind (arith, common_steps); short = leb-true _ _ tests.near; in_frame = within_frame frame tests.is_sound })

-- one that is not the last ends where a block does
pub ends_at_block : (frame : List ℕ) (f : Fragment) → packet_of frame ≡ Some (Part f) → f.last ≡ false → end_of f % 8 ≡ 0
unfolding fragment_of good_length
ends_at_block frame f e last =
    let tests = passed frame f e in
    let more : more_fragments_lem (body frame) ≡ true = grind (arith, common_steps) in
    let aligned : payload_length (body frame) % 8 ≡ 0 = grind (arith, common_steps) in
    rw (← tests.is) (omega (arith, at_block (body frame)))

-- a whole datagram is sound, and its payload stands behind its header
pub record IsWhole (frame : List ℕ) (start n : ℕ) : Type 0 where
  pub is_sound : sound frame ≡ true
  pub starts : 14 + header_length_lem (body frame) ≡ start
  pub long : payload_length (body frame) ≡ n

pub whole_is : (frame : List ℕ) (start n : ℕ) → packet_of frame ≡ Some (Whole start n) → IsWhole frame start n
unfolding packet_of
whole_is frame start n e = record { is_sound = grind (arith, common_steps); starts = grind (arith, common_steps); long = grind (arith, common_steps) }

-- so it lies in its frame too
pub whole_fits : (frame : List ℕ) (start n : ℕ) → packet_of frame ≡ Some (Whole start n) → start + n ≤ length frame
whole_fits frame start n e = let whole = whole_is frame start n e in omega (arith, whole.starts, whole.long, within_frame frame whole.is_sound)
