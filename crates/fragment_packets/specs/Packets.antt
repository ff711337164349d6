-- What a frame is to reassembly: RFC 791, section 3.2 ("Fragmentation and Reassembly"), as document 02 condenses it (request 4/13). The fields
-- are RFC 791's own, of `wire`.
use Rattle.std.specs.Prelude.{ℕ, ◌+◌, ◌-◌, ◌/◌, ◌%◌, Bool, ◌&&◌, ◌||◌, not, cond, Option, Some, None, List, eqb, leb, length, take}
use Rattle.sums.specs.Rfc1071.{total, fold}
use Rattle.base.specs.Bytes.{u32_at}
use Rattle.wire.specs.Rfc791.{version, header_length_lem, total_length, identification, more_fragments_lem, fragment_offset_lem, protocol_of}
use Rattle.wire.specs.Rfc894.{body, type_of}
use Rattle.bitmap.specs.Bitmap.{blocks_of_lem}
use Rattle.fragment_packets.specs.declared.packet.Datagram.{Datagram}
use Rattle.fragment_packets.specs.declared.packet.Fragment.{Fragment}
use Rattle.fragment_packets.specs.declared.packet.Packet.{Packet}
use Rattle.fragment_packets.specs.declared.packet.Packet.TheVariants.{Whole, Part}

-- "Here the IPv4 header has to be sound: version 4, header of 20 or more and within the total length, that within the frame, header sums right."
unfoldable pub sound_header : (packet : List ℕ) → Bool
sound_header packet =
    eqb (version packet) 4
    && (leb 20 (header_length_lem packet)
    && (leb (header_length_lem packet) (total_length packet)
    && (leb (total_length packet) (length packet)
    && eqb (fold (total (take (header_length_lem packet) packet))) 65535)))

-- and "a frame under 34 bytes or not of type 0x0800" is none
unfoldable pub sound : (frame : List ℕ) → Bool
sound frame = leb 34 (length frame) && (eqb (type_of frame) 0x0800 && sound_header (body frame))

-- section 3.2: a datagram is whole where more-fragments and offset are both zero
unfoldable pub is_whole_lem : (packet : List ℕ) → Bool
is_whole_lem packet = not (more_fragments_lem packet) && eqb (fragment_offset_lem packet) 0

-- "The payload ends at the total length."
unfoldable pub payload_length : (packet : List ℕ) → ℕ
payload_length packet = total_length packet - header_length_lem packet

-- "A fragment that isn't the last has a length that is a non-zero multiple of 8; the last may have any non-zero length."
unfoldable pub good_length : (more : Bool) (n : ℕ) → Bool
good_length more n = not (eqb n 0) && (not more || eqb (n % 8) 0)

-- section 3.2: the four fields that name a datagram; "named by source, target, protocol and id"
unfoldable pub datagram_of_lem : (packet : List ℕ) → Datagram
datagram_of_lem packet =
    record {
      source = u32_at packet 12;
      target = u32_at packet 16;
      protocol = protocol_of packet;
      id = identification packet;
    }

-- the fragment in a frame: its payload stands from `start` on in the frame, and belongs at `offset` in the datagram's
unfoldable pub fragment_of : (packet : List ℕ) → Fragment
fragment_of packet =
    record {
      datagram = datagram_of_lem packet;
      start = 14 + header_length_lem packet;
      length = payload_length packet;
      offset = fragment_offset_lem packet;
      last = not (more_fragments_lem packet);
    }

-- where its bytes end in the datagram's payload
abbrev pub end_of : Fragment → ℕ
end_of f = f.offset + f.length

-- its first block, and the one behind its last
abbrev pub first_block : Fragment → ℕ
first_block f = f.offset / 8

abbrev pub stop_block : Fragment → ℕ
stop_block f = blocks_of_lem (end_of f)

-- What a frame is: None where it is unfit ("unsound header, bad length or payload past 65,515"), else a whole datagram or a part of one.
unfoldable pub packet_of : (frame : List ℕ) → Option Packet
packet_of frame =
    cond (not (sound frame)) None
    (cond (is_whole_lem (body frame)) (Some (Whole (14 + header_length_lem (body frame)) (payload_length (body frame))))
    (cond (not (good_length (more_fragments_lem (body frame)) (payload_length (body frame)))) None
    (cond (not (leb (fragment_offset_lem (body frame) + payload_length (body frame)) 65515)) None
    (Some (Part (fragment_of (body frame)))))))
