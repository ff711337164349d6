-- The fields of a TCP frame, read from its bytes at their offsets, are the ones that were put in.
use Prim.Native.Nat.{ℕ, ◌+◌}
use mathlib.Core.Path.{◌≡◌, refl}
use mathlib.Core.List.{List}
use native.Mathlib.Omega.{arith}
use lib.ListN.{length, drop}
use Rattle.wire.specs.Rfc894.{body}
use Rattle.wire.specs.Rfc9293 as Tcp
use Rattle.frames.proofs.Lengths.{drop_34}
use Rattle.frames.proofs.ReadBack.{PacketOf, frame_reads_back}
use Rattle.tcp.specs.Rfc9293.{options, segment, summed_header_lem, segment_header_lem, tcp_frame}
use Rattle.tcp.specs.declared.Endpoints.{Endpoints}
use Rattle.tcp.proofs.TcpLaws.{options_words}

-- RFC 9293, section 3.1, with document 01's values
pub record SegmentOf (s : List ℕ) (ends : Endpoints) (seq ack flags : ℕ) : Type 0 where
  pub source_port_lem : Tcp.source_port s ≡ ends.src_port
  pub target_port_lem : Tcp.target_port s ≡ ends.dst_port
  pub sequence : Tcp.sequence_number s ≡ seq
  pub acknowledgment : Tcp.acknowledgment_number s ≡ ack
  pub offset : Tcp.data_offset s ≡ 20 + length (options flags)
  pub flags_are : Tcp.control_bits s ≡ flags
  pub window_is : Tcp.window s ≡ 65535
  pub urgent_0 : Tcp.urgent_pointer s ≡ 0

pub segment_reads_back : (ends : Endpoints) (seq ack flags : ℕ) (d : List ℕ) → SegmentOf (segment ends seq ack flags d) ends seq ack flags
unfolding segment summed_header_lem segment_header_lem
segment_reads_back ends seq ack flags d =
    record {
      source_port_lem = omega arith;
      target_port_lem = omega arith;
      sequence = omega arith;
      acknowledgment = omega arith;
      offset = omega (arith, options_words flags);
      flags_are = refl;
      window_is = refl;
      urgent_0 = refl;
    }

-- the segment in a frame, for every data
pub tcp_frame_reads_back : (id : ℕ) (ends : Endpoints) (seq ack flags : ℕ) (d : List ℕ) → length ends.dst_mac ≡ 6 → length ends.src_ip ≡ 4 → length ends.dst_ip ≡ 4
    → SegmentOf (drop 34 (tcp_frame id ends seq ack flags d)) ends seq ack flags
unfolding tcp_frame
tcp_frame_reads_back id ends seq ack flags d six four four' =
    rw (drop_34 ends.dst_mac ends.src_ip ends.dst_ip (segment ends seq ack flags d) id 6 six four four')
    (segment_reads_back ends seq ack flags d)

-- the IPv4 packet of a TCP frame is protocol 6's
pub tcp_packet_reads_back : (id : ℕ) (ends : Endpoints) (seq ack flags : ℕ) (d : List ℕ) → length ends.dst_mac ≡ 6 → length ends.src_ip ≡ 4 → length ends.dst_ip ≡ 4
    → PacketOf (body (tcp_frame id ends seq ack flags d)) (length (segment ends seq ack flags d)) id 6 ends.src_ip ends.dst_ip
unfolding tcp_frame
tcp_packet_reads_back id ends seq ack flags d six four four' =
    frame_reads_back ends.src_ip ends.dst_ip four four' ends.dst_mac (segment ends seq ack flags d) id 6 six
