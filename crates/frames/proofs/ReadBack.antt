-- The fields of what is built, read from its bytes at their offsets, are the ones that were put in.
use Prim.Native.Nat.{ℕ, ◌+◌}
use mathlib.Core.Path.{◌≡◌, refl}
use mathlib.Core.List.{List, ◌++◌}
use native.Mathlib.Omega.{arith}
use lib.ListN.{length, drop}
use Rattle.wire.specs.Rfc894.{target_mac, source_mac, type_of, body}
use Rattle.record.specs.Network.{gateway_mac}
use Rattle.wire.specs.Rfc791.{version, header_length_lem, service_type, total_length, identification, flags_and_offset, time_to_live, protocol_of, header_checksum, source_of, target_of}
use Rattle.sums.specs.Rfc1071.{checksum}
use Rattle.wire.specs.Rfc791.{header, header_with_lem}
use Rattle.frames.specs.Frames.{ip_frame}
use Rattle.base.proofs.Lists.{all_bytes_lem}
use Rattle.base.specs.Bytes.{part}
use Rattle.sums.specs.Rfc1071.{SumsRight}
use Rattle.frames.proofs.Lengths.{drop_14, drop_34, length_ip_frame}
use Rattle.frames.proofs.SumsRight.{frame_header_sums_right}

-- RFC 791, section 3.1, with document 01's values
pub record PacketOf (packet : List ℕ) (len id protocol : ℕ) (source target : List ℕ) : Type 0 where
  pub version_4 : version packet ≡ 4
  pub header_20 : header_length_lem packet ≡ 20
  pub service_0 : service_type packet ≡ 0
  pub total : total_length packet ≡ 20 + len
  pub id_is : identification packet ≡ id
  pub unfragmented : flags_and_offset packet ≡ 0x4000
  pub hops_64 : time_to_live packet ≡ 64
  pub protocol_is : protocol_of packet ≡ protocol
  pub checksum_is : header_checksum packet ≡ checksum (header_with_lem 0 (20 + len) id protocol source target)
  pub source_is : source_of packet ≡ source
  pub target_is : target_of packet ≡ target

module _ (source target : List ℕ) (four : length source ≡ 4) (four' : length target ≡ 4) where
  pub packet_reads_back : (payload : List ℕ) (id protocol : ℕ)
      → PacketOf (header (20 + length payload) id protocol source target ++ payload) (length payload) id protocol source target
  unfolding header header_with_lem
  packet_reads_back payload id protocol =
      record {
        version_4 = refl;
        header_20 = refl;
        service_0 = refl;
        total = omega arith;
        id_is = omega arith;
        unfragmented = refl;
        hops_64 = refl;
        protocol_is = refl;
        checksum_is = omega arith;
        source_is = rw (all_bytes_lem source 4 four);
        target_is = rw (all_bytes_lem source 4 four, all_bytes_lem target 4 four');
      }

  -- the packet in a frame, for every payload
  pub frame_reads_back : (mac payload : List ℕ) (id protocol : ℕ) → length mac ≡ 6
      → PacketOf (body (ip_frame mac id protocol source target payload)) (length payload) id protocol source target
  frame_reads_back mac payload id protocol six =
      rw (drop_14 mac source target payload id protocol six four four') (packet_reads_back payload id protocol)

-- RFC 894: target MAC, the gateway's MAC, type IPv4
pub ethernet_reads_back : (mac source target payload : List ℕ) (id protocol : ℕ) → length mac ≡ 6
    → (target_mac (ip_frame mac id protocol source target payload) ≡ mac)
    × (source_mac (ip_frame mac id protocol source target payload) ≡ gateway_mac)
    × (type_of (ip_frame mac id protocol source target payload) ≡ 0x0800)
unfolding ip_frame
ethernet_reads_back mac source target payload id protocol six = (rw (all_bytes_lem mac 6 six), rw (all_bytes_lem mac 6 six), rw (all_bytes_lem mac 6 six))

-- a payload in its IPv4 packet, in its Ethernet frame from the gateway
pub record FrameOf (frame mac source target : List ℕ) (id protocol : ℕ) (payload : List ℕ) : Type 0 where
  pub long : length frame ≡ 34 + length payload
  pub to : target_mac frame ≡ mac
  pub from : source_mac frame ≡ gateway_mac
  pub type : type_of frame ≡ 0x0800
  pub packet : PacketOf (body frame) (length payload) id protocol source target
  pub header_sums : SumsRight (part frame 14 20)
  pub carried : drop 34 frame ≡ payload

pub frame_of : (mac source target : List ℕ) (id protocol : ℕ) (payload : List ℕ) → length mac ≡ 6 → length source ≡ 4 → length target ≡ 4
    → FrameOf (ip_frame mac id protocol source target payload) mac source target id protocol payload
frame_of mac source target id protocol payload six four four' =
    let e = ethernet_reads_back mac source target payload id protocol six in
    record {
      long = length_ip_frame source target four four' mac payload id protocol six;
      to = e.0;
      from = e.1;
      type = e.2;
      packet = frame_reads_back source target four four' mac payload id protocol six;
      header_sums = frame_header_sums_right source target four four' mac payload id protocol six;
      carried = drop_34 mac source target payload id protocol six four four';
    }
