-- The reply read by its fields, against RFC 792 and RFC 791 as document 01 condenses them, and that it sums right.
use Prim.Native.Nat.{ℕ, ◌+◌, ◌≤◌}
use mathlib.Core.Path.{◌≡◌, refl}
use mathlib.Core.List.{List}
use native.Mathlib.Omega.{arith}
use lib.ListN.{length, drop, length-drop}
use lib.Seq.{get_or-drop}
use Rattle.frames.proofs.ReadBack.{FrameOf, frame_of}
use Rattle.sums.proofs.Laws.{sums_right}
use Rattle.frames.specs.Frames.{ip_frame}
use Rattle.record.specs.declared.network.Network.{Network}
use Rattle.sums.specs.Rfc1071.{words, sum, total, checksum, SumsRight}
use Rattle.wire.specs.Rfc791.{source_of}
use Rattle.wire.specs.Rfc792 as Icmp
use Rattle.wire.specs.Rfc792.{echo, echo_with}
use Rattle.wire.specs.Rfc894.{body, source_mac}

-- RFC 792: an echo reply with the request's identifier, sequence number and data
pub record AnswersEcho (message request : List ℕ) : Type 0 where
  pub long : length message ≡ length request
  pub is_reply : Icmp.message_type_lem message ≡ 0
  pub code_0 : Icmp.message_code message ≡ 0
  pub same_identifier : Icmp.identifier message ≡ Icmp.identifier request
  pub same_sequence : Icmp.sequence_number message ≡ Icmp.sequence_number request
  pub same_rest : drop 4 message ≡ drop 4 request
  pub sums : SumsRight message

-- the checksum field adds what it holds
total_echo : (c : ℕ) (request : List ℕ) → total (echo_with c request) ≡ total (echo_with 0 request) + c
unfolding total words sum echo_with
total_echo c request = omega arith

pub echo_reads_back : (request : List ℕ) → 4 ≤ length request → AnswersEcho (echo request) request
unfolding echo echo_with
echo_reads_back request h =
    record {
      long = omega (arith, length-drop 4 request);
      is_reply = refl;
      code_0 = refl;
      same_identifier = simp get_or-drop;
      same_sequence = simp get_or-drop;
      same_rest = refl;
      sums = sums_right (echo request) (echo_with 0 request) (total_echo (checksum (echo_with 0 request)) request);
    }

-- the frame of an echo reply goes to the sender's MAC and address, from the gateway
pub echo_frame_reads_back : (net : Network) (id : ℕ) (frame message : List ℕ) → length net.gateway ≡ 4
    → FrameOf (ip_frame (source_mac frame) id 1 net.gateway (source_of (body frame)) message) (source_mac frame) net.gateway (source_of (body frame)) id 1 message
echo_frame_reads_back net id frame message four = frame_of (source_mac frame) net.gateway (source_of (body frame)) id 1 message refl four refl
