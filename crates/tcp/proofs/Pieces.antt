-- A frame in its four pieces: the frame's headers, the segment's header with the checksum that is computed piece by piece, its options, the data.
use Prim.Native.Nat.{ℕ, ◌+◌}
use mathlib.Core.Path.{◌≡◌, refl}
use mathlib.Core.List.{List, ◌++◌, append_assoc}
use native.Mathlib.Omega.{arith}
use lib.ListN.{length, length-append}
use Rattle.sums.specs.Rfc1071.{checksum}
use Rattle.wire.specs.Rfc768.{pseudo_header_lem, covered}
use Rattle.frames.specs.Frames.{headers, ip_frame}
use Rattle.tcp.specs.Rfc9293.{options, segment_header_lem, summed_header_lem, segment, tcp_frame}
use Rattle.tcp.specs.declared.Endpoints.{Endpoints}

module _ (ends : Endpoints) (seq ack flags : ℕ) (d : List ℕ) where
  length_header : (csum : ℕ) → length (segment_header_lem csum ends.src_port ends.dst_port seq ack flags) ≡ 20
  unfolding segment_header_lem
  length_header csum = refl

  pub length_summed : length (summed_header_lem ends seq ack flags d) ≡ 20
  unfolding summed_header_lem
  length_summed = length_header _

  pub four_pieces : (id : ℕ) → ((headers ends.dst_mac (20 + (20 + length (options flags) + length d)) id 6 ends.src_ip ends.dst_ip
      ++ summed_header_lem ends seq ack flags d) ++ options flags) ++ d ≡ tcp_frame id ends seq ack flags d
  unfolding tcp_frame ip_frame segment
  four_pieces id =
      let long : length (summed_header_lem ends seq ack flags d ++ options flags ++ d) ≡ 20 + length (options flags) + length d =
      simp length-append (omega (arith, length_summed)) in
      rw long (simp append_assoc)

  pub summed_by_pieces : segment_header_lem
      (checksum (pseudo_header_lem ends.src_ip ends.dst_ip 6 (20 + length (options flags) + length d)
      ++ (segment_header_lem 0 ends.src_port ends.dst_port seq ack flags ++ options flags ++ d)))
      ends.src_port ends.dst_port seq ack flags
      ≡ summed_header_lem ends seq ack flags d
  unfolding summed_header_lem covered
  summed_by_pieces =
      let long : length (segment_header_lem 0 ends.src_port ends.dst_port seq ack flags ++ options flags ++ d) ≡ 20 + length (options flags) + length d =
      simp length-append (omega (arith, length_header 0)) in
      rw long refl
