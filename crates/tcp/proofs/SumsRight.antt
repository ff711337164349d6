-- A frame that is built sums right: the checksum field of its segment holding c adds c to the sum of the words, and its IPv4 header is that of every frame.
use Prim.Native.Nat.{ℕ, ◌+◌, ◌/◌, ◌%◌}
use mathlib.Core.Path.{◌≡◌, refl}
use mathlib.Core.List.{List, ◌++◌, append_assoc}
use native.Mathlib.Omega.{arith}
use lib.ListN.{length, drop, length-append}
use Rattle.base.specs.Bytes.{part}
use Rattle.sums.specs.Rfc1071.{words, sum, total, checksum, SumsRight}
use Rattle.sums.proofs.Laws.{total_append, sums_right}
use Rattle.wire.specs.Rfc768.{pseudo_header_lem, covered}
use Rattle.wire.proofs.Covered.{total_covered}
use Rattle.frames.proofs.Lengths.{drop_34}
use Rattle.frames.proofs.SumsRight.{frame_header_sums_right}
use Rattle.tcp.specs.Rfc9293.{options, segment_header_lem, summed_header_lem, segment, tcp_frame}
use Rattle.tcp.specs.declared.Endpoints.{Endpoints}
use Rattle.tcp.proofs.TcpLaws.{options_even}

total_segment_header : (c source target seq ack flags : ℕ) → total (segment_header_lem c source target seq ack flags) ≡ total (segment_header_lem 0 source target seq ack flags) + c
unfolding total words sum segment_header_lem
total_segment_header c source target seq ack flags = omega arith

length_segment_header : (c source target seq ack flags : ℕ) → length (segment_header_lem c source target seq ack flags) ≡ 20
unfolding segment_header_lem
length_segment_header c source target seq ack flags = refl

module _ (from to : List ℕ) (four : length from ≡ 4) (four' : length to ≡ 4) where
  total_pieces : (h o b : List ℕ) → length h ≡ 20 → length o % 2 ≡ 0
      → total (covered 6 from to (h ++ o ++ b)) ≡ total (pseudo_header_lem from to 6 (20 + length o + length b)) + total h + total o + total b
  total_pieces h o b lh lo =
      let n : length (h ++ o ++ b) ≡ 20 + length o + length b = simp length-append (omega arith) in
      rw (
        total_covered from to four four' 6 (h ++ o ++ b),
        n,
        append_assoc h o b,
        total_append 10 h (o ++ b) lh,
        total_append (length o / 2) o b (omega arith),
      )
      (omega arith)

-- RFC 9293, section 3.1: the segment's words with those of its pseudo-header fold to 65,535, with options and without
pub segment_sums_right : (ends : Endpoints) (seq ack flags : ℕ) (body : List ℕ) → length ends.src_ip ≡ 4 → length ends.dst_ip ≡ 4
    → SumsRight (covered 6 ends.src_ip ends.dst_ip (segment ends seq ack flags body))
unfolding segment summed_header_lem
segment_sums_right ends seq ack flags body four four' =
    let from = ends.src_ip in
    let to = ends.dst_ip in
    let h : ℕ → List ℕ = λ c. segment_header_lem c ends.src_port ends.dst_port seq ack flags in
    let blank = covered 6 from to (h 0 ++ options flags ++ body) in
    let c = checksum blank in
    sums_right _ blank
    (omega (
      arith,
      total_pieces from to four four' (h c) (options flags) body (length_segment_header c _ _ seq ack flags) (options_even flags),
      total_pieces from to four four' (h 0) (options flags) body (length_segment_header 0 _ _ seq ack flags) (options_even flags),
      total_segment_header c ends.src_port ends.dst_port seq ack flags,
    ))

-- the segment of a frame, for every data
pub frame_segment_sums_right : (id : ℕ) (ends : Endpoints) (seq ack flags : ℕ) (body : List ℕ)
    → length ends.dst_mac ≡ 6 → length ends.src_ip ≡ 4 → length ends.dst_ip ≡ 4
    → SumsRight (covered 6 ends.src_ip ends.dst_ip (drop 34 (tcp_frame id ends seq ack flags body)))
unfolding tcp_frame
frame_segment_sums_right id ends seq ack flags body six four four' =
    rw (drop_34 ends.dst_mac ends.src_ip ends.dst_ip (segment ends seq ack flags body) id 6 six four four')
    (segment_sums_right ends seq ack flags body four four')

-- the IPv4 header of a TCP frame
pub tcp_frame_header_sums_right : (id : ℕ) (ends : Endpoints) (seq ack flags : ℕ) (body : List ℕ)
    → length ends.dst_mac ≡ 6 → length ends.src_ip ≡ 4 → length ends.dst_ip ≡ 4
    → SumsRight (part (tcp_frame id ends seq ack flags body) 14 20)
unfolding tcp_frame
tcp_frame_header_sums_right id ends seq ack flags body six four four' =
    frame_header_sums_right ends.src_ip ends.dst_ip four four' ends.dst_mac (segment ends seq ack flags body) id 6 six
