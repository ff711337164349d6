-- The Rust's echo reply: RFC 792's, in its frame, or a length that is cut.
use Prim.Native.Nat.{ℕ, ◌+◌, ◌-◌, ◌%◌, ◌≤◌, ◌<◌}
use mathlib.Core.Path.{◌≡◌, refl, ap₂, sym, ◌∙◌}
use mathlib.Core.List.{List, [], ◌∷◌, ◌++◌}
use native.Mathlib.Omega.{arith}
use lib.ListN.{length, drop, length-drop, take-append-drop}
use lib.Seq.{drop-drop}
use Rattle.base.specs.Bytes.{bytes_at}
use Rattle.wire.specs.Rfc791.{source_of}
use Rattle.wire.specs.Rfc894.{body, source_mac}
use Rattle.equals_rust.specs.Network.{rust_network}
use Rattle.frames.specs.Frames.{ip_frame}
use Rattle.base.proofs.Lists.{part_bytes, from_on}
use Rattle.published.specs.Rust.{Run, gives, cuts, ◌>>=◌, Slice, whole, len_of, zeros, range, range_from, array, copy, copy_from, u16_to_be}
use Rattle.published.specs.Frames.{GW_IP, IP_PROTO_ICMP, eth_src, ip_src, make_ip_frame, checksum as rustChecksum}
use Rattle.published.specs.Backend.{SlirpBackend, pushed}
use Rattle.wire.specs.Rfc792.{echo_with, echo}
use Rattle.sums.specs.Rfc1071.{total, fold, checksum}
use Rattle.equals_rust.specs.Types.{Bytes}
use Rattle.equals_rust.proofs.Operations.{same_next, range_in, array_of, copy_over, copy_zeros, copy_rest, bytes_drop, bytes_at_lem}
use Rattle.equals_rust.proofs.Sum.{rust_checksum, rust_sum}
use Rattle.equals_rust.proofs.Builders.{ip_frame_cut, ip_frame_given}
use Rattle.equals_rust.proofs.Fields.{range_at, eth_src_lem, ip_src_lem}

-- the end of `handle_icmp`, once the message is an echo request
abbrev pub answered : SlirpBackend → (frame : List ℕ) (payload : Slice) → Run SlirpBackend
answered self frame payload = do
  source ← eth_src (whole frame)
  src_mac ← array 6 source
  src_ip ← ip_src (whole frame)
  «data» ← range_from payload 8
  let icmp = zeros (8 + len_of «data»)
  middle ← range payload 4 8
  icmp ← copy icmp 4 8 middle.bytes
  icmp ← copy_from icmp 8 «data».bytes
  csum ← rustChecksum (whole icmp)
  icmp ← copy icmp 2 4 (u16_to_be csum)
  made ← make_ip_frame self.counter src_mac GW_IP src_ip IP_PROTO_ICMP (whole icmp)
  gives (pushed made.frame made.counter self)

module _ (self : SlirpBackend) (frame : List ℕ) (payload : Slice) (long : 34 ≤ length frame) (eight : 8 ≤ len_of payload) where
  -- what is copied is all but the first four bytes
  middle : bytes_at payload.bytes 4 4 ++ drop 8 payload.bytes ≡ drop 4 payload.bytes
  middle =
      let p = payload.bytes in
      ap₂ (λ (x y : List ℕ). x ++ y) (sym (part_bytes p 4 4 eight)) (sym (drop-drop 4 4 p)) ∙ take-append-drop 4 (drop 4 p)

  -- once the message is laid out
  laid : answered self frame payload
      ≡ (rustChecksum (whole (echo_with 0 payload.bytes)) >>= λ csum.
      make_ip_frame self.counter (source_mac frame) GW_IP (source_of (body frame)) IP_PROTO_ICMP (whole (echo_with csum payload.bytes)) >>= λ made.
      gives (pushed made.frame made.counter self))
  unfolding echo_with
  laid =
      let p = payload.bytes in
      rw (
        eth_src_lem frame (omega arith),
        array_of (record { start = 6; bytes = source_mac frame }) 6 refl,
        ip_src_lem frame long,
        range_in payload 8 (len_of payload) eight (omega arith),
        from_on 8 p,
        range_at payload 4 4 eight,
        copy_zeros [] (bytes_at p 4 4) 4 (length (drop 8 p)) (8 + length (drop 8 p)) 4 8 refl refl refl,
        copy_rest (zeros 4 ++ bytes_at p 4 4) (drop 8 p) (length (drop 8 p)) 8 refl refl,
        middle,
      )
      (same_next (rustChecksum (whole (0 ∷ 0 ∷ 0 ∷ 0 ∷ drop 4 p))) _ _ λ csum.
      rw (copy_over (0 ∷ 0 ∷ []) (0 ∷ 0 ∷ []) (drop 4 p) (u16_to_be csum) 2 4 refl refl refl))

  echo_bytes : Bytes payload.bytes → Bytes (echo_with 0 payload.bytes)
  unfolding echo_with
  echo_bytes b = (omega arith, (omega arith, (omega arith, (omega arith, bytes_drop 4 payload.bytes b))))

  length_echo_with : (csum : ℕ) → length (echo_with csum payload.bytes) ≡ len_of payload
  unfolding echo_with
  length_echo_with csum = omega (arith, length-drop 4 payload.bytes, eight)

  pub ping_cut : 65515 < len_of payload → answered self frame payload ≡ cuts
  ping_cut over =
      let sum = 65535 - fold (total (echo_with 0 payload.bytes) % 4294967296) in
      laid
      ∙ rw (
        rust_sum (echo_with 0 payload.bytes),
        ip_frame_cut self.counter 1 (source_mac frame) GW_IP (source_of (body frame)) (whole (echo_with sum payload.bytes)) (omega (arith, length_echo_with sum, over)),
      )

  pub ping_answered : self.counter < 65536 → Bytes frame → Bytes payload.bytes → len_of payload ≤ 65515
      → answered self frame payload
      ≡ gives (pushed (ip_frame (source_mac frame) self.counter 1 rust_network.gateway (source_of (body frame)) (echo payload.bytes)) ((self.counter + 1) % 65536) self)
  unfolding echo
  ping_answered c b bp within =
      let sum = checksum (echo_with 0 payload.bytes) in
      laid
      ∙ rw (
        rust_checksum (echo_with 0 payload.bytes) (echo_bytes bp) (omega (arith, length_echo_with 0)),
        ip_frame_given self.counter 1 (source_mac frame) GW_IP (source_of (body frame)) (whole (echo_with sum payload.bytes)) refl refl refl c (omega arith)
            (omega arith, (omega arith, (omega arith, (omega arith, tt)))) (bytes_at_lem (body frame) 12 4 (bytes_drop 14 frame b)) (omega (arith, length_echo_with sum)),
      )
