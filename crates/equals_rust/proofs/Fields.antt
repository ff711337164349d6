-- The Rust's field readers, on a frame that is long enough for them: the fields of the RFCs.
use Prim.Native.Nat.{ℕ, zero, suc, ◌+◌, ◌-◌, ◌≤◌, ◌<◌}
use mathlib.Core.Path.{◌≡◌, refl, ap, ap₂, ◌∙◌}
use mathlib.Core.List.{List, ◌∷◌}
use native.Mathlib.Omega.{arith}
use native.Mathlib.Nat.{zero-add}
use lib.Bits.{and_mask}
use lib.ListN.{length, get_or, take, drop}
use lib.Seq.{get_or-drop}
use Rattle.base.specs.Bytes.{u16_at, bytes_at}
use Rattle.wire.specs.Rfc791.{header_length_lem, protocol_of, source_of, target_of}
use Rattle.wire.specs.Rfc894.{body, source_mac, type_of}
use Rattle.base.proofs.Lists.{part_bytes, from_on}
use Rattle.published.specs.Rust.{gives, panics, Slice, whole, len_of, range}
use Rattle.published.specs.Frames.{eth_src, eth_type, ip_proto, ip_src, ip_dst, ip_hlen, ip_payload, u16be}
use Rattle.rules.specs.Rules.{payload_at_lem, payload}
use Rattle.equals_rust.proofs.Operations.{index_in, range_in, range_past, array_of}

-- a part of `n` bytes
pub range_at : (s : Slice) (a n : ℕ) → a + n ≤ len_of s → range s a (a + n) ≡ gives (record { start = s.start + a; bytes = bytes_at s.bytes a n })
range_at s a n h =
    let size : a + n - a ≡ n = omega arith in
    range_in s a (a + n) (omega arith) h
    ∙ ap (λ (b : List ℕ). gives (record { start = s.start + a; bytes = b })) (ap (λ (k : ℕ). take k (drop a s.bytes)) size ∙ part_bytes s.bytes n a h)

-- a number of 16 bits
pub u16be_in : (s : Slice) (at : ℕ) → at + 1 < len_of s → u16be s at ≡ gives (u16_at s.bytes at)
unfolding u16be
u16be_in s at h = rw (index_in s at (omega arith), index_in s (at + 1) h)

-- a reader's bytes in what lies behind the Ethernet header are the frame's, 14 places on
behind : (frame : List ℕ) (at n : ℕ) → bytes_at (body frame) at n ≡ bytes_at frame (14 + at) n
behind frame at zero = refl
behind frame at (suc n) =
    let next : 14 + suc at ≡ suc (14 + at) = omega arith in
    ap₂ (λ (b : ℕ) (l : List ℕ). b ∷ l) (get_or-drop 14 frame at 0) (behind frame (suc at) n ∙ ap (λ (k : ℕ). bytes_at frame k n) next)

module _ (frame : List ℕ) where
  pub eth_src_lem : 12 ≤ length frame → eth_src (whole frame) ≡ gives (record { start = 6; bytes = source_mac frame })
  unfolding eth_src
  eth_src_lem h = range_at (whole frame) 6 6 h

  pub eth_type_lem : 14 ≤ length frame → eth_type (whole frame) ≡ gives (type_of frame)
  unfolding eth_type
  eth_type_lem h = rw (index_in (whole frame) 12 (omega arith), index_in (whole frame) 13 (omega arith))

  pub ip_proto_lem : 24 ≤ length frame → ip_proto (whole frame) ≡ gives (protocol_of (body frame))
  unfolding ip_proto
  ip_proto_lem h = rw (index_in (whole frame) 23 (omega arith), get_or-drop 14 frame 9 0)

  pub ip_src_lem : 34 ≤ length frame → ip_src (whole frame) ≡ gives (source_of (body frame))
  unfolding ip_src
  ip_src_lem h = rw (range_at (whole frame) 26 4 (omega arith), behind frame 12 4) (array_of (record { start = 26; bytes = bytes_at frame 26 4 }) 4 refl)

  pub ip_dst_lem : 34 ≤ length frame → ip_dst (whole frame) ≡ gives (target_of (body frame))
  unfolding ip_dst
  ip_dst_lem h = rw (range_at (whole frame) 30 4 (omega arith), behind frame 16 4) (array_of (record { start = 30; bytes = bytes_at frame 30 4 }) 4 refl)

  pub ip_hlen_lem : 15 ≤ length frame → ip_hlen (whole frame) ≡ gives (header_length_lem (body frame))
  unfolding ip_hlen
  ip_hlen_lem h = rw (index_in (whole frame) 14 (omega arith), and_mask (get_or frame 14 0) 4, get_or-drop 14 frame 0 0)

  pub payload_there : 15 ≤ length frame → payload_at_lem frame ≤ length frame → ip_payload (whole frame) ≡ gives (record { start = payload_at_lem frame; bytes = payload frame })
  unfolding ip_payload
  payload_there h k =
      rw (ip_hlen_lem h, range_in (whole frame) (payload_at_lem frame) (length frame) k (omega arith), from_on (payload_at_lem frame) frame, zero-add (payload_at_lem frame))

  pub payload_past : 15 ≤ length frame → length frame < payload_at_lem frame → ip_payload (whole frame) ≡ panics
  unfolding ip_payload
  payload_past h k = rw (ip_hlen_lem h, range_past (whole frame) (payload_at_lem frame) k)
