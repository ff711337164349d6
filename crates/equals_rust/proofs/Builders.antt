-- What the Rust's builders give: the frames of the RFCs, datagrams without a checksum, or a length that is cut.
use Prim.Native.Nat.{ℕ, ◌+◌, ◌%◌, ◌≤◌, ◌<◌}
use mathlib.Core.Path.{◌≡◌, refl, subst, ◌∙◌}
use mathlib.Core.List.{List, [], ◌∷◌, ◌++◌}
use native.Mathlib.Omega.{arith}
use borrow.Author.Tests.{lt-ltb, le-ltb}
use lib.ListN.{length}
use Rattle.base.specs.Bytes.{be16, bytes_at}
use Rattle.base.proofs.Lists.{all_bytes_lem}
use Rattle.frames.proofs.Lengths.{length_header}
use Rattle.wire.specs.Rfc791.{header_with_lem, header}
use Rattle.frames.specs.Frames.{ip_frame}
use Rattle.wire.specs.Rfc894.{ethernet}
use Rattle.record.specs.Network.{gateway_mac}
use Rattle.published.specs.Rust.{Run, gives, cuts, ◌>>=◌, Slice, len_of, zeros, store, copy, copy_from, u16_to_be, wrapping_add_u16}
use Rattle.published.specs.Frames.{Counted, HOST_MAC, ETHERTYPE_IP, make_ip_frame, make_udp_payload}
use Rattle.equals_rust.specs.Types.{Bytes}
use Rattle.equals_rust.proofs.Amended.{unsummed}
use Rattle.equals_rust.proofs.Operations.{copy_zeros, copy_end, copy_rest, bytes_append}
use Rattle.equals_rust.proofs.Sum.{rust_checksum}

-- the end of `make_ip_frame`: the header in its frame
framed : (mac ip : List ℕ) (payload : Slice) (counter : ℕ) → Run Counted
framed mac ip payload counter = do
  frame ← copy (zeros (14 + 20 + len_of payload)) 0 6 mac
  frame ← copy frame 6 12 HOST_MAC
  frame ← copy frame 12 14 (u16_to_be ETHERTYPE_IP)
  frame ← copy frame 14 34 ip
  frame ← copy_from frame 34 payload.bytes
  gives (record { frame = frame; counter = wrapping_add_u16 counter 1 })

frame_given : (mac ip : List ℕ) (payload : Slice) (counter : ℕ) → length mac ≡ 6 → length ip ≡ 20
    → framed mac ip payload counter ≡ gives (record { frame = ethernet mac gateway_mac 0x0800 ++ ip ++ payload.bytes; counter = (counter + 1) % 65536 })
unfolding framed
frame_given mac ip payload counter six twenty =
    rw (all_bytes_lem mac 6 six, all_bytes_lem ip 20 twenty)
    (rw (
      copy_zeros [] (bytes_at mac 0 6) 0 (28 + len_of payload) (34 + len_of payload) 0 6 (omega arith) refl refl,
      copy_zeros (bytes_at mac 0 6) HOST_MAC 0 (22 + len_of payload) (28 + len_of payload) 6 12 (omega arith) refl refl,
      copy_zeros (bytes_at mac 0 6 ++ HOST_MAC) (u16_to_be ETHERTYPE_IP) 0 (20 + len_of payload) (22 + len_of payload) 12 14 (omega arith) refl refl,
      copy_zeros (ethernet (bytes_at mac 0 6) HOST_MAC ETHERTYPE_IP) (bytes_at ip 0 20) 0 (len_of payload) (20 + len_of payload) 14 34 (omega arith) refl refl,
      copy_rest (ethernet (bytes_at mac 0 6) HOST_MAC ETHERTYPE_IP ++ bytes_at ip 0 20) payload.bytes (len_of payload) 34 refl refl,
    ))

-- the header's bytes, with no checksum yet
abbrev front : (total id proto : ℕ) → List ℕ
front total id proto = 0x45 ∷ 0 ∷ be16 total ++ be16 id ++ be16 0x4000 ++ (64 ∷ proto ∷ []) ++ be16 0

front_bytes : (total id proto : ℕ) → total < 65536 → id < 65536 → proto < 256 → Bytes (front total id proto)
front_bytes total id proto t i p =
    (omega arith, (omega arith, (omega arith, (omega arith, (omega arith, (omega arith, (omega arith, (omega arith, (omega arith, (omega arith, (omega arith, (omega arith, tt))))))))))))

header_bytes : (total id proto : ℕ) (src dst : List ℕ) → total < 65536 → id < 65536 → proto < 256 → Bytes src → Bytes dst → Bytes (header_with_lem 0 total id proto src dst)
unfolding header_with_lem
header_bytes total id proto src dst t i p bs bd =
    bytes_append (front total id proto ++ src) dst (bytes_append (front total id proto) src (front_bytes total id proto t i p) bs) bd

module _ (counter proto : ℕ) (mac src dst : List ℕ) (payload : Slice) where
  pub ip_frame_cut : 65515 < len_of payload → make_ip_frame counter mac src dst proto payload ≡ cuts
  unfolding make_ip_frame
  ip_frame_cut h = rw (le-ltb (20 + len_of payload) 65536 (omega arith))

  module _ (six : length mac ≡ 6) (four : length src ≡ 4) (four' : length dst ≡ 4) where
    headed : counter < 65536 → proto < 256 → Bytes src → Bytes dst → len_of payload ≤ 65515
        → make_ip_frame counter mac src dst proto payload ≡ framed mac (header (20 + len_of payload) counter proto src dst) payload counter
    unfolding make_ip_frame store copy header header_with_lem framed
    headed c p bs bd h =
        rw (all_bytes_lem src 4 four, all_bytes_lem dst 4 four', lt-ltb (20 + len_of payload) 65536 (omega arith))
        (rw (rust_checksum (header_with_lem 0 (20 + len_of payload) counter proto (bytes_at src 0 4) (bytes_at dst 0 4))
        (header_bytes (20 + len_of payload) counter proto (bytes_at src 0 4) (bytes_at dst 0 4) (omega arith) c p (subst Bytes (all_bytes_lem src 4 four) bs) (subst Bytes (all_bytes_lem dst 4 four') bd)) (omega arith)))

    pub ip_frame_given : counter < 65536 → proto < 256 → Bytes src → Bytes dst → len_of payload ≤ 65515
        → make_ip_frame counter mac src dst proto payload ≡ gives (record { frame = ip_frame mac counter proto src dst payload.bytes; counter = (counter + 1) % 65536 })
    unfolding ip_frame
    ip_frame_given c p bs bd h =
        headed c p bs bd h ∙ frame_given mac (header (20 + len_of payload) counter proto src dst) payload counter six (length_header src dst four four' _ counter proto)

module _ (src dst : ℕ) («data» : Slice) where
  pub udp_payload_cut : 65527 < len_of «data» → make_udp_payload src dst «data» ≡ cuts
  unfolding make_udp_payload
  udp_payload_cut h = rw (le-ltb (8 + len_of «data») 65536 (omega arith))

  pub udp_payload_given : len_of «data» ≤ 65527 → make_udp_payload src dst «data» ≡ gives (unsummed src dst «data».bytes)
  unfolding make_udp_payload unsummed
  udp_payload_given h =
      rw (
        lt-ltb (8 + len_of «data») 65536 (omega arith),
        copy_zeros [] (u16_to_be src) 0 (6 + len_of «data») (8 + len_of «data») 0 2 (omega arith) refl refl,
        copy_zeros (u16_to_be src) (u16_to_be dst) 0 (4 + len_of «data») (6 + len_of «data») 2 4 (omega arith) refl refl,
        copy_zeros (u16_to_be src ++ u16_to_be dst) (u16_to_be (8 + len_of «data»)) 0 (2 + len_of «data») (4 + len_of «data») 4 6 (omega arith) refl refl,
        copy_end (u16_to_be src ++ u16_to_be dst ++ u16_to_be (8 + len_of «data»)) «data».bytes 2 (2 + len_of «data») 8 (omega arith) refl,
      )
