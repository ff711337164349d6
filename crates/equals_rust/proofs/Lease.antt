-- The Rust's DHCP: `message_type` is document 01's walk, and panics where that is cut; `build_reply` is RFC 2131's reply.
use Prim.Native.Nat.{ℕ, zero, suc, ◌+◌, ◌-◌, ◌%◌, ◌≤◌, ◌<◌}
use mathlib.Core.Path.{◌≡◌, refl, ap}
use mathlib.Core.Bool.{Bool, true, false}
use mathlib.Core.List.{List, [], ◌∷◌, ◌++◌}
use native.Mathlib.Omega.{arith}
use borrow.Author.Tests.{ltb-true, ltb-false, leb-true, leb-false, eqb-true, eqb-false}
use lib.Dec.{ltb, leb, eqb}
use lib.ListN.{length}
use Rattle.base.specs.Bytes.{be16, u8_at, bytes_at}
use Rattle.dhcp_message.specs.Message.{reply}
use Rattle.equals_rust.proofs.TheNetwork.{four_bytes}
use Rattle.dhcp_message.proofs.ReadBack.{reply_reads_back}
use Rattle.wire.specs.Rfc894.{source_mac}
use Rattle.record.specs.Network.{gateway_mac}
use Rattle.equals_rust.specs.Network.{rust_network}
use Rattle.wire.specs.Rfc791.{header}
use Rattle.frames.specs.Frames.{ip_frame}
use Rattle.base.proofs.Lists.{all_bytes_lem}
use Rattle.options.specs.Rfc2132.{option, Walked, typed, cut, decides, walk}
use Rattle.options.proofs.Places.{walk_at, past_end, at_255, at_0, at_last, at_other, at_type, at_cut}
use Rattle.base.proofs.Choice.{both_left, both_right}
use Rattle.published.specs.Rust.{Run, gives, panics, Slice, whole, len_of, zeros, store, copy, u32_to_be}
use Rattle.published.specs.Frames.{BCAST_MAC, BCAST_IP, GW_IP}
use Rattle.published.specs.Backend.{SlirpBackend, with_xid, pushed}
use Rattle.published.specs.Dhcp.{scan, message_type, build_reply, send_dhcp_reply}
use Rattle.equals_rust.proofs.Operations.{index_in, index_past, array_of, copy_over, be32_same}
use Rattle.equals_rust.proofs.Builders.{ip_frame_given, udp_payload_given}
use Rattle.equals_rust.proofs.Fields.{eth_src_lem}
use Rattle.equals_rust.proofs.Amended.{unsummed, length_unsummed, rust_lease}
use Rattle.equals_rust.specs.Alike.{record_of}
use Rattle.equals_rust.specs.Types.{GuestTyped}

-- the walk, as the Rust comes to it
abbrev pub ran : Walked → Run ℕ
ran (typed type) = gives type
ran (cut place) = panics

-- the loop at a place, with turns enough for what is left
scanned : (turns : ℕ) (dhcp : Slice) (i : ℕ) → len_of dhcp - i < turns → scan turns dhcp i ≡ ran (walk_at 0 dhcp.bytes i)
unfolding scan
scanned zero dhcp i h = absurd (omega arith)
scanned (suc turns) dhcp i h = go (λ j k. scanned turns dhcp j k) (ltb i n) refl (eqb code 255) refl (eqb code 0) refl (leb n (i + 1)) refl (decides code size) refl (ltb (i + 2) n) refl
  where
    s : List ℕ
    s = dhcp.bytes

    n : ℕ
    n = length s

    code : ℕ
    code = u8_at s i

    size : ℕ
    size = u8_at s (i + 1)

    go : ((j : ℕ) → n - j < turns → scan turns dhcp j ≡ ran (walk_at 0 s j))
        → (there : Bool) → ltb i n ≡ there → (is-end : Bool) → eqb code 255 ≡ is-end → (is-pad : Bool) → eqb code 0 ≡ is-pad
        → (is_last : Bool) → leb n (i + 1) ≡ is_last → (it : Bool) → decides code size ≡ it → (value : Bool) → ltb (i + 2) n ≡ value
        → scan (suc turns) dhcp i ≡ ran (walk_at 0 s i)
    go next false e _ _ _ _ _ _ _ _ _ _ = rw (e, past_end 0 s i (ltb-false i n e))
    go next true e true f _ _ _ _ _ _ _ _ =
        let there = ltb-true i n e in
        rw (e, index_in dhcp i there, f, at_255 0 s i there (eqb-true code 255 f))
    go next true e false f true g _ _ _ _ _ _ =
        let there = ltb-true i n e in
        rw (e, index_in dhcp i there, f, g, at_0 0 s i there (eqb-true code 0 g)) (next (i + 1) (omega (arith, h, there)))
    go next true e false f false g true k _ _ _ _ =
        let there = ltb-true i n e in
        rw (e, index_in dhcp i there, f, g, k, at_last 0 s i there (leb-true n (i + 1) k))
    go next true e false f false g false k false l _ _ =
        let there = ltb-true i n e in
        let two = leb-false n (i + 1) k in
        rw (e, index_in dhcp i there, f, g, k, index_in dhcp (i + 1) two, l, at_other 0 s i two (eqb-false code 255 f) (eqb-false code 0 g) l)
        (next (i + (2 + size)) (omega (arith, h, there)))
    go next true e false f false g false k true l true m =
        let there = ltb-true i n e in
        let two = leb-false n (i + 1) k in
        let three = ltb-true (i + 2) n m in
        rw (
          e,
          index_in dhcp i there,
          f,
          g,
          k,
          index_in dhcp (i + 1) two,
          l,
          index_in dhcp (i + 2) three,
          at_type 0 s i two (eqb-true code 53 (both_left _ _ l)) (leb-true 1 size (both_right _ _ l)) three,
        )
    go next true e false f false g false k true l false m =
        let there = ltb-true i n e in
        let two = leb-false n (i + 1) k in
        let none = ltb-false (i + 2) n m in
        rw (
          e,
          index_in dhcp i there,
          f,
          g,
          k,
          index_in dhcp (i + 1) two,
          l,
          index_past dhcp (i + 2) none,
          at_cut 0 s i two (eqb-true code 53 (both_left _ _ l)) (leb-true 1 size (both_right _ _ l)) none,
        )

pub message_type_walks : (dhcp : Slice) → message_type dhcp ≡ ran (walk dhcp.bytes)
unfolding message_type walk
message_type_walks dhcp = scanned (suc (len_of dhcp)) dhcp 240 (omega arith)

-- the reply with these four bytes for its xid
built : (mac xid : List ℕ) (type : ℕ) → List ℕ
built mac xid type =
    (2 ∷ 1 ∷ 6 ∷ 0 ∷ []) ++ xid ++ zeros 8 ++ rust_network.guest ++ rust_network.gateway ++ zeros 4 ++ mac ++ zeros 202 ++ u32_to_be 0x63825363
    ++ option 53 (type ∷ []) ++ option 54 rust_network.gateway ++ option 51 (u32_to_be 86400) ++ option 1 rust_network.mask ++ option 3 rust_network.gateway ++ option 6 rust_network.gateway ++ (255 ∷ zeros 26)

pub build_reply_given : (xid type : ℕ) (mac : List ℕ) → length mac ≡ 6 → build_reply xid mac type ≡ gives (reply rust_network mac xid type)
unfolding build_reply store copy reply built
build_reply_given xid type mac six = rw (all_bytes_lem mac 6 six) (ap (λ (x : List ℕ). gives (built (bytes_at mac 0 6) x type)) (be32_same xid))

-- The frame of a reply: built for the broadcast MAC, then sent to the frame's own source.
module _ (self : SlirpBackend) (frame : List ℕ) (typed : GuestTyped (record_of self)) (long : 34 ≤ length frame) (xid type : ℕ) where
  pub lease_sent : send_dhcp_reply (with_xid xid self) (whole frame) xid type
      ≡ gives (pushed (rust_lease (record_of self) frame xid type) ((self.counter + 1) % 65536) (with_xid xid self))
  unfolding send_dhcp_reply rust_lease ip_frame
  lease_sent =
      let message = reply rust_network self.guest_mac xid type in
      let whole-datagram = unsummed 68 67 message in
      let size : length message ≡ 300 = (reply_reads_back rust_network self.guest_mac xid type four_bytes typed.mac.long).long in
      rw (
        eth_src_lem frame (omega arith),
        array_of (record { start = 6; bytes = source_mac frame }) 6 refl,
        build_reply_given xid type self.guest_mac typed.mac.long,
        udp_payload_given 68 67 (whole message) (omega (arith, size)),
        ip_frame_given self.counter 17 BCAST_MAC GW_IP BCAST_IP (whole whole-datagram) refl refl refl typed.id (omega arith)
            (omega arith, (omega arith, (omega arith, (omega arith, tt)))) (omega arith, (omega arith, (omega arith, (omega arith, tt)))) (omega (arith, size, length_unsummed 68 67 message)),
        copy_over [] BCAST_MAC (gateway_mac ++ be16 0x0800 ++ header (20 + length whole-datagram) self.counter 17 GW_IP BCAST_IP ++ whole-datagram) (source_mac frame) 0 6 refl refl refl,
      )
