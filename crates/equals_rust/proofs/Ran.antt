-- The Rust on a guest frame, test by test beside document 01's order of tests: what its run comes to, for each decision.
use Prim.Native.Nat.{ℕ, ◌+◌, ◌-◌, ◌%◌, ◌≤◌, min}
use mathlib.Core.Path.{◌≡◌, refl, ap}
use mathlib.Core.Bool.{Bool, true, false, not, ◌&&◌, cond}
use mathlib.Core.Logic.{◌⊎◌, inl, inr}
use mathlib.Core.List.{List, [], ◌∷◌}
use native.Mathlib.Omega.{arith}
use borrow.Author.Tests.{ltb-true, ltb-false, eqb-true, not-false}
use lib.Dec.{ltb, eqb}
use lib.ListN.{length, take, drop, length-drop}
use lib.Seq.{drop-drop}
use Rattle.base.specs.Bytes.{u32_at, bytes_at}
use native.Mathlib.Numerals.{towards_suc}
use Rattle.wire.specs.Rfc768.{source_port, target_port, length_field}
use Rattle.wire.specs.Rfc791.{protocol_of, source_of, target_of}
use Rattle.wire.specs.Rfc792.{message_type_lem}
use Rattle.wire.specs.Rfc826 as Arp
use Rattle.wire.specs.Rfc894.{body, type_of, source_mac}
use Rattle.wire.specs.Rfc2131 as Dhcp
use Rattle.equals_rust.specs.Network.{rust_network}
use Rattle.base.proofs.Lists.{from_on}
use Rattle.options.specs.Rfc2132.{Walked, typed, cut, walk}
use Rattle.published.specs.Rust.{Run, gives, panics, cuts, ◌>>=◌, Slice, whole, range, store, copy, same_array, u32_from_be}
use Rattle.published.specs.Backend.{handle_dns, relay_datagram, handle_tcp, SlirpBackend, with_xid, pushed, calling}
use Rattle.published.specs.Slirp.{handle_arp, handle_icmp, handle_ip, send}
use Rattle.published.specs.Udp.{handle_udp}
use Rattle.published.specs.Dhcp.{handle_dhcp, send_dhcp_reply}
use Rattle.echo_reply.specs.Reply.{echo_frame}
use Rattle.arp_reply.specs.Reply.{arp_reply_lem, reply_to}
use Rattle.rules.specs.Rules.{payload_at_lem, payload, data_end, data_at, data_length, datagram_data, decision, arp_decision, ip_decision, icmp_decision, udp_decision, dhcp_decision, type_decision}
use Rattle.rules.specs.Same.{same}
use Rattle.rules.specs.Seen.{Carries}
use Rattle.std.specs.Prelude.{Result, Ok, Err}
use Rattle.record.specs.declared.answer.Refusal.{Refusal}
use Rattle.record.specs.declared.answer.Refusal.TheVariants.{NoRoom, TooLong, CutType}
use Rattle.rules.specs.declared.decision.Decision.{Decision}
use Rattle.rules.specs.declared.decision.Decision.TheVariants.{Drop, DropNoting, ArpReply, EchoReply, DhcpReply, Dns, Relay, Tcp}
use Rattle.rules.proofs.Same.{same_equal}
use Rattle.rules.proofs.Says.{either}
use Rattle.equals_rust.specs.Alike.{record_of}
use Rattle.equals_rust.specs.Types.{Bytes, GuestTyped}
use Rattle.equals_rust.specs.Where.{HeaderPast}
use Rattle.equals_rust.proofs.Operations.{index_in, range_in, array_of, bytes_drop}
use Rattle.equals_rust.proofs.Amended.{rust_lease}
use Rattle.equals_rust.proofs.Lease.{ran, message_type_walks, lease_sent}
use Rattle.equals_rust.proofs.Ping.{answered, ping_cut, ping_answered}
use Rattle.equals_rust.proofs.Fields.{range_at, u16be_in, eth_src_lem, eth_type_lem, ip_proto_lem, ip_src_lem, ip_dst_lem, payload_there, payload_past}
use Rattle.base.proofs.Choice.{by_test}

-- what a run comes to, by the decision
unfoldable pub Ran : (self : SlirpBackend) (frame : List ℕ) → Run SlirpBackend → Result Decision Refusal → Type 0
Ran self frame r (Ok Drop) = (r ≡ gives self) ⊎ (HeaderPast frame × (r ≡ panics))
Ran self frame r (Ok (DropNoting xid)) = r ≡ gives (with_xid xid self)
Ran self frame r (Ok ArpReply) = r ≡ gives (pushed (arp_reply_lem rust_network frame) self.counter self)
Ran self frame r (Ok (EchoReply start)) = r ≡ gives (pushed (echo_frame (record_of self) frame start) ((self.counter + 1) % 65536) self)
Ran self frame r (Ok (DhcpReply xid type)) = r ≡ gives (pushed (rust_lease (record_of self) frame xid type) ((self.counter + 1) % 65536) (with_xid xid self))
Ran self frame r (Ok (Dns start len)) =
    r ≡ gives (calling (handle_dns (record { start = start; bytes = take len (drop start frame) }) (source_mac frame) (source_of (body frame)) (source_port (payload frame))) self)
Ran self frame r (Ok (Relay start len)) =
    r ≡ gives (calling (relay_datagram (source_mac frame) (source_of (body frame)) (source_port (payload frame)) (target_of (body frame)) (target_port (payload frame)) (record { start = start; bytes = take len (drop start frame) })) self)
Ran self frame r (Ok (Tcp len)) = (len ≡ length frame) × (r ≡ gives (calling (handle_tcp (whole frame)) self))
Ran self frame r (Err (NoRoom needed)) = ⊥
Ran self frame r (Err (TooLong len)) = r ≡ cuts
Ran self frame r (Err (CutType place)) = r ≡ panics

-- two choices by one test
both : {A : Type 0} (P : Run SlirpBackend → A → Type 0) (t : Bool) (r r' : Run SlirpBackend) (d d' : A) → (t ≡ true → P r d) → (t ≡ false → P r' d') → P (cond t r r') (cond t d d')
both P true r r' d d' f g = f refl
both P false r r' d d' f g = g refl

from_be : (s : List ℕ) (at : ℕ) → u32_from_be (bytes_at s at 4) ≡ u32_at s at
from_be s at = simp towards_suc (omega arith)

pub same_array_lem : (s t : List ℕ) → same_array s t ≡ same s t
unfolding same_array
same_array_lem [] [] = refl
same_array_lem [] (b ∷ t) = refl
same_array_lem (a ∷ s) [] = refl
same_array_lem (a ∷ s) (b ∷ t) = ap (λ (x : Bool). eqb a b && x) (same_array_lem s t)

and_swap : (x y : Bool) → (x && y) ≡ (y && x)
and_swap true true = refl
and_swap true false = refl
and_swap false true = refl
and_swap false false = refl

-- "the smaller of length field and payload end"
smaller : (stated there : ℕ) → min stated there ≡ cond (ltb there stated) there stated
smaller stated there =
    by_test (ltb there stated)
    (λ e. rw e (omega (arith, ltb-true there stated e)))
    (λ e. rw e (omega (arith, ltb-false there stated e)))

module _ (self : SlirpBackend) (frame : List ℕ) where
  dropped : Ran self frame (gives self) (Ok Drop)
  unfolding Ran
  dropped = inl refl

  arp_replied : Ran self frame
      (gives (pushed (reply_to rust_network.gateway (Arp.sender_mac_lem (body frame)) (Arp.sender_address (body frame))) self.counter self)) (Ok ArpReply)
  unfolding Ran
  arp_replied = refl

  arp_ran : Ran self frame (handle_arp self (whole frame)) (Ok (arp_decision rust_network frame))
  unfolding handle_arp arp_decision copy store reply_to
  arp_ran =
      both (λ (r : Run SlirpBackend) (d : Decision). Ran self frame r (Ok d)) (ltb (length frame) 42) _ _ _ _ (λ e. dropped) (λ e.
      let long = ltb-false (length frame) 42 e in
      let arp : Slice = record { start = 14; bytes = body frame } in
      let behind : length (body frame) ≡ length frame - 14 = length-drop 14 frame in
      rw (range_in (whole frame) 14 (length frame) (omega (arith, long)) (omega arith), from_on 14 frame, u16be_in arp 6 (omega (arith, long, behind)))
      (both (λ (r : Run SlirpBackend) (d : Decision). Ran self frame r (Ok d)) (not (eqb (Arp.operation (body frame)) 1)) _ _ _ _ (λ f. dropped) (λ f.
      rw (
        range_at arp 24 4 (omega (arith, long, behind)),
        array_of (record { start = 38; bytes = Arp.sought_address (body frame) }) 4 refl,
        same_array_lem (Arp.sought_address (body frame)) rust_network.gateway,
      )
      (both (λ (r : Run SlirpBackend) (d : Decision). Ran self frame r (Ok d)) (not (same (Arp.sought_address (body frame)) rust_network.gateway)) _ _ _ _ (λ g. dropped) (λ g.
      rw (
        range_at arp 8 6 (omega (arith, long, behind)),
        array_of (record { start = 22; bytes = Arp.sender_mac_lem (body frame) }) 6 refl,
        range_at arp 14 4 (omega (arith, long, behind)),
        array_of (record { start = 28; bytes = Arp.sender_address (body frame) }) 4 refl,
      )
      arp_replied)))))

module _ (self : SlirpBackend) (frame : List ℕ) (as-typed : GuestTyped (record_of self)) (bytes : Bytes frame) where
  panicked : HeaderPast frame → Ran self frame panics (Ok Drop)
  unfolding Ran
  panicked h = inr (h, refl)

  echoed : (r : Run SlirpBackend) → r ≡ gives (pushed (echo_frame (record_of self) frame (payload_at_lem frame)) ((self.counter + 1) % 65536) self)
      → Ran self frame r (Ok (EchoReply (payload_at_lem frame)))
  unfolding Ran
  echoed r e = e

  cut_short : (r : Run SlirpBackend) (len : ℕ) → r ≡ cuts → Ran self frame r (Err (TooLong len))
  unfolding Ran
  cut_short r len e = e

  icmp_ran : Carries frame 1 → Ran self frame (handle_icmp self (whole frame)) (icmp_decision rust_network frame)
  unfolding handle_icmp icmp_decision
  icmp_ran icmp =
      let long = icmp.long in
      rw (ip_dst_lem frame long, same_array_lem (target_of (body frame)) rust_network.gateway)
      (both (Ran self frame) (not (same (target_of (body frame)) rust_network.gateway)) _ _ _ _ (λ e. dropped self frame) (λ e.
      either (Ran self frame _) (ltb (length frame) (payload_at_lem frame)) _ _
      (λ f.
      let past = ltb-true (length frame) (payload_at_lem frame) f in
      rw (payload_past frame (omega (arith, long)) past) (panicked (record { read = inl (icmp, same_equal _ _ (not-false _ e)); past = past })))
      (λ f.
      let there = ltb-false (length frame) (payload_at_lem frame) f in
      let payload' : Slice = record { start = payload_at_lem frame; bytes = payload frame } in
      rw (payload_there frame (omega (arith, long)) there)
      (both (Ran self frame) (ltb (length (payload frame)) 8) _ _ _ _ (λ g. dropped self frame) (λ g.
      let eight = ltb-false (length (payload frame)) 8 g in
      rw (index_in payload' 0 (omega (arith, eight)))
      (both (Ran self frame) (not (eqb (message_type_lem (payload frame)) 8)) _ _ _ _ (λ k. dropped self frame) (λ k.
      either (Ran self frame (answered self frame payload')) (ltb 65515 (length (payload frame))) _ _
      (λ over. cut_short _ _ (ping_cut self frame payload' long eight (ltb-true 65515 (length (payload frame)) over)))
      (λ within.
      echoed _ (ping_answered self frame payload' long eight as-typed.id bytes (bytes_drop (payload_at_lem frame) frame bytes) (ltb-false 65515 (length (payload frame)) within))))))))))

  noted : (xid : ℕ) → Ran self frame (gives (with_xid xid self)) (Ok (DropNoting xid))
  unfolding Ran
  noted xid = refl

  leased : (r : Run SlirpBackend) (xid type : ℕ) → r ≡ gives (pushed (rust_lease (record_of self) frame xid type) ((self.counter + 1) % 65536) (with_xid xid self))
      → Ran self frame r (Ok (DhcpReply xid type))
  unfolding Ran
  leased r xid type e = e

  type_cut : (place : ℕ) → Ran self frame panics (Err (CutType place))
  unfolding Ran
  type_cut place = refl

  -- the end of `handle_dhcp`, by the walk
  type_ran : 34 ≤ length frame → (xid : ℕ) (w : Walked)
      → Ran self frame
      (ran w >>= λ type.
      cond (eqb type 1) (send_dhcp_reply (with_xid xid self) (whole frame) xid 2)
      (cond (eqb type 3) (send_dhcp_reply (with_xid xid self) (whole frame) xid 5)
      (gives (with_xid xid self))))
      (type_decision xid w)
  type_ran long xid (cut place) = type_cut place
  type_ran long xid (typed type) = go (eqb type 1) (eqb type 3)
    where
      go : (one three : Bool)
          → Ran self frame
          (cond one (send_dhcp_reply (with_xid xid self) (whole frame) xid 2)
          (cond three (send_dhcp_reply (with_xid xid self) (whole frame) xid 5)
          (gives (with_xid xid self))))
          (cond (eqb (cond one 2 (cond three 5 0)) 0) (Ok (DropNoting xid)) (Ok (DhcpReply xid (cond one 2 (cond three 5 0)))))
      go true three = leased _ xid 2 (lease_sent self frame as-typed long xid 2)
      go false true = leased _ xid 5 (lease_sent self frame as-typed long xid 5)
      go false false = noted xid

  dhcp_ran : 34 ≤ length frame → (start : ℕ) (message : List ℕ)
      → Ran self frame (handle_dhcp self (whole frame) (record { start = start; bytes = message })) (dhcp_decision message)
  unfolding handle_dhcp dhcp_decision
  dhcp_ran long start message =
      let dhcp : Slice = record { start = start; bytes = message } in
      both (Ran self frame) (ltb (length message) 240) _ _ _ _ (λ e. dropped self frame) (λ e.
      let fixed = ltb-false (length message) 240 e in
      rw (index_in dhcp 0 (omega (arith, fixed)))
      (both (Ran self frame) (not (eqb (Dhcp.operation message) 1)) _ _ _ _ (λ f. dropped self frame) (λ f.
      rw (
        range_at dhcp 4 4 (omega (arith, fixed)),
        array_of (record { start = start + 4; bytes = bytes_at message 4 4 }) 4 refl,
        range_at dhcp 236 4 (omega (arith, fixed)),
        array_of (record { start = start + 236; bytes = bytes_at message 236 4 }) 4 refl,
        from_be message 4,
        from_be message 236,
      )
      (both (Ran self frame) (not (eqb (Dhcp.magic_cookie message) 0x63825363)) _ _ _ _ (λ g. noted (Dhcp.transaction_id message)) (λ g.
      rw (message_type_walks dhcp) (type_ran long (Dhcp.transaction_id message) (walk message)))))))

  named : (start len : ℕ)
      → Ran self frame
      (gives (calling (handle_dns (record { start = start; bytes = take len (drop start frame) }) (source_mac frame) (source_of (body frame)) (source_port (payload frame))) self))
      (Ok (Dns start len))
  unfolding Ran
  named start len = refl

  relayed : (start len : ℕ)
      → Ran self frame
      (gives
      (calling
      (relay_datagram (source_mac frame) (source_of (body frame)) (source_port (payload frame)) (target_of (body frame)) (target_port (payload frame))
      (record { start = start; bytes = take len (drop start frame) }))
      self))
      (Ok (Relay start len))
  unfolding Ran
  relayed start len = refl

  -- the data of a datagram
  data_part : payload_at_lem frame ≤ length frame → 8 ≤ length (payload frame) → 8 ≤ length_field (payload frame)
      → range (record { start = payload_at_lem frame; bytes = payload frame }) 8 (min (length_field (payload frame)) (length (payload frame)))
      ≡ gives (record { start = data_at frame; bytes = datagram_data frame })
  data_part there whole stated =
      rw (
        smaller (length_field (payload frame)) (length (payload frame)),
        range_in (record { start = payload_at_lem frame; bytes = payload frame }) 8 (data_end (payload frame)) reaches.0 reaches.1,
        drop-drop 8 (payload_at_lem frame) frame,
      )
    where
      go : (t : Bool) → ltb (length (payload frame)) (length_field (payload frame)) ≡ t
          → (8 ≤ cond t (length (payload frame)) (length_field (payload frame))) × (cond t (length (payload frame)) (length_field (payload frame)) ≤ length (payload frame))
      go true e = (whole, omega arith)
      go false e = (stated, ltb-false (length (payload frame)) (length_field (payload frame)) e)

      reaches : (8 ≤ data_end (payload frame)) × (data_end (payload frame) ≤ length (payload frame))
      reaches = go (ltb (length (payload frame)) (length_field (payload frame))) refl

  udp_ran : Carries frame 17 → Ran self frame (handle_udp self (whole frame)) (udp_decision rust_network frame)
  unfolding handle_udp udp_decision
  udp_ran udp =
      let long = udp.long in
      either (Ran self frame _) (ltb (length frame) (payload_at_lem frame)) _ _
      (λ f.
      let past = ltb-true (length frame) (payload_at_lem frame) f in
      rw (payload_past frame (omega (arith, long)) past) (panicked (record { read = inr udp; past = past })))
      (λ f.
      let there = ltb-false (length frame) (payload_at_lem frame) f in
      let payload' : Slice = record { start = payload_at_lem frame; bytes = payload frame } in
      rw (payload_there frame (omega (arith, long)) there)
      (both (Ran self frame) (ltb (length (payload frame)) 8) _ _ _ _ (λ g. dropped self frame) (λ g.
      let eight = ltb-false (length (payload frame)) 8 g in
      rw (u16be_in payload' 0 (omega (arith, eight)), u16be_in payload' 2 (omega (arith, eight)), u16be_in payload' 4 (omega (arith, eight)))
      (both (Ran self frame) (ltb (length_field (payload frame)) 8) _ _ _ _ (λ k. dropped self frame) (λ k.
      rw (
        ip_dst_lem frame long,
        ip_src_lem frame long,
        eth_src_lem frame (omega (arith, long)),
        array_of (record { start = 6; bytes = source_mac frame }) 6 refl,
        data_part there eight (ltb-false (length_field (payload frame)) 8 k),
        and_swap (eqb (target_port (payload frame)) 67) (eqb (source_port (payload frame)) 68),
      )
      (both (Ran self frame) (eqb (source_port (payload frame)) 68 && eqb (target_port (payload frame)) 67) _ _ _ _
      (λ l. dhcp_ran long (data_at frame) (datagram_data frame))
      (λ l.
      rw (same_array_lem (target_of (body frame)) rust_network.gateway)
      (both (Ran self frame) (same (target_of (body frame)) rust_network.gateway && eqb (target_port (payload frame)) 53) _ _ _ _
      (λ m. named (data_at frame) (data_length frame)) (λ m. relayed (data_at frame) (data_length frame))))))))))

  handed_on : Ran self frame (gives (calling (handle_tcp (whole frame)) self)) (Ok (Tcp (length frame)))
  unfolding Ran
  handed_on = (refl, refl)

  ip_ran : type_of frame ≡ 0x0800 → Ran self frame (handle_ip self (whole frame)) (ip_decision rust_network frame)
  unfolding handle_ip ip_decision
  ip_ran ipv4 =
      both (Ran self frame) (ltb (length frame) 34) _ _ _ _ (λ e. dropped self frame) (λ e.
      let long = ltb-false (length frame) 34 e in
      let proto = protocol_of (body frame) in
      let carries : (n : ℕ) → eqb proto n ≡ true → Carries frame n = λ n f. record { long = long; ipv4 = ipv4; carried = eqb-true proto n f } in
      rw (ip_proto_lem frame (omega (arith, long)))
      (both (Ran self frame) (eqb proto 1) _ _ _ _ (λ f. icmp_ran (carries 1 f)) (λ f.
      both (Ran self frame) (eqb proto 6) _ _ _ _ (λ g. handed_on) (λ g.
      both (Ran self frame) (eqb proto 17) _ _ _ _ (λ k. udp_ran (carries 17 k)) (λ k. dropped self frame)))))

  -- the whole call
  pub send_ran : Ran self frame (send self (whole frame)) (decision rust_network frame)
  unfolding send decision
  send_ran =
      both (Ran self frame) (ltb (length frame) 14) _ _ _ _ (λ e. dropped self frame) (λ e.
      let long = ltb-false (length frame) 14 e in
      rw (eth_type_lem frame long)
      (both (Ran self frame) (eqb (type_of frame) 0x0806) _ _ _ _ (λ f. arp_ran self frame) (λ f.
      both (Ran self frame) (eqb (type_of frame) 0x0800) _ _ _ _ (λ g. ip_ran (eqb-true (type_of frame) 0x0800 g)) (λ g. dropped self frame))))
