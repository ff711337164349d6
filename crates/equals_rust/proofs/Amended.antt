-- What is amended of a frame that the Rust pushed is the ports and the checksum of a UDP frame, and of a datagram that it built the checksum; and the Rust's DHCP reply, so amended, is ours.
use Prim.Native.Nat.{ℕ, ◌+◌, ◌-◌, ◌≤◌, ◌<◌, min}
use mathlib.Core.Bool.{true, false}
use mathlib.Core.List.{List, [], ◌∷◌, ◌++◌}
use mathlib.Core.Path.{◌≡◌, refl, ap, ap₂, sym, ◌∙◌}
use native.Mathlib.Decide.{dec_lt}
use native.Mathlib.Omega.{arith}
use borrow.Author.Tests.{leb-true, leb-false, eq-eqb}
use lib.Dec.{leb}
use lib.ListN.{length, get_or, take, drop, length-append, length-take, length-drop, take-append-drop, get_or-append, get_or-eq_default}
use lib.Seq.{take_at, drop_at, drop-drop, length-take-le, get_or-append-add}
use Rattle.arp_reply.proofs.ReadBack.{arp_reads_back}
use Rattle.arp_reply.specs.Reply.{arp_reply_lem}
use Rattle.base.proofs.Choice.{by_test, both}
use Rattle.base.proofs.Lists.{fits, no_fit, length-put, part-put, put_front, byte_beside}
use Rattle.base.specs.Buffer.{put, put_if_fits}
use Rattle.base.specs.Bytes.{be16, part}
use Rattle.datagrams.proofs.Datagram.{length_datagram}
use Rattle.dhcp_message.specs.Message.{reply}
use Rattle.dhcp_reply.specs.Reply.{dhcp_frame, dhcp_frame_to}
use Rattle.frames.proofs.Lengths.{length_headers}
use Rattle.frames.proofs.ReadBack.{FrameOf, frame_of}
use Rattle.frames.specs.Frames.{headers, ip_frame}
use Rattle.record.specs.Guest.{Sized}
use Rattle.record.specs.Network.{broadcast_of}
use Rattle.record.specs.declared.guest.Guest.{Guest}
use Rattle.record.specs.declared.network.Network.{Network}
use Rattle.wire.specs.Rfc768.{source_port, target_port, checksum_field, datagram_header, checksum_of, datagram}
use Rattle.wire.specs.Rfc791.{source_of, target_of}
use Rattle.wire.specs.Rfc894.{body, source_mac}
use Rattle.equals_rust.specs.Amended.{carries_udp, server_to_client, turned, summed, amended}

-- a piece that is put where it fits: the length is the same, and so is every byte beside it
module _ (at : ℕ) (s b : List ℕ) where
  by_room : (P : List ℕ → Type 0) → (at + length s ≤ length b → P (put at s b)) → P b → P (put_if_fits at s b)
  by_room P there short =
      by_test (leb (at + length s) (length b))
      (λ e. let h = leb-true (at + length s) (length b) e in rw (fits at s b h) (there h))
      (λ e. let h = leb-false (at + length s) (length b) e in rw (no_fit at s b h) short)

  as_long : length (put_if_fits at s b) ≡ length b
  as_long = by_room (λ (l : List ℕ). length l ≡ length b) (λ h. length-put at s b h) refl

  elsewhere : (place : ℕ) → (at ≤ place → at + length s ≤ place) → get_or (put_if_fits at s b) place 0 ≡ get_or b place 0
  elsewhere place out = by_room (λ (l : List ℕ). get_or l place 0 ≡ get_or b place 0) (λ h. byte_beside at s b h place out) refl

-- two lists behind the same front, at a place behind it
behind_front : (front s t : List ℕ) (place : ℕ) → ((k : ℕ) → place ≡ length front + k → get_or s k 0 ≡ get_or t k 0) → get_or (front ++ s) place 0 ≡ get_or (front ++ t) place 0
behind_front front s t place same = go (dec_lt place (length front))
  where
    go : Dec (place < length front) → get_or (front ++ s) place 0 ≡ get_or (front ++ t) place 0
    go (yes h) = get_or-append front s 0 place h ∙ sym (get_or-append front t 0 place h)
    go (no h) =
        let k = place - length front in
        let here : place ≡ length front + k = omega arith in
        ap (λ (n : ℕ). get_or (front ++ s) n 0) here
        ∙ get_or-append-add front s k 0
        ∙ same k here
        ∙ sym (get_or-append-add front t k 0)
        ∙ ap (λ (n : ℕ). get_or (front ++ t) n 0) (sym here)

-- a datagram: 6 and 7 are summed, 0 to 3 turned
module _ (from to datagram : List ℕ) where
  pub summed_as_long : length (summed from to datagram) ≡ length datagram
  unfolding summed
  summed_as_long = as_long 6 _ datagram

  pub summed_elsewhere : (place : ℕ) → (6 ≤ place → 8 ≤ place) → get_or (summed from to datagram) place 0 ≡ get_or datagram place 0
  unfolding summed
  summed_elsewhere place out = elsewhere 6 _ datagram place out

  -- there they are RFC 768's checksum
  pub summed_there : 8 ≤ length datagram
      → part (summed from to datagram) 6 2 ≡ be16 (checksum_of from to (source_port datagram) (target_port datagram) (drop 8 datagram))
  unfolding summed
  summed_there h =
      let two = be16 (checksum_of from to (source_port datagram) (target_port datagram) (drop 8 datagram)) in
      let put_there : summed from to datagram ≡ put 6 two datagram = fits 6 two datagram h in
      rw put_there (part-put 6 two datagram h)

turned_as_long : (d : List ℕ) → length (turned d) ≡ length d
unfolding turned
turned_as_long d = as_long 0 server_to_client d

turned_elsewhere : (d : List ℕ) (place : ℕ) → 4 ≤ place → get_or (turned d) place 0 ≡ get_or d place 0
unfolding turned
turned_elsewhere d place out = elsewhere 0 server_to_client d place (λ _. out)

turned_there : (d : List ℕ) → 4 ≤ length d → turned d ≡ server_to_client ++ drop 4 d
unfolding turned
turned_there d h = fits 0 server_to_client d h ∙ put_front server_to_client d

module _ (frame : List ℕ) where
  -- the datagram of a UDP frame, amended
  its_datagram : List ℕ
  its_datagram = summed (source_of (body frame)) (target_of (body frame)) (turned (drop 34 frame))

  its_as_long : length its_datagram ≡ length (drop 34 frame)
  unfolding its_datagram
  its_as_long = summed_as_long (source_of (body frame)) (target_of (body frame)) (turned (drop 34 frame)) ∙ turned_as_long (drop 34 frame)

  -- by whether the frame is UDP
  by_protocol : (P : List ℕ → Type 0) → P (take 34 frame ++ its_datagram) → P frame → P (amended frame)
  unfolding amended its_datagram
  by_protocol P udp other = by_test (carries_udp frame) (λ e. rw e udp) (λ e. rw e other)

  -- the length is the same
  pub amended_as_long : length (amended frame) ≡ length frame
  amended_as_long =
      by_protocol (λ (l : List ℕ). length l ≡ length frame)
      (length-append (take 34 frame) its_datagram ∙ ap (λ (n : ℕ). length (take 34 frame) + n) its_as_long ∙ sym (length-append (take 34 frame) (drop 34 frame)) ∙ ap length (take-append-drop 34 frame))
      refl

  -- at every place outside 34 to 37 and 40 to 41 the byte is the same
  pub amended_elsewhere : (place : ℕ) → (34 ≤ place → 38 ≤ place) → (40 ≤ place → 42 ≤ place) → get_or (amended frame) place 0 ≡ get_or frame place 0
  unfolding its_datagram
  amended_elsewhere place out out' = go (dec_lt place (length frame))
    where
      same : place < length frame → (k : ℕ) → place ≡ length (take 34 frame) + k → get_or its_datagram k 0 ≡ get_or (drop 34 frame) k 0
      same h k e =
          let here : place ≡ min 34 (length frame) + k = e ∙ ap (λ (n : ℕ). n + k) (length-take 34 frame) in
          let at : place ≡ 34 + k = omega (arith, here) in
          summed_elsewhere (source_of (body frame)) (target_of (body frame)) (turned (drop 34 frame)) k (λ l. omega (arith, at, out' (omega (arith, at))))
          ∙ turned_elsewhere (drop 34 frame) k (omega (arith, at, out (omega (arith, at))))

      go : Dec (place < length frame) → get_or (amended frame) place 0 ≡ get_or frame place 0
      go (yes h) =
          by_protocol (λ (l : List ℕ). get_or l place 0 ≡ get_or frame place 0)
          (behind_front (take 34 frame) its_datagram (drop 34 frame) place (same h) ∙ ap (λ (l : List ℕ). get_or l place 0) (take-append-drop 34 frame)) refl
      go (no h) = get_or-eq_default (amended frame) 0 (omega (arith, amended_as_long)) ∙ sym (get_or-eq_default frame 0 (omega arith))

  -- every other frame is the same
  pub amended_other : carries_udp frame ≡ false → amended frame ≡ frame
  unfolding amended
  amended_other other = rw other

  -- there the bytes of a UDP frame are these: the ports, and RFC 768's checksum over the datagram with them, between the frame's own addresses
  module _ (udp : carries_udp frame ≡ true) (whole : 42 ≤ length frame) where
    datagram_there : drop 34 (amended frame) ≡ its_datagram
    unfolding amended its_datagram
    datagram_there = rw udp (drop_at (take 34 frame) its_datagram 34 (length-take-le 34 frame (omega arith)))

    room : 8 ≤ length (drop 34 frame)
    room = omega (arith, length-drop 34 frame)

    ports : turned (drop 34 frame) ≡ server_to_client ++ drop 4 (drop 34 frame)
    ports = turned_there (drop 34 frame) (omega (arith, room))

    pub ports_there : part (amended frame) 34 4 ≡ 0x00 ∷ 0x43 ∷ 0x00 ∷ 0x44 ∷ []
    unfolding its_datagram summed put
    ports_there =
        rw (datagram_there, ports)
        (ap (take 4) (fits 6 _ (server_to_client ++ drop 4 (drop 34 frame)) (omega (arith, room, length-drop 4 (drop 34 frame)))))

    pub udp_checksum_there : part (amended frame) 40 2 ≡ be16 (checksum_of (source_of (body frame)) (target_of (body frame)) 67 68 (drop 42 frame))
    unfolding its_datagram
    udp_checksum_there =
        let from = source_of (body frame) in
        let to = target_of (body frame) in
        let source : source_port (turned (drop 34 frame)) ≡ 67 = ap source_port ports in
        let target : target_port (turned (drop 34 frame)) ≡ 68 = ap target_port ports in
        let behind : drop 8 (turned (drop 34 frame)) ≡ drop 42 frame = ap (drop 8) ports ∙ drop-drop 4 4 (drop 34 frame) ∙ drop-drop 8 34 frame in
        ap (take 2) (sym (drop-drop 6 34 (amended frame)) ∙ ap (drop 6) datagram_there)
        ∙ summed_there from to (turned (drop 34 frame)) (omega (arith, room, turned_as_long (drop 34 frame)))
        ∙ (λ i. be16 (checksum_of from to (source i) (target i) (behind i)))

-- no ARP packet is UDP, and no ping
pub arp_other : (net : Network) (frame : List ℕ) → length net.gateway ≡ 4 → carries_udp (arp_reply_lem net frame) ≡ false
unfolding carries_udp
arp_other net frame four = rw (arp_reads_back net frame four).type

pub icmp_other : {frame mac source target payload : List ℕ} {id : ℕ} → FrameOf frame mac source target id 1 payload → carries_udp frame ≡ false
unfolding carries_udp
icmp_other f = rw (f.type, f.packet.protocol_is)

-- the Rust's datagram: its checksum is 0
unfoldable pub unsummed : (source target : ℕ) (body : List ℕ) → List ℕ
unsummed source target body = datagram_header 0 source target (8 + length body) ++ body

module _ (source target : ℕ) (d : List ℕ) where
  pub length_unsummed : length (unsummed source target d) ≡ 8 + length d
  unfolding unsummed
  length_unsummed = omega arith

  -- with RFC 768's checksum it is ours
  pub unsummed_summed : (from to : List ℕ) → summed from to (unsummed source target d) ≡ datagram from to source target d
  unfolding summed unsummed datagram put
  unsummed_summed from to =
      let from_port : source_port (unsummed source target d) ≡ source = omega arith in
      let to_port : target_port (unsummed source target d) ≡ target = omega arith in
      let two : List ℕ = be16 (checksum_of from to (source_port (unsummed source target d)) (target_port (unsummed source target d)) d) in
      fits 6 two (unsummed source target d) (omega (arith, length_unsummed))
      ∙ (λ i. datagram_header (checksum_of from to (from_port i) (to_port i) d) source target (8 + length d) ++ d)

-- from 68 to 67, turned
pub unsummed_turned : (d : List ℕ) → turned (unsummed 68 67 d) ≡ unsummed 67 68 d
unfolding turned unsummed put
unsummed_turned d = fits 0 server_to_client (unsummed 68 67 d) (omega (arith, length_unsummed 68 67 d))

-- The frame of the Rust's DHCP reply.
unfoldable pub rust_lease : Guest → (frame : List ℕ) (xid type : ℕ) → List ℕ
rust_lease guest frame xid type =
    ip_frame (source_mac frame) guest.id 17 guest.network.gateway (broadcast_of guest.network) (unsummed 68 67 (reply guest.network guest.mac xid type))

module _ (guest : Guest) (frame : List ℕ) (xid type : ℕ) (sized : Sized guest) where
  abbrev gateway : List ℕ
  gateway = guest.network.gateway

  abbrev broadcast : List ℕ
  broadcast = broadcast_of guest.network

  abbrev message : List ℕ
  message = reply guest.network guest.mac xid type

  framed : FrameOf (rust_lease guest frame xid type) (source_mac frame) gateway broadcast guest.id 17 (unsummed 68 67 message)
  unfolding rust_lease
  framed = frame_of (source_mac frame) gateway broadcast guest.id 17 (unsummed 68 67 message) refl sized.network.gateway refl

  -- its ports are 68 and 67, and it has no checksum
  pub lease_from : source_port (drop 34 (rust_lease guest frame xid type)) ≡ 68
  unfolding unsummed
  lease_from = rw framed.carried

  pub lease_to : target_port (drop 34 (rust_lease guest frame xid type)) ≡ 67
  unfolding unsummed
  lease_to = rw framed.carried

  pub lease_unsummed : checksum_field (drop 34 (rust_lease guest frame xid type)) ≡ 0
  unfolding unsummed
  lease_unsummed = rw framed.carried

  is_udp : carries_udp (rust_lease guest frame xid type) ≡ true
  unfolding carries_udp
  is_udp = both _ _ (eq-eqb _ _ framed.type) (eq-eqb _ _ framed.packet.protocol_is)

  -- before the datagram it is ours
  its_front : take 34 (rust_lease guest frame xid type) ≡ headers (source_mac frame) (20 + length (datagram gateway broadcast 67 68 message)) guest.id 17 gateway broadcast
  unfolding rust_lease ip_frame
  its_front =
      take_at (headers (source_mac frame) (20 + length (unsummed 68 67 message)) guest.id 17 gateway broadcast) (unsummed 68 67 message) 34
      (length_headers gateway broadcast sized.network.gateway refl (source_mac frame) (20 + length (unsummed 68 67 message)) guest.id 17 refl)
      ∙ ap (λ (n : ℕ). headers (source_mac frame) (20 + n) guest.id 17 gateway broadcast) (length_unsummed 68 67 message ∙ sym (length_datagram gateway broadcast 67 68 message))

  -- and so is the datagram, once it is amended
  its_rest : its_datagram (rust_lease guest frame xid type) ≡ datagram gateway broadcast 67 68 message
  unfolding its_datagram
  its_rest =
      (λ i. summed (framed.packet.source_is i) (framed.packet.target_is i) (turned (framed.carried i)))
      ∙ ap (summed gateway broadcast) (unsummed_turned message)
      ∙ unsummed_summed 67 68 message gateway broadcast

  -- amended, it is ours
  pub lease_amended : amended (rust_lease guest frame xid type) ≡ dhcp_frame guest frame xid type
  unfolding amended its_datagram dhcp_frame_to ip_frame
  lease_amended = rw is_udp (ap₂ (λ (s t : List ℕ). s ++ t) its_front its_rest)
