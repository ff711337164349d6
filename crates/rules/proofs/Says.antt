-- What each decision says of its frame, by going through the tests once; and that a ping, too long or not, a DHCP message and a TCP frame are always decided as such.
use Prim.Native.Nat.{ℕ, ◌≤◌, ◌<◌}
use mathlib.Core.Path.{◌≡◌, refl, ap, subst, subst⁻¹, ◌∙◌}
use mathlib.Core.Bool.{Bool, true, false, not, ◌&&◌, cond}
use mathlib.Core.Logic.{◌⊎◌, inl, inr}
use mathlib.Core.List.{List}
use native.Mathlib.Omega.{arith}
use borrow.Author.Tests.{ltb-true, ltb-false, lt-ltb, le-ltb, eqb-true, eq-eqb, ne_eqb, not-false}
use lib.Dec.{T, ltb, eqb}
use lib.ListN.{length, length-drop}
use Rattle.dhcp_message.specs.Message.{answering}
use Rattle.options.specs.Rfc2132.{Walked, typed, cut, walk}
use Rattle.wire.specs.Rfc768.{source_port, target_port, length_field}
use Rattle.wire.specs.Rfc791.{protocol_of, target_of}
use Rattle.wire.specs.Rfc792.{message_type_lem}
use Rattle.wire.specs.Rfc826 as Arp
use Rattle.wire.specs.Rfc894.{body, type_of}
use Rattle.wire.specs.Rfc2131 as Dhcp
use Rattle.std.specs.Prelude.{Result, Ok, Err}
use Rattle.record.specs.declared.answer.Refusal.{Refusal}
use Rattle.record.specs.declared.answer.Refusal.TheVariants.{NoRoom, TooLong, CutType}
use Rattle.record.specs.declared.network.Network.{Network}
use Rattle.rules.specs.Rules.{payload_at_lem, payload, data_at, data_length, datagram_data, decision, arp_decision, ip_decision, icmp_decision, udp_decision, dhcp_decision, type_decision}
use Rattle.rules.specs.Same.{same}
use Rattle.rules.specs.Seen.{Carries, Datagram, Message, CutMessage, Handed, Query, Outbound, EchoAsked, TooLongPing, Segment}
use Rattle.rules.specs.declared.decision.Decision.{Decision}
use Rattle.rules.specs.declared.decision.Decision.TheVariants.{Drop, DropNoting, ArpReply, EchoReply, DhcpReply, Dns, Relay, Tcp}
use Rattle.base.proofs.Choice.{both_left, both_right}
use Rattle.rules.proofs.Same.{same_equal, equal_same}

unfoldable pub Says : Network → (frame : List ℕ) → Result Decision Refusal → Type 0
Says net frame (Ok Drop) = Unit
Says net frame (Ok (DropNoting xid)) = Message frame xid
Says net frame (Ok ArpReply) = (type_of frame ≡ 0x0806) × (42 ≤ length frame)
Says net frame (Ok (EchoReply start)) = EchoAsked net frame × (start ≡ payload_at_lem frame) × (length (payload frame) ≤ 65515)
Says net frame (Ok (DhcpReply xid type)) = Message frame xid × ((type ≡ 2) ⊎ (type ≡ 5))
Says net frame (Ok (Dns start len)) = Query net frame start len
Says net frame (Ok (Relay start len)) = Outbound net frame start len
Says net frame (Ok (Tcp len)) = Segment frame len
Says net frame (Err (NoRoom needed)) = ⊥  -- the room isn't looked at
Says net frame (Err (TooLong len)) = TooLongPing net frame len
Says net frame (Err (CutType place)) = CutMessage frame place

-- what holds in both cases of a test holds
pub either : {A : Type 0} (P : A → Type 0) (t : Bool) (a b : A) → (t ≡ true → P a) → (t ≡ false → P b) → P (cond t a b)
either P true a b f g = f refl
either P false a b f g = g refl

not_both : (x y : Bool) → (x && y) ≡ false → x ≡ true → y ≡ true → ⊥
not_both true true e p q = subst T e tt
not_both true false e p q = subst⁻¹ T q tt
not_both false y e p q = subst⁻¹ T p tt

-- an answer that is not 0 is an offer or an acknowledgement
offer_or_ack : (x y : Bool) (answer : ℕ) → answer ≡ cond x 2 (cond y 5 0) → eqb answer 0 ≡ false → (answer ≡ 2) ⊎ (answer ≡ 5)
offer_or_ack true y answer e f = inl e
offer_or_ack false true answer e f = inr e
offer_or_ack false false answer e f = absurd (subst T (rw e at f) tt)

module _ (net : Network) (frame : List ℕ) where
  arp_says : type_of frame ≡ 0x0806 → Says net frame (Ok (arp_decision net frame))
  unfolding Says arp_decision
  arp_says t =
      either (λ (d : Decision). Says net frame (Ok d)) (ltb (length frame) 42) _ _ (λ e. tt) (λ long.
      either (λ (d : Decision). Says net frame (Ok d)) (not (eqb (Arp.operation (body frame)) 1)) _ _ (λ e. tt) (λ f.
      either (λ (d : Decision). Says net frame (Ok d)) (not (same (Arp.sought_address (body frame)) net.gateway)) _ _ (λ e. tt) (λ g.
      (t, ltb-false (length frame) 42 long))))

  icmp_says : Carries frame 1 → Says net frame (icmp_decision net frame)
  unfolding Says icmp_decision
  icmp_says icmp =
      either (Says net frame) (not (same (target_of (body frame)) net.gateway)) _ _ (λ e. tt) (λ ours.
      either (Says net frame) (ltb (length frame) (payload_at_lem frame)) _ _ (λ f. tt) (λ past.
      either (Says net frame) (ltb (length (payload frame)) 8) _ _ (λ f. tt) (λ short.
      either (Says net frame) (not (eqb (message_type_lem (payload frame)) 8)) _ _ (λ f. tt) (λ type.
      let r : EchoAsked net frame =
      record {
        icmp = icmp;
        to_gateway_lem = same_equal _ _ (not-false _ ours);
        there = ltb-false (length frame) (payload_at_lem frame) past;
        whole = ltb-false (length (payload frame)) 8 short;
        request = eqb-true (message_type_lem (payload frame)) 8 (not-false _ type);
      } in
      either (Says net frame) (ltb 65515 (length (payload frame))) _ _
      (λ over. record { asked = r; its_length = refl; over = ltb-true 65515 (length (payload frame)) over })
      (λ within. (r, refl, ltb-false 65515 (length (payload frame)) within))))))

  type_says : Message frame (Dhcp.transaction_id (datagram_data frame)) → Dhcp.magic_cookie (datagram_data frame) ≡ 0x63825363 → (w : Walked) → walk (datagram_data frame) ≡ w
      → Says net frame (type_decision (Dhcp.transaction_id (datagram_data frame)) w)
  unfolding Says
  type_says m c (typed type) e = either (Says net frame) (eqb (answering type) 0) _ _ (λ f. m) (λ f. (m, offer_or_ack (eqb type 1) (eqb type 3) _ refl f))
  type_says m c (cut place) e = record { message = m; cookie = c; cut_off = e }

  dhcp_says : Datagram frame → source_port (payload frame) ≡ 68 → target_port (payload frame) ≡ 67 → Says net frame (dhcp_decision (datagram_data frame))
  unfolding Says dhcp_decision
  dhcp_says datagram from to =
      either (Says net frame) (ltb (length (datagram_data frame)) 240) _ _ (λ e. tt) (λ short.
      either (Says net frame) (not (eqb (Dhcp.operation (datagram_data frame)) 1)) _ _ (λ e. tt) (λ client.
      let m : Message frame (Dhcp.transaction_id (datagram_data frame)) =
      record {
        datagram = datagram;
        from_68 = from;
        to_67 = to;
        fixed = ltb-false (length (datagram_data frame)) 240 short;
        from_client = eqb-true (Dhcp.operation (datagram_data frame)) 1 (not-false _ client);
        its_xid = refl;
      } in
      either (Says net frame) (not (eqb (Dhcp.magic_cookie (datagram_data frame)) 0x63825363)) _ _ (λ e. m) (λ cookie.
      type_says m (eqb-true (Dhcp.magic_cookie (datagram_data frame)) 0x63825363 (not-false _ cookie)) (walk (datagram_data frame)) refl)))

  udp_says : Carries frame 17 → Says net frame (udp_decision net frame)
  unfolding Says udp_decision
  udp_says udp =
      let s = source_port (payload frame) in
      let t = target_port (payload frame) in
      let ours = same (target_of (body frame)) net.gateway in
      either (Says net frame) (ltb (length frame) (payload_at_lem frame)) _ _ (λ e. tt) (λ past.
      either (Says net frame) (ltb (length (payload frame)) 8) _ _ (λ e. tt) (λ short.
      either (Says net frame) (ltb (length_field (payload frame)) 8) _ _ (λ e. tt) (λ small.
      let d : Datagram frame =
      record {
        udp = udp;
        there = ltb-false (length frame) (payload_at_lem frame) past;
        whole = ltb-false (length (payload frame)) 8 short;
        stated = ltb-false (length_field (payload frame)) 8 small;
      } in
      either (Says net frame) (eqb s 68 && eqb t 67) _ _
      (λ e. dhcp_says d (eqb-true s 68 (both_left (eqb s 68) (eqb t 67) e)) (eqb-true t 67 (both_right (eqb s 68) (eqb t 67) e)))
      (λ other.
      either (Says net frame) (ours && eqb t 53) _ _
      (λ e.
      record { handed = handed d; to_gateway_lem = same_equal _ _ (both_left ours (eqb t 53) e); to_53 = eqb-true t 53 (both_right ours (eqb t 53) e) })
      (λ e.
      record {
        handed = handed d;
        no_dhcp = λ p q. not_both (eqb s 68) (eqb t 67) other (eq-eqb s 68 p) (eq-eqb t 67 q);
        no_query = λ p q. not_both ours (eqb t 53) e (ap (λ (l : List ℕ). same l net.gateway) p ∙ equal_same net.gateway) (eq-eqb t 53 q);
      })))))
    where
      no_longer : (l f : ℕ) → cond (ltb l f) l f ≤ l
      no_longer l f = go (ltb l f) refl
        where
          go : (t : Bool) → ltb l f ≡ t → cond t l f ≤ l
          go true e = omega arith
          go false e = ltb-false l f e

      handed : Datagram frame → Handed frame (data_at frame) (data_length frame)
      handed d =
          record {
            datagram = d;
            starts = refl;
            ends = refl;
            inside = omega (arith, length-drop (payload_at_lem frame) frame, no_longer (length (payload frame)) (length_field (payload frame)), d.there, d.whole);
            its_data = refl;
          }

  ip_says : type_of frame ≡ 0x0800 → Says net frame (ip_decision net frame)
  unfolding Says ip_decision
  ip_says t =
      let carries : (protocol : ℕ) → ltb (length frame) 34 ≡ false → eqb (protocol_of (body frame)) protocol ≡ true → Carries frame protocol =
      λ protocol short p. record { long = ltb-false (length frame) 34 short; ipv4 = t; carried = eqb-true (protocol_of (body frame)) protocol p } in
      either (Says net frame) (ltb (length frame) 34) _ _ (λ e. tt) (λ short.
      either (Says net frame) (eqb (protocol_of (body frame)) 1) _ _ (λ p. icmp_says (carries 1 short p)) (λ e.
      either (Says net frame) (eqb (protocol_of (body frame)) 6) _ _ (λ p. record { tcp = carries 6 short p; its_length = refl }) (λ f.
      either (Says net frame) (eqb (protocol_of (body frame)) 17) _ _ (λ p. udp_says (carries 17 short p)) (λ g. tt))))

  pub says : Says net frame (decision net frame)
  unfolding Says decision
  says =
      either (Says net frame) (ltb (length frame) 14) _ _ (λ e. tt) (λ e.
      either (Says net frame) (eqb (type_of frame) 0x0806) _ _ (λ t. arp_says (eqb-true (type_of frame) 0x0806 t)) (λ f.
      either (Says net frame) (eqb (type_of frame) 0x0800) _ _ (λ t. ip_says (eqb-true (type_of frame) 0x0800 t)) (λ g. tt)))

  -- the tests that a ping passes lead to its length
  echo_decided : EchoAsked net frame → decision net frame ≡ cond (ltb 65515 (length (payload frame))) (Err (TooLong (length (payload frame)))) (Ok (EchoReply (payload_at_lem frame)))
  unfolding decision ip_decision icmp_decision
  echo_decided a =
      let c = a.icmp in
      let ours : same (target_of (body frame)) net.gateway ≡ true = ap (λ (l : List ℕ). same l net.gateway) a.to_gateway_lem ∙ equal_same net.gateway in
      simp (
        le-ltb (length frame) 14 (omega (arith, c.long)),
        ne_eqb (type_of frame) 0x0806 (λ e. omega (arith, e, c.ipv4)),
        eq-eqb (type_of frame) 0x0800 c.ipv4,
        le-ltb (length frame) 34 c.long,
        eq-eqb (protocol_of (body frame)) 1 c.carried,
        ours,
        le-ltb (length frame) (payload_at_lem frame) a.there,
        le-ltb (length (payload frame)) 8 a.whole,
        eq-eqb (message_type_lem (payload frame)) 8 a.request,
      )

  -- a datagram from 68 to 67 is decided by its data alone, whatever the network
  pub dhcp_decided : Datagram frame → source_port (payload frame) ≡ 68 → target_port (payload frame) ≡ 67 → decision net frame ≡ dhcp_decision (datagram_data frame)
  unfolding decision ip_decision udp_decision
  dhcp_decided d from_68 to_67 =
      let c = d.udp in
      simp (
        le-ltb (length frame) 14 (omega (arith, c.long)),
        ne_eqb (type_of frame) 0x0806 (λ e. omega (arith, e, c.ipv4)),
        eq-eqb (type_of frame) 0x0800 c.ipv4,
        le-ltb (length frame) 34 c.long,
        ne_eqb (protocol_of (body frame)) 1 (λ e. omega (arith, e, c.carried)),
        ne_eqb (protocol_of (body frame)) 6 (λ e. omega (arith, e, c.carried)),
        eq-eqb (protocol_of (body frame)) 17 c.carried,
        le-ltb (length frame) (payload_at_lem frame) d.there,
        le-ltb (length (payload frame)) 8 d.whole,
        le-ltb (length_field (payload frame)) 8 d.stated,
        eq-eqb (source_port (payload frame)) 68 from_68,
        eq-eqb (target_port (payload frame)) 67 to_67,
      )

  -- a TCP frame is decided so
  pub tcp_decided : Carries frame 6 → decision net frame ≡ Ok (Tcp (length frame))
  unfolding decision ip_decision
  tcp_decided c =
      simp (
        le-ltb (length frame) 14 (omega (arith, c.long)),
        ne_eqb (type_of frame) 0x0806 (λ e. omega (arith, e, c.ipv4)),
        eq-eqb (type_of frame) 0x0800 c.ipv4,
        le-ltb (length frame) 34 c.long,
        ne_eqb (protocol_of (body frame)) 1 (λ e. omega (arith, e, c.carried)),
        eq-eqb (protocol_of (body frame)) 6 c.carried,
      )

  -- a ping too long is decided so
  pub too_long_decided : EchoAsked net frame → 65515 < length (payload frame) → decision net frame ≡ Err (TooLong (length (payload frame)))
  too_long_decided a over = rw (lt-ltb 65515 (length (payload frame)) over) at (echo_decided a)

  -- and one that is not is answered
  pub echo_answered : EchoAsked net frame → length (payload frame) ≤ 65515 → decision net frame ≡ Ok (EchoReply (payload_at_lem frame))
  echo_answered a within = rw (le-ltb 65515 (length (payload frame)) within) at (echo_decided a)
