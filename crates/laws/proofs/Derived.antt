-- ARP, other IPv4, ICMP, UDP and TCP as they are built are derived by the grammar: their fields are read back, and they sum right.
use Prim.Native.Nat.{ℕ, ◌+◌, ◌≤◌, ◌*◌}
use mathlib.Core.Path.{◌≡◌, refl, ap, sym, ◌∙◌}
use mathlib.Core.Logic.{inl, inr}
use mathlib.Core.List.{List}
use native.Mathlib.Omega.{arith}
use lib.ListN.{length, length-drop}
use Rattle.wire.specs.Rfc768.{covered, datagram}
use Rattle.record.specs.declared.network.Network.{Network}
use Rattle.datagrams.proofs.Datagram.{length_datagram}
use Rattle.datagrams.proofs.ReadBack.{DatagramOf, datagram_reads_back}
use Rattle.grammar.specs.Grammar.{body, payload, CarriesDHCP, data_offset, summed, UDP, Derives}
use Rattle.grammar.proofs.Places.{placed}
use Rattle.wire.specs.Rfc792.{echo}
use Rattle.arp_reply.specs.Reply.{arp_reply_lem}
use Rattle.arp_reply.proofs.ReadBack.{arp_reads_back}
use Rattle.echo_reply.proofs.ReadBack.{echo_reads_back}
use Rattle.tcp.specs.Rfc9293.{options, segment}
use Rattle.tcp.specs.declared.Endpoints.{Endpoints}
use Rattle.tcp.proofs.ReadBack.{SegmentOf, segment_reads_back}
use Rattle.tcp.proofs.SumsRight.{segment_sums_right}
use Rattle.tcp.proofs.TcpLaws.{length_segment, syn_cases}
use Rattle.laws.specs.Derivations.{arp_derivation, other_derivation, icmp_derivation, udp_derivation, tcp_derivation, Summed}
use Rattle.laws.proofs.DerivedIp.{Packet, payload_placed}

-- an ARP reply
pub arp_derived : (net : Network) (request : List ℕ) → length net.gateway ≡ 4 → (n : ℕ) → n ≡ length (arp_reply_lem net request) → Derives (arp_reply_lem net request) (arp_derivation n)
unfolding Derives
arp_derived net request four n e =
    let frame = arp_reply_lem net request in
    let a = arp_reads_back net request four in (
      record { whole = omega (arith, a.long); typed = a.type },
      record {
        size = omega (arith, length-drop 14 frame, a.long);
        hardware = a.ethernet;
        protocol_type = a.ipv4;
        hardware_length_lem = a.six;
        protocol_length_lem = a.four;
        operation = inr a.is_reply;
      },
      placed 0 14 frame 0 14 n refl refl (omega arith),
    )

module _ (frame : List ℕ) (n : ℕ) (source target : List ℕ) where
  -- a protocol that the grammar leaves free
  pub other_derived : (proto : ℕ) (carried : List ℕ) → Packet frame n proto source target carried → (proto ≡ 1 → ⊥) → (proto ≡ 6 → ⊥) → (proto ≡ 17 → ⊥)
      → Derives frame (other_derivation n)
  unfolding Derives
  other_derived proto carried p no-1 no-6 no-17 =
      let same = sym p.protocol_is in (
        p.ethernet,
        p.ip,
        record { no_icmp = λ e. no-1 (same ∙ e); no_tcp = λ e. no-6 (same ∙ e); no_udp = λ e. no-17 (same ∙ e) },
        p.ethernet_placed,
        p.ip_placed,
      )

  -- an echo reply
  pub echo_derived : (request : List ℕ) → 8 ≤ length request → Packet frame n 1 source target (echo request) → Derives frame (icmp_derivation n)
  unfolding Derives
  echo_derived request h p =
      let a = echo_reads_back request (omega arith) in
      let long : length (payload (body frame)) ≡ length request = ap length p.payload_is ∙ a.long in (
        p.ethernet,
        p.ip,
        record {
          carried = p.protocol_is;
          size = omega arith;
          sums = rw p.payload_is a.sums;
        },
        p.ethernet_placed,
        p.ip_placed,
        payload_placed p 8 42 refl,
      )

  -- a datagram between the frame's own addresses
  module _ (four : length source ≡ 4) (four' : length target ≡ 4) (sport dport : ℕ) (d : List ℕ) (p : Packet frame n 17 source target (datagram source target sport dport d)) where
    its_fields : DatagramOf (payload (body frame)) source target sport dport d
    its_fields = rw p.payload_is (datagram_reads_back source target four four' sport dport d)

    pub datagram_summed : Summed (body frame)
    unfolding covered
    datagram_summed = record { not_zero = its_fields.not_zero; sums = rw (p.pseudo_is, p.payload_is) (datagram_reads_back source target four four' sport dport d).sums }

    pub datagram_derived : UDP (body frame)
    datagram_derived =
        record {
          carried = p.protocol_is;
          size = omega (arith, ap length p.payload_is, length_datagram source target sport dport d);
          stated = its_fields.length_is;
          sums = summed datagram_summed.not_zero datagram_summed.sums;
        }

    -- one that carries no DHCP
    pub udp_derived : (sport ≡ 67 → dport ≡ 68 → ⊥) → (sport ≡ 68 → dport ≡ 67 → ⊥) → Derives frame (udp_derivation n)
    unfolding Derives
    udp_derived no-67-68 no-68-67 =
        let from = sym its_fields.source_port_lem in
        let to = sym its_fields.target_port_lem in
        let no_dhcp : CarriesDHCP (body frame) → ⊥ = elim [ inl c ↦ no-67-68 (from ∙ c.0) (to ∙ c.1) | inr c ↦ no-68-67 (from ∙ c.0) (to ∙ c.1) ] in
        (p.ethernet, p.ip, datagram_derived, p.ethernet_placed, p.ip_placed, payload_placed p 8 42 refl, no_dhcp)

-- a segment
pub tcp_derived : (frame : List ℕ) (n : ℕ) (ends : Endpoints) (seq ack flags : ℕ) (d : List ℕ) → length ends.src_ip ≡ 4 → length ends.dst_ip ≡ 4
    → Packet frame n 6 ends.src_ip ends.dst_ip (segment ends seq ack flags d) → Derives frame (tcp_derivation n (length (options flags)))
unfolding Derives covered
tcp_derived frame n ends seq ack flags d four four' p =
    let a : SegmentOf (payload (body frame)) ends seq ack flags = rw p.payload_is (segment_reads_back ends seq ack flags d) in
    let long : length (payload (body frame)) ≡ 20 + length (options flags) + length d = ap length p.payload_is ∙ length_segment ends seq ack flags d in
    let few : length (options flags) ≤ 8 = syn_cases (λ o k. length o ≤ 8) flags (omega arith) (omega arith) in
    let off : data_offset (body frame) * 4 ≡ 20 + length (options flags) = a.offset in (
      p.ethernet,
      p.ip,
      record {
        carried = p.protocol_is;
        size = omega arith;
        least_offset = omega (arith, off);
        most_offset = omega (arith, off, few);
        inside = omega (arith, off, long);
        sums = rw (p.pseudo_is, p.payload_is) (segment_sums_right ends seq ack flags d four four');
      },
      p.ethernet_placed,
      p.ip_placed,
      payload_placed p (data_offset (body frame) * 4) (54 + length (options flags)) (omega (arith, off)),
    )
