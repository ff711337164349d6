-- The frames on which the Rust panics, and those on which it cuts a length: it does so on all of them.
use Prim.Native.Nat.{ℕ, ◌<◌}
use mathlib.Core.Path.{◌≡◌, ap, subst, ◌∙◌}
use mathlib.Core.Bool.{true}
use mathlib.Core.Logic.{◌⊎◌, inl, inr}
use mathlib.Core.List.{List}
use native.Mathlib.Omega.{arith}
use borrow.Author.Tests.{le-ltb, eq-eqb, ne_eqb}
use lib.ListN.{length}
use Rattle.wire.specs.Rfc791.{protocol_of, target_of}
use Rattle.wire.specs.Rfc894.{body, type_of}
use Rattle.wire.specs.Rfc2131.{operation, magic_cookie}
use Rattle.equals_rust.specs.Network.{rust_network}
use Rattle.published.specs.Rust.{panics, cuts, whole}
use Rattle.published.specs.Backend.{SlirpBackend}
use Rattle.published.specs.Slirp.{handle_icmp, handle_ip, send}
use Rattle.published.specs.Udp.{handle_udp}
use Rattle.rules.specs.Rules.{payload_at_lem, datagram_data, decision, dhcp_decision}
use Rattle.rules.specs.Same.{same}
use Rattle.rules.specs.Seen.{Carries, CutMessage, TooLongPing}
use Rattle.std.specs.Prelude.{Err}
use Rattle.record.specs.declared.answer.Refusal.TheVariants.{CutType}
use Rattle.rules.proofs.Same.{equal_same}
use Rattle.rules.proofs.Says.{dhcp_decided, too_long_decided}
use Rattle.equals_rust.specs.Alike.{record_of}
use Rattle.equals_rust.specs.Types.{Bytes, GuestTyped}
use Rattle.equals_rust.specs.Where.{HeaderPast}
use Rattle.equals_rust.proofs.Fields.{eth_type_lem, ip_proto_lem, ip_dst_lem, payload_past}
use Rattle.equals_rust.proofs.Ran.{Ran, same_array_lem, send_ran}

module _ (self : SlirpBackend) (frame : List ℕ) where
  -- up to the protocol
  ip_read : (n : ℕ) → Carries frame n → send self (whole frame) ≡ handle_ip self (whole frame)
  unfolding send
  ip_read n c =
      rw (
        le-ltb (length frame) 14 (omega (arith, c.long)),
        eth_type_lem frame (omega (arith, c.long)),
        ne_eqb (type_of frame) 0x0806 (λ e. omega (arith, e, c.ipv4)),
        eq-eqb (type_of frame) 0x0800 c.ipv4,
      )

  icmp_past : Carries frame 1 → target_of (body frame) ≡ rust_network.gateway → length frame < payload_at_lem frame → handle_ip self (whole frame) ≡ panics
  unfolding handle_ip handle_icmp
  icmp_past c to past =
      let ours : same (target_of (body frame)) rust_network.gateway ≡ true = ap (λ (l : List ℕ). same l rust_network.gateway) to ∙ equal_same rust_network.gateway in
      rw (
        le-ltb (length frame) 34 c.long,
        ip_proto_lem frame (omega (arith, c.long)),
        eq-eqb (protocol_of (body frame)) 1 c.carried,
        ip_dst_lem frame c.long,
        same_array_lem (target_of (body frame)) rust_network.gateway,
        ours,
        payload_past frame (omega (arith, c.long)) past,
      )

  udp_past : Carries frame 17 → length frame < payload_at_lem frame → handle_ip self (whole frame) ≡ panics
  unfolding handle_ip handle_udp
  udp_past c past =
      rw (
        le-ltb (length frame) 34 c.long,
        ip_proto_lem frame (omega (arith, c.long)),
        ne_eqb (protocol_of (body frame)) 1 (λ e. omega (arith, e, c.carried)),
        ne_eqb (protocol_of (body frame)) 6 (λ e. omega (arith, e, c.carried)),
        eq-eqb (protocol_of (body frame)) 17 c.carried,
        payload_past frame (omega (arith, c.long)) past,
      )

  read_past : (Carries frame 1 × (target_of (body frame) ≡ rust_network.gateway)) ⊎ Carries frame 17 → length frame < payload_at_lem frame → send self (whole frame) ≡ panics
  read_past (inl (c, to)) past = ip_read 1 c ∙ icmp_past c to past
  read_past (inr c) past = ip_read 17 c ∙ udp_past c past

  pub header_past_panics : HeaderPast frame → send self (whole frame) ≡ panics
  header_past_panics h = read_past h.read h.past

-- a DHCP message whose type is cut off is decided so
pub cut_decided : (frame : List ℕ) (place : ℕ) → CutMessage frame place → decision rust_network frame ≡ Err (CutType place)
unfolding dhcp_decision
cut_decided frame place m =
    dhcp_decided rust_network frame m.message.datagram m.message.from_68 m.message.to_67
    ∙ simp (
      le-ltb (length (datagram_data frame)) 240 m.message.fixed,
      eq-eqb (operation (datagram_data frame)) 1 m.message.from_client,
      eq-eqb (magic_cookie (datagram_data frame)) 0x63825363 m.cookie,
      m.cut_off,
    )

module _ (self : SlirpBackend) (frame : List ℕ) (typed : GuestTyped (record_of self)) (bytes : Bytes frame) where
  pub type_cut_panics : (place : ℕ) → CutMessage frame place → send self (whole frame) ≡ panics
  unfolding Ran
  type_cut_panics place m = subst (Ran self frame (send self (whole frame))) (cut_decided frame place m) (send_ran self frame typed bytes)

  pub ping_over_cuts : (len : ℕ) → TooLongPing rust_network frame len → send self (whole frame) ≡ cuts
  unfolding Ran
  ping_over_cuts len p =
      subst (Ran self frame (send self (whole frame))) (too_long_decided rust_network frame p.asked (subst (λ (n : ℕ). 65515 < n) p.its_length p.over)) (send_ran self frame typed bytes)
