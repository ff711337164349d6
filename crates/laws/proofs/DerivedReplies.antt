-- The frame that a decision builds is derived by the grammar, with the decision's kind: by cases, from what the decision says of its frame.
use Prim.Native.Nat.{ℕ, ◌≤◌, ◌<◌}
use mathlib.Core.Path.{◌≡◌, refl, sym, subst}
use mathlib.Core.Logic.{◌⊎◌, inl, inr}
use mathlib.Core.List.{List}
use native.Mathlib.Omega.{arith}
use lib.ListN.{length, drop}
use Rattle.dhcp_message.specs.Message.{reply}
use Rattle.wire.specs.Rfc791.{source_of}
use Rattle.wire.specs.Rfc894.{body, source_mac}
use Rattle.record.specs.Guest.{Sized}
use Rattle.record.specs.Network.{broadcast_of}
use Rattle.wire.specs.Rfc768.{datagram}
use Rattle.record.specs.declared.guest.Guest.{Guest}
use Rattle.record.specs.declared.network.Network.{Network}
use Rattle.grammar.specs.Grammar.{Derivation, Derives}
use Rattle.wire.specs.Rfc792.{echo}
use Rattle.dhcp_reply.specs.Reply.{reply_source, reply_target, dhcp_frame_to}
use Rattle.rules.specs.Rules.{decision}
use Rattle.std.specs.Prelude.{Result, Ok, Err}
use Rattle.record.specs.declared.answer.Refusal.{Refusal}
use Rattle.rules.specs.declared.decision.Decision.{Decision}
use Rattle.rules.specs.declared.decision.Decision.TheVariants.{Drop, DropNoting, ArpReply, EchoReply, DhcpReply, Dns, Relay, Tcp}
use Rattle.rules.proofs.Says.{Says, says}
use Rattle.laws.specs.Derivations.{arp_derivation, icmp_derivation, dhcp_derivation, DerivedAs}
use Rattle.laws.specs.Table.{built, reply_at_ample_room}
use Rattle.laws.proofs.Derived.{arp_derived, echo_derived}
use Rattle.laws.proofs.DerivedDhcp.{dhcp_derived}
use Rattle.laws.proofs.DerivedIp.{packet}

-- an offer's type and an acknowledgement's are among the grammar's
among_8 : (type : ℕ) → (type ≡ 2) ⊎ (type ≡ 5) → (1 ≤ type) × (type ≤ 8)
among_8 type (inl e) = omega arith
among_8 type (inr e) = omega arith

module _ (guest : Guest) (frame : List ℕ) (sized : Sized guest) where
  abbrev net : Network
  net = guest.network

  derived_as : (d : Result Decision Refusal) → Says net frame d → (n : ℕ) → n ≡ length (built guest frame d) → 0 < n → DerivedAs n (built guest frame d) d
  unfolding Says dhcp_frame_to
  derived_as (Ok ArpReply) s n e p = arp_derived net frame sized.network.gateway n e
  derived_as (Ok (EchoReply start)) s n e p =
      let eight : 8 ≤ length (drop start frame) = subst (λ (k : ℕ). 8 ≤ length (drop k frame)) (sym s.1) s.0.whole in
      echo_derived _ n net.gateway (source_of (body frame)) (drop start frame) eight
      (packet (source_mac frame) net.gateway (source_of (body frame)) (echo (drop start frame)) guest.id 1 refl sized.network.gateway refl n e)
  derived_as (Ok (DhcpReply xid type)) s n e p =
      let t = among_8 type s.1 in
      dhcp_derived net guest.mac xid type sized.network sized.mac _ n net.gateway (broadcast_of net) sized.network.gateway refl
      (packet (source_mac frame) net.gateway (broadcast_of net) (datagram net.gateway (broadcast_of net) reply_source reply_target (reply net guest.mac xid type)) guest.id 17 refl sized.network.gateway refl n e)
      t.0 t.1
  derived_as (Ok Drop) s n e p = omega arith
  derived_as (Ok (DropNoting xid)) s n e p = omega arith
  derived_as (Ok (Dns start len)) s n e p = omega arith
  derived_as (Ok (Relay start len)) s n e p = omega arith
  derived_as (Ok (Tcp len)) s n e p = omega arith
  derived_as (Err refusal) s n e p = omega arith

  -- the frame that the tests have built
  pub built_derived : (n : ℕ) → n ≡ length (reply_at_ample_room guest frame) → 0 < n → DerivedAs n (reply_at_ample_room guest frame) (decision net frame)
  unfolding reply_at_ample_room
  built_derived = derived_as (decision net frame) (says net frame)

-- whatever was decided, there is a derivation
pub some_derivation : (n : ℕ) (reply : List ℕ) (d : Result Decision Refusal) → DerivedAs n reply d → (x : Derivation) × Derives reply x
some_derivation n reply (Ok ArpReply) d = (arp_derivation n, d)
some_derivation n reply (Ok (EchoReply start)) d = (icmp_derivation n, d)
some_derivation n reply (Ok (DhcpReply xid type)) d = (dhcp_derivation n, d.0)
some_derivation n reply (Ok Drop) d = absurd d
some_derivation n reply (Ok (DropNoting xid)) d = absurd d
some_derivation n reply (Ok (Dns start len)) d = absurd d
some_derivation n reply (Ok (Relay start len)) d = absurd d
some_derivation n reply (Ok (Tcp len)) d = absurd d
some_derivation n reply (Err refusal) d = absurd d
