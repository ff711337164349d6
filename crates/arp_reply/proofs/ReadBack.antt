-- The reply read by its fields, against RFC 826 as document 01 condenses it.
use mathlib.Core.Path.{◌≡◌, refl}
use mathlib.Core.List.{List}
use Prim.Native.Nat.{ℕ}
use lib.ListN.{length}
use Rattle.arp_reply.specs.Reply.{arp_reply_lem, reply_to}
use Rattle.base.proofs.Lists.{all_bytes_lem}
use Rattle.record.specs.Network.{gateway_mac}
use Rattle.record.specs.declared.network.Network.{Network}
use Rattle.wire.specs.Rfc826 as Arp
use Rattle.wire.specs.Rfc894.{body, target_mac, source_mac, type_of}

-- RFC 826: a reply for Ethernet and IPv4, in which the gateway's MAC stands for the gateway's address, to the one that asked
pub record AnswersArp (frame : List ℕ) (net : Network) (request : List ℕ) : Type 0 where
  pub long : length frame ≡ 42
  pub to : target_mac frame ≡ Arp.sender_mac_lem (body request)
  pub from : source_mac frame ≡ gateway_mac
  pub type : type_of frame ≡ 0x0806
  pub ethernet : Arp.hardware_space (body frame) ≡ 1
  pub ipv4 : Arp.protocol_space (body frame) ≡ 0x0800
  pub six : Arp.hardware_length (body frame) ≡ 6
  pub four : Arp.protocol_length (body frame) ≡ 4
  pub is_reply : Arp.operation (body frame) ≡ 2
  pub sender_mac : Arp.sender_mac_lem (body frame) ≡ gateway_mac
  pub sender_address_lem : Arp.sender_address (body frame) ≡ net.gateway
  pub target_mac_lem : Arp.sought_mac (body frame) ≡ Arp.sender_mac_lem (body request)
  pub target_address : Arp.sought_address (body frame) ≡ Arp.sender_address (body request)

pub arp_reads_back : (net : Network) (request : List ℕ) → length net.gateway ≡ 4 → AnswersArp (arp_reply_lem net request) net request
unfolding reply_to
arp_reads_back net request four =
    let g = all_bytes_lem net.gateway 4 four in
    record {
      long = rw g;
      to = refl;
      from = refl;
      type = refl;
      ethernet = refl;
      ipv4 = refl;
      six = refl;
      four = refl;
      is_reply = refl;
      sender_mac = refl;
      sender_address_lem = rw g;
      target_mac_lem = rw g;
      target_address = rw g;
    }
