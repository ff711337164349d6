-- How long the reply is, 14 bytes of Ethernet and 28 of ARP, and the packet byte by byte.
use Prim.Native.Nat.{ℕ}
use mathlib.Core.Path.{◌≡◌, ap, ap₂, ◌∙◌}
use mathlib.Core.List.{List}
use native.Mathlib.Omega.{arith}
use lib.ListN.{length, length-append}
use Rattle.arp_reply.specs.Reply.{reply_to}
use Rattle.base.proofs.Lists.{all_bytes_lem}
use Rattle.base.specs.Bytes.{bytes_at}
use Rattle.frames.proofs.Lengths.{length_ethernet}
use Rattle.record.specs.Network.{gateway_mac}
use Rattle.wire.specs.Rfc826.{packet}

module _ (gateway mac address : List ℕ) (four : length gateway ≡ 4) (six : length mac ≡ 6) (four' : length address ≡ 4) where
  pub length_packet : length (packet 2 gateway_mac gateway mac address) ≡ 28
  length_packet = simp length-append (omega arith)

  -- the packet with its addresses byte by byte
  pub packet_bytes : packet 2 gateway_mac gateway mac address ≡ packet 2 gateway_mac (bytes_at gateway 0 4) (bytes_at mac 0 6) (bytes_at address 0 4)
  packet_bytes =
      ap₂ (λ (g m : List ℕ). packet 2 gateway_mac g m address) (all_bytes_lem gateway 4 four) (all_bytes_lem mac 6 six)
      ∙ ap (λ (a : List ℕ). packet 2 gateway_mac (bytes_at gateway 0 4) (bytes_at mac 0 6) a) (all_bytes_lem address 4 four')

  pub length_reply_to : length (reply_to gateway mac address) ≡ 42
  unfolding reply_to
  length_reply_to = simp length-append (omega (arith, length_ethernet mac 0x0806 six))
