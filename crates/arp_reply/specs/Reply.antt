-- ARP: document 01's reply to a request.
use Rattle.std.specs.Prelude.{ℕ, List, ◌++◌}
use Rattle.wire.specs.Rfc826.{sender_mac_lem, sender_address, packet}
use Rattle.wire.specs.Rfc894.{body}
use Rattle.record.specs.Network.{gateway_mac}
use Rattle.wire.specs.Rfc894.{ethernet}
use Rattle.record.specs.declared.network.Network.{Network}

-- the gateway's reply to whoever has this MAC and address: the gateway's MAC for the gateway's address
unfoldable pub reply_to : (gateway mac address : List ℕ) → List ℕ
reply_to gateway mac address = ethernet mac gateway_mac 0x0806 ++ packet 2 gateway_mac gateway mac address

-- "a reply of 42 bytes. It goes to the ARP sender MAC and address"
abbrev pub arp_reply_lem : Network → (frame : List ℕ) → List ℕ
arp_reply_lem net frame = reply_to net.gateway (sender_mac_lem (body frame)) (sender_address (body frame))
