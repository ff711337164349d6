-- What of a reply is the network's (document 02, 1/13: "Every rule of 01 that names an address, the mask or the 86,400 of option 51 then reads it from the record"): the places in a
-- frame, and what stands there.
use Rattle.std.specs.Prelude.{ℕ, ◌+◌, Bool, false, ◌&&◌, ◌||◌, ◌≡◌, List, [], ◌∷◌, leb, ltb, length, get_or}
use Rattle.base.specs.Bytes.{be16, be32, part}
use Rattle.wire.specs.Rfc768.{checksum_of}
use Rattle.wire.specs.Rfc791.{header_with_lem, source_of}
use Rattle.wire.specs.Rfc826 as Arp
use Rattle.wire.specs.Rfc894.{body, source_mac}
use Rattle.sums.specs.Rfc1071.{checksum}
use Rattle.dhcp_message.specs.Message.{reply}
use Rattle.record.specs.Guest.{known}
use Rattle.record.specs.Network.{broadcast_of}
use Rattle.record.specs.declared.guest.Guest.{Guest}
use Rattle.record.specs.declared.network.Network.{Network}
use Rattle.rules.specs.Rules.{payload}

-- a place of a frame, so many bytes from `start` on, and the bytes that stand there
pub record Place : Type 0 where
  pub start : ℕ
  pub width : ℕ
  pub bytes : List ℕ

abbrev pub at : (start width : ℕ) (bytes : List ℕ) → Place
at start width bytes = record { start = start; width = width; bytes = bytes }

-- whether byte `k` of a frame lies in one of them
abbrev pub within : List Place → (k : ℕ) → Bool
within [] k = false
within (p ∷ places) k = (leb p.start k && ltb k (p.start + p.width)) || within places k

-- each has its bytes
abbrev pub Stand : List Place → (frame : List ℕ) → Type 0
Stand [] frame = Unit
Stand (p ∷ places) frame = (part frame p.start p.width ≡ p.bytes) × Stand places frame

-- Two replies, from records with different networks: each has at the places the bytes of its own record, and nowhere else do they differ.
pub record DifferAt (places places' : List Place) (reply reply' : List ℕ) : Type 0 where
  pub own : Stand places reply
  pub own' : Stand places' reply'
  pub as_long : length reply ≡ length reply'
  pub same_elsewhere : (k : ℕ) → within places k ≡ false → get_or reply k 0 ≡ get_or reply' k 0

-- the checksum of a reply's IPv4 header, whose packet has `total` bytes
abbrev pub sum_of : Guest → (total protocol : ℕ) (target : List ℕ) → List ℕ
sum_of guest total protocol target = be16 (checksum (header_with_lem 0 total guest.id protocol guest.network.gateway target))

-- an ARP reply
abbrev pub arp_places : Guest → List Place
arp_places guest = at 28 4 guest.network.gateway ∷ []  -- the sender's address

-- an echo reply to this frame
abbrev pub echo_places : Guest → (frame : List ℕ) → List Place
echo_places guest frame =
    at 24 2 (sum_of guest (20 + length (payload frame)) 1 (source_of (body frame)))  -- IPv4: the header's checksum
    ∷ at 26 4 guest.network.gateway  -- IPv4: the source
    ∷ []

-- the checksum of a DHCP reply's datagram
abbrev pub datagram_sum_of : Guest → (xid type : ℕ) → List ℕ
datagram_sum_of guest xid type =
    be16 (checksum_of guest.network.gateway (broadcast_of guest.network) 67 68 (reply guest.network guest.mac xid type))

-- a DHCP reply of this type
abbrev pub dhcp_places : Guest → (xid type : ℕ) → List Place
dhcp_places guest xid type =
    at 24 2 (sum_of guest 328 17 (broadcast_of guest.network))  -- IPv4: the header's checksum
    ∷ at 26 4 guest.network.gateway  -- IPv4: the source
    ∷ at 30 4 (broadcast_of guest.network)  -- IPv4: the target
    ∷ at 40 2 (datagram_sum_of guest xid type)  -- UDP: the checksum
    ∷ at 58 4 guest.network.guest  -- yiaddr
    ∷ at 62 4 guest.network.gateway  -- siaddr
    ∷ at 287 4 guest.network.gateway  -- option 54
    ∷ at 293 4 (be32 guest.network.lease)  -- option 51
    ∷ at 299 4 guest.network.mask  -- option 1
    ∷ at 305 4 guest.network.gateway  -- option 3
    ∷ at 311 4 guest.network.gateway  -- option 6
    ∷ []

-- the same record on another network
abbrev pub on_network : Network → Guest → Guest
on_network net guest = known guest.mac guest.id guest.xid net

-- one ARP request, sent twice: nothing that the reply takes from it differs
pub record SameRequest (frame frame' : List ℕ) : Type 0 where
  pub mac : Arp.sender_mac_lem (body frame) ≡ Arp.sender_mac_lem (body frame')
  pub address : Arp.sender_address (body frame) ≡ Arp.sender_address (body frame')

-- one ping, sent twice
pub record SamePing (frame frame' : List ℕ) : Type 0 where
  pub mac : source_mac frame ≡ source_mac frame'
  pub address : source_of (body frame) ≡ source_of (body frame')
  pub message : payload frame ≡ payload frame'
