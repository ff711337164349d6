-- The frame grammar: document 01, "The frame grammar", each sentence quoted where it is said, but for "Sums right" (`SumsRight`, in Rfc1071) and what is reported (Report). A byte string is a list of numbers;
-- that each is below 256 is the frame's `u8`, and nothing here asks it. `u8_at s n` is the byte n of `s`, 0 past its end; `u16_at` and `u32_at` are big-endian. A place is counted from the frame's first byte.
-- (`abbrev` and `unfoldable` are for the prover alone.)
use Rattle.std.specs.Prelude.{ℕ, ◌+◌, ◌*◌, ◌/◌, ◌%◌, ◌≤◌, ◌≡◌, true, false, ◌⊎◌, List, [], ◌∷◌, ◌++◌, eqb, length, take, drop, replicate}
use Rattle.base.specs.Bytes.{be16, u8_at, u16_at, u32_at, part}
use Rattle.sums.specs.Rfc1071.{SumsRight}

-- DERIVATIONS: "A derivation holds the kind (ARP, ICMP, UDP, DHCP, TCP or other IPv4), where each header and payload starts and stops, and for DHCP the items of each list in order,
-- each with its place; two derivations are the same when all of this is equal."

-- the bytes from the place `start` up to, not including, the place `stop`
pub record Span : Type 0 where
  pub start : ℕ
  pub stop : ℕ

-- a header and its payload
pub record Layer : Type 0 where
  pub header : Span
  pub payload : Span

-- an item of a DHCP list: a pad, or an option with its code and length
pub data Item : Type 0 where
  pad : (place : ℕ) → Item
  option : (place code len : ℕ) → Item

-- a DHCP list: END with the number of its zeros, or one item and then a list
pub data ItemList : Type 0 where
  END : (place zeros : ℕ) → ItemList
  item : Item → ItemList → ItemList

-- each kind with its layers, the outermost first; an ARP packet has no header of its own
pub data Derivation : Type 0 where
  arp : (ethernet : Layer) → Derivation
  icmp : (ethernet ip message : Layer) → Derivation
  udp : (ethernet ip datagram : Layer) → Derivation
  dhcp : (ethernet ip datagram message : Layer) (items : ItemList) → Derivation
  tcp : (ethernet ip segment : Layer) → Derivation
  other_ipv4 : (ethernet ip : Layer) → Derivation

-- FRAMES

-- "two MACs, then type": 6, 6 and 2 bytes
pub record Ethernet (frame : List ℕ) (type : ℕ) : Type 0 where
  pub whole : 14 ≤ length frame
  pub typed : u16_at frame 12 ≡ type

-- all that follows: the ARP or IPv4 body
abbrev pub body : (frame : List ℕ) → List ℕ
body frame = drop 14 frame

-- "ARP (RFC 826): 28 bytes: 1, 0x0800, 6, 4, operation 1 or 2, then 20 free bytes."
pub record ARP (s : List ℕ) : Type 0 where
  pub size : length s ≡ 28
  pub hardware : u16_at s 0 ≡ 1
  pub protocol_type : u16_at s 2 ≡ 0x0800
  pub hardware_length_lem : u8_at s 4 ≡ 6
  pub protocol_length_lem : u8_at s 5 ≡ 4
  pub operation : (u16_at s 6 ≡ 1) ⊎ (u16_at s 6 ≡ 2)

-- IPV4

-- the low four bits of the first byte count words of four bytes
abbrev pub header_length_lem : (packet : List ℕ) → ℕ
header_length_lem packet = (u8_at packet 0 % 16) * 4

-- "reserved bit, more-fragments and offset zero": the 16 bits from byte 6 on are 1 bit, don't-fragment, 1 bit and 13 bits
pub record Unfragmented (packet : List ℕ) : Type 0 where
  pub reserved : u16_at packet 6 / 32768 ≡ 0
  pub more_fragments : (u16_at packet 6 / 8192) % 2 ≡ 0
  pub offset : u16_at packet 6 % 8192 ≡ 0

-- "IPv4: version 4; header length 20 to 60; total length is the whole body and at least the header; reserved bit, more-fragments and offset zero; header sums right."
pub record IPv4 (packet : List ℕ) : Type 0 where
  pub version : u8_at packet 0 / 16 ≡ 4
  pub least_header : 20 ≤ header_length_lem packet
  pub most_header : header_length_lem packet ≤ 60
  pub total : u16_at packet 2 ≡ length packet
  pub inside : header_length_lem packet ≤ u16_at packet 2
  pub unfragmented : Unfragmented packet
  pub sums : SumsRight (take (header_length_lem packet) packet)

-- what the payload is
abbrev pub protocol : (packet : List ℕ) → ℕ
protocol packet = u8_at packet 9

-- all that follows the header
abbrev pub payload : (packet : List ℕ) → List ℕ
payload packet = drop (header_length_lem packet) packet

-- the pseudo-header of RFC 768 and 9293: both addresses, zero, the protocol, the payload's length
abbrev pub pseudo_header_lem : (packet : List ℕ) → List ℕ
pseudo_header_lem packet = part packet 12 8 ++ (0 ∷ protocol packet ∷ []) ++ be16 (length (payload packet))

-- "Payload by protocol 1, 6, 17; other protocols free.": a packet of another protocol
pub record OtherIPv4 (packet : List ℕ) : Type 0 where
  pub no_icmp : protocol packet ≡ 1 → ⊥
  pub no_tcp : protocol packet ≡ 6 → ⊥
  pub no_udp : protocol packet ≡ 17 → ⊥

-- "ICMP (RFC 792): 8 bytes or more, sums right."
pub record ICMP (packet : List ℕ) : Type 0 where
  pub carried : protocol packet ≡ 1
  pub size : 8 ≤ length (payload packet)
  pub sums : SumsRight (payload packet)

-- "checksum zero, or not zero and sums right with its pseudo-header"
pub data UDPSums (packet : List ℕ) (checksum : ℕ) : Type 0 where
  unsummed : checksum ≡ 0 → UDPSums packet checksum
  summed : (checksum ≡ 0 → ⊥) → SumsRight (pseudo_header_lem packet ++ payload packet) → UDPSums packet checksum

-- "UDP (RFC 768): 8 or more; length field is the payload's length; checksum zero, or not zero and sums right with its pseudo-header."
pub record UDP (packet : List ℕ) : Type 0 where
  pub carried : protocol packet ≡ 17
  pub size : 8 ≤ length (payload packet)
  pub stated : u16_at (payload packet) 4 ≡ length (payload packet)
  pub sums : UDPSums packet (u16_at (payload packet) 6)

-- "Ports 67 and 68, in either order, carry DHCP. Other data is free."
abbrev pub CarriesDHCP : (packet : List ℕ) → Type 0
CarriesDHCP packet =
    ((u16_at (payload packet) 0 ≡ 67) × (u16_at (payload packet) 2 ≡ 68))
    ⊎ ((u16_at (payload packet) 0 ≡ 68) × (u16_at (payload packet) 2 ≡ 67))

-- TCP's offset, in words of four bytes
abbrev pub data_offset : (packet : List ℕ) → ℕ
data_offset packet = u8_at (payload packet) 12 / 16

-- "TCP (RFC 9293): 20 or more; offset 5 to 15 and inside the payload; sums right with its pseudo-header."
pub record TCP (packet : List ℕ) : Type 0 where
  pub carried : protocol packet ≡ 6
  pub size : 20 ≤ length (payload packet)
  pub least_offset : 5 ≤ data_offset packet
  pub most_offset : data_offset packet ≤ 15
  pub inside : data_offset packet * 4 ≤ length (payload packet)
  pub sums : SumsRight (pseudo_header_lem packet ++ payload packet)

-- DHCP

-- "An item is a pad (0), or a code 1 to 254 with a length and that many bytes": `s`, which starts at the place `at`, is this item
abbrev pub IsItem : (at : ℕ) (s : List ℕ) → Item → Type 0
IsItem at s (pad place) = (place ≡ at) × (s ≡ 0 ∷ [])
IsItem at s (option place code len) =
    (value : List ℕ)
    × (place ≡ at)
    × (1 ≤ code)
    × (code ≤ 254)
    × (length value ≡ len)
    × (s ≡ code ∷ len ∷ value)

-- "a list is END and its zeros, or one item and then a list, and it fills the data exactly": `s`, which starts at the place `at`, is this list
unfoldable pub IsList : (at : ℕ) (s : List ℕ) → ItemList → Type 0
IsList at s (END place zeros) = (place ≡ at) × (s ≡ 255 ∷ replicate zeros 0)
IsList at s (item first rest) =
    (a : List ℕ)
    × (b : List ℕ)
    × (s ≡ a ++ b)
    × IsItem at a first
    × IsList (at + length a) b rest

-- the options 53 of a list, in order: the first item, if it is one, and those of the rest
abbrev pub with53 : (first : Item) (rest : List Item) → List Item
with53 (pad place) rest = rest
with53 (option place code len) rest =
    elim (eqb code 53) [ true ↦ option place code len ∷ rest | false ↦ rest ]

unfoldable pub options53 : ItemList → List Item
options53 (END place _) = []
options53 (item first rest) = with53 first (options53 rest)

-- "Option 53 occurs once, length 1, value 1 to 8." Its value stands behind its code and its length.
pub record TypedOnce (frame : List ℕ) (items : ItemList) : Type 0 where
  pub place : ℕ
  pub once : options53 items ≡ option place 53 1 ∷ []
  pub least : 1 ≤ u8_at frame (place + 2)
  pub most : u8_at frame (place + 2) ≤ 8

-- "240 to 1,472 bytes; first byte 1 or 2; then 1, 6; cookie at 236"
pub record DHCPHeader (message : List ℕ) : Type 0 where
  pub least : 240 ≤ length message
  pub most : length message ≤ 1472
  pub operation : (u8_at message 0 ≡ 1) ⊎ (u8_at message 0 ≡ 2)
  pub hardware : u8_at message 1 ≡ 1
  pub hardware_length_lem : u8_at message 2 ≡ 6
  pub cookie : u32_at message 236 ≡ 0x63825363

-- "DHCP (RFC 2131, 2132): 240 to 1,472 bytes; first byte 1 or 2; then 1, 6; cookie at 236; then a list.": from the place `at` to the frame's end
pub record DHCP (frame : List ℕ) (at : ℕ) (items : ItemList) : Type 0 where
  pub header : DHCPHeader (drop at frame)
  pub list : IsList (at + 240) (drop (at + 240) frame) items
  pub type : TypedOnce frame items

-- WHERE THE PARTS LIE

-- a header from `start` up to `mid`, and its payload from there up to `stop`
abbrev pub laid : (start mid stop : ℕ) → Layer
laid start mid stop = record { header = record { start = start; stop = mid }; payload = record { start = mid; stop = stop } }

-- the bytes `s`, which start at the place `at`: a header of `n` bytes, and the rest as its payload
abbrev pub layer : (at n : ℕ) (s : List ℕ) → Layer
layer at n s = laid at (at + n) (at + length s)

-- the frame: 14 bytes of header
abbrev pub ethernet_layer : (frame : List ℕ) → Layer
ethernet_layer frame = layer 0 14 frame

-- its body: the IPv4 header, as long as it says
abbrev pub ip_layer : (frame : List ℕ) → Layer
ip_layer frame = layer 14 (header_length_lem (body frame)) (body frame)

-- where an IPv4 payload starts
abbrev pub payload_at_lem : (frame : List ℕ) → ℕ
payload_at_lem frame = 14 + header_length_lem (body frame)

-- 8 bytes of header for ICMP and UDP, the offset's words for TCP
abbrev pub payload_layer : (n : ℕ) (frame : List ℕ) → Layer
payload_layer n frame = layer (payload_at_lem frame) n (payload (body frame))

-- where a datagram's data starts
abbrev pub data_at : (frame : List ℕ) → ℕ
data_at frame = payload_at_lem frame + 8

-- the header of a DHCP message ends with its cookie, and its payload is the list
abbrev pub message_layer : (frame : List ℕ) → Layer
message_layer frame = layer (data_at frame) 240 (drop (data_at frame) frame)

-- WHAT IS DERIVED
-- "Frame: two MACs, then type 0x0806 and an ARP body, or type 0x0800 and an IPv4 body; nothing after it. No other type."
unfoldable pub Derives : (frame : List ℕ) → Derivation → Type 0
Derives frame (arp ethernet) =
    Ethernet frame 0x0806
    × ARP (body frame)
    × (ethernet ≡ ethernet_layer frame)
Derives frame (icmp ethernet ip message) =
    Ethernet frame 0x0800
    × IPv4 (body frame)
    × ICMP (body frame)
    × (ethernet ≡ ethernet_layer frame)
    × (ip ≡ ip_layer frame)
    × (message ≡ payload_layer 8 frame)
Derives frame (udp ethernet ip datagram) =
    Ethernet frame 0x0800
    × IPv4 (body frame)
    × UDP (body frame)
    × (ethernet ≡ ethernet_layer frame)
    × (ip ≡ ip_layer frame)
    × (datagram ≡ payload_layer 8 frame)
    × (CarriesDHCP (body frame) → ⊥)
Derives frame (dhcp ethernet ip datagram message items) =
    Ethernet frame 0x0800
    × IPv4 (body frame)
    × UDP (body frame)
    × (ethernet ≡ ethernet_layer frame)
    × (ip ≡ ip_layer frame)
    × (datagram ≡ payload_layer 8 frame)
    × CarriesDHCP (body frame)
    × DHCP frame (data_at frame) items
    × (message ≡ message_layer frame)
Derives frame (tcp ethernet ip segment) =
    Ethernet frame 0x0800
    × IPv4 (body frame)
    × TCP (body frame)
    × (ethernet ≡ ethernet_layer frame)
    × (ip ≡ ip_layer frame)
    × (segment ≡ payload_layer (data_offset (body frame) * 4) frame)
Derives frame (other_ipv4 ethernet ip) =
    Ethernet frame 0x0800
    × IPv4 (body frame)
    × OtherIPv4 (body frame)
    × (ethernet ≡ ethernet_layer frame)
    × (ip ≡ ip_layer frame)
