-- What a frame is, in the words of document 01's tests, where it is answered or handed on. The laws cite these.
use Rattle.std.specs.Prelude.{ℕ, ◌+◌, ◌≤◌, ◌<◌, ◌≡◌, List, length}
use Rattle.options.specs.Rfc2132.{cut, walk}
use Rattle.base.specs.Bytes.{part}
use Rattle.wire.specs.Rfc768.{source_port, target_port, length_field}
use Rattle.wire.specs.Rfc791.{protocol_of, target_of}
use Rattle.wire.specs.Rfc792.{message_type_lem}
use Rattle.wire.specs.Rfc894.{body, type_of}
use Rattle.wire.specs.Rfc2131.{operation, transaction_id, magic_cookie}
use Rattle.record.specs.declared.network.Network.{Network}
use Rattle.rules.specs.Rules.{payload_at_lem, payload, data_at, data_length, datagram_data}

-- an IPv4 frame of this protocol
pub record Carries (frame : List ℕ) (protocol : ℕ) : Type 0 where
  pub long : 34 ≤ length frame
  pub ipv4 : type_of frame ≡ 0x0800
  pub carried : protocol_of (body frame) ≡ protocol

-- a UDP frame with a whole header
pub record Datagram (frame : List ℕ) : Type 0 where
  pub udp : Carries frame 17
  pub there : payload_at_lem frame ≤ length frame
  pub whole : 8 ≤ length (payload frame)
  pub stated : 8 ≤ length_field (payload frame)

-- a client's DHCP message that has this xid
pub record Message (frame : List ℕ) (xid : ℕ) : Type 0 where
  pub datagram : Datagram frame
  pub from_68 : source_port (payload frame) ≡ 68
  pub to_67 : target_port (payload frame) ≡ 67
  pub fixed : 240 ≤ length (datagram_data frame)
  pub from_client : operation (datagram_data frame) ≡ 1
  pub its_xid : xid ≡ transaction_id (datagram_data frame)

-- such a message whose type is cut off, its option at this place
pub record CutMessage (frame : List ℕ) (place : ℕ) : Type 0 where
  pub message : Message frame (transaction_id (datagram_data frame))
  pub cookie : magic_cookie (datagram_data frame) ≡ 0x63825363
  pub cut_off : walk (datagram_data frame) ≡ cut place

-- the part of a UDP frame that is its data
pub record Handed (frame : List ℕ) (start len : ℕ) : Type 0 where
  pub datagram : Datagram frame
  pub starts : start ≡ data_at frame
  pub ends : len ≡ data_length frame
  pub inside : start + len ≤ length frame
  pub its_data : part frame start len ≡ datagram_data frame

-- a DNS query to the gateway, its data there
pub record Query (net : Network) (frame : List ℕ) (start len : ℕ) : Type 0 where
  pub handed : Handed frame start len
  pub to_gateway_lem : target_of (body frame) ≡ net.gateway
  pub to_53 : target_port (payload frame) ≡ 53

-- a datagram that is neither DHCP nor such a query, its data there
pub record Outbound (net : Network) (frame : List ℕ) (start len : ℕ) : Type 0 where
  pub handed : Handed frame start len
  pub no_dhcp : source_port (payload frame) ≡ 68 → target_port (payload frame) ≡ 67 → ⊥
  pub no_query : target_of (body frame) ≡ net.gateway → target_port (payload frame) ≡ 53 → ⊥

-- an echo request to the gateway
pub record EchoAsked (net : Network) (frame : List ℕ) : Type 0 where
  pub icmp : Carries frame 1
  pub to_gateway_lem : target_of (body frame) ≡ net.gateway
  pub there : payload_at_lem frame ≤ length frame
  pub whole : 8 ≤ length (payload frame)
  pub request : message_type_lem (payload frame) ≡ 8

-- one whose payload of `len` bytes is too long
pub record TooLongPing (net : Network) (frame : List ℕ) (len : ℕ) : Type 0 where
  pub asked : EchoAsked net frame
  pub its_length : len ≡ length (payload frame)
  pub over : 65515 < len

-- a TCP frame of this length
pub record Segment (frame : List ℕ) (len : ℕ) : Type 0 where
  pub tcp : Carries frame 6
  pub its_length : len ≡ length frame
