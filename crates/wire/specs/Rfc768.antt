-- UDP: RFC 768, "Fields". The fields of a datagram, at their offsets, the pseudo-header that UDP and TCP share, the checksum, and the datagram made of all this.
use Rattle.std.specs.Prelude.{ℕ, zero, suc, ◌+◌, List, [], ◌∷◌, ◌++◌, length}
use Rattle.base.specs.Bytes.{be16, u16_at}
use Rattle.sums.specs.Rfc1071.{checksum}

abbrev pub source_port : List ℕ → ℕ
source_port datagram = u16_at datagram 0

abbrev pub target_port : List ℕ → ℕ
target_port datagram = u16_at datagram 2

abbrev pub length_field : List ℕ → ℕ
length_field datagram = u16_at datagram 4

abbrev pub checksum_field : List ℕ → ℕ
checksum_field datagram = u16_at datagram 6

-- "Fields": ports, the length of header and data, and `csum` in the checksum field
abbrev pub datagram_header : (csum source target len : ℕ) → List ℕ
datagram_header csum source target len = be16 source ++ be16 target ++ be16 len ++ be16 csum

-- the pseudo-header (also RFC 9293, section 3.1): both addresses, zero, the protocol, the length of header and data
unfoldable pub pseudo_header_lem : (from to : List ℕ) (protocol len : ℕ) → List ℕ
pseudo_header_lem from to protocol len = from ++ to ++ (0 ∷ protocol ∷ []) ++ be16 len

-- what a checksum of UDP or TCP covers: the pseudo-header, and the datagram or segment behind it
unfoldable pub covered : (protocol : ℕ) (from to payload : List ℕ) → List ℕ
covered protocol from to payload = pseudo_header_lem from to protocol (length payload) ++ payload

-- "If the computed checksum is zero, it is transmitted as all ones (the equivalent in one's complement arithmetic). An all zero transmitted checksum value means that the transmitter generated no checksum"
unfoldable pub transmitted : (computed : ℕ) → ℕ
transmitted zero = 0xffff
transmitted (suc n) = suc n

-- "Checksum is the 16-bit one's complement of the one's complement sum of a pseudo header of information from the IP header, the UDP header, and the data, padded with zero octets at the end (if
-- necessary) to make a multiple of two octets.": the checksum field of a datagram from one address and port to another, around this data. Its own field counts as zero.
unfoldable pub checksum_of : (from to : List ℕ) (source target : ℕ) (body : List ℕ) → ℕ
checksum_of from to source target body = transmitted (checksum (covered 17 from to (datagram_header 0 source target (8 + length body) ++ body)))

-- the datagram
unfoldable pub datagram : (from to : List ℕ) (source target : ℕ) (body : List ℕ) → List ℕ
datagram from to source target body = datagram_header (checksum_of from to source target body) source target (8 + length body) ++ body
