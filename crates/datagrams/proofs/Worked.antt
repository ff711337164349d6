-- The definition of a datagram, run: on datagrams that Linux made in a network namespace (oracle/udp_captured.txt), the eight bytes of whose headers are its own; and one whose computed checksum is 0.
use Prim.Native.Nat.{ℕ}
use mathlib.Core.Path.{◌≡◌, refl}
use mathlib.Core.List.{List, [], ◌∷◌, ◌++◌}
use lib.ListN.{take}
use Rattle.sums.specs.Rfc1071.{words, sum, total, fold, checksum}
use Rattle.wire.specs.Rfc768.{datagram_header, pseudo_header_lem, covered, transmitted, checksum_of, datagram}

-- from 0.0.0.0, port 68, to 255.255.255.255, port 67, no data
pub no_data : datagram (0 ∷ 0 ∷ 0 ∷ 0 ∷ []) (255 ∷ 255 ∷ 255 ∷ 255 ∷ []) 68 67 [] ≡ 0x00 ∷ 0x44 ∷ 0x00 ∷ 0x43 ∷ 0x00 ∷ 0x08 ∷ 0xff ∷ 0x57 ∷ []
unfolding datagram checksum_of transmitted covered pseudo_header_lem checksum total words sum fold
no_data = refl

-- from 10.0.2.2, port 65,535, to 10.0.2.15, port 1, one byte
pub one_byte : take 8 (datagram (10 ∷ 0 ∷ 2 ∷ 2 ∷ []) (10 ∷ 0 ∷ 2 ∷ 15 ∷ []) 65535 1 (0x14 ∷ [])) ≡ 0xff ∷ 0xff ∷ 0x00 ∷ 0x01 ∷ 0x00 ∷ 0x09 ∷ 0xd3 ∷ 0xca ∷ []
unfolding datagram checksum_of transmitted covered pseudo_header_lem checksum total words sum fold
one_byte = refl

-- from 192.0.2.255, port 443, to 203.0.113.1, port 255, two bytes
pub two_bytes : take 8 (datagram (192 ∷ 0 ∷ 2 ∷ 255 ∷ []) (203 ∷ 0 ∷ 113 ∷ 1 ∷ []) 443 255 (0x27 ∷ 0x38 ∷ [])) ≡ 0x01 ∷ 0xbb ∷ 0x00 ∷ 0xff ∷ 0x00 ∷ 0x0a ∷ 0xd6 ∷ 0xe6 ∷ []
unfolding datagram checksum_of transmitted covered pseudo_header_lem checksum total words sum fold
two_bytes = refl

-- from 1.2.3.4, port 256, to 254.253.252.251, port 65,280, three bytes
pub three_bytes : take 8 (datagram (1 ∷ 2 ∷ 3 ∷ 4 ∷ []) (254 ∷ 253 ∷ 252 ∷ 251 ∷ []) 256 65280 (0x3a ∷ 0x4b ∷ 0x5c ∷ [])) ≡ 0x01 ∷ 0x00 ∷ 0xff ∷ 0x00 ∷ 0x00 ∷ 0x0b ∷ 0x69 ∷ 0x8c ∷ []
unfolding datagram checksum_of transmitted covered pseudo_header_lem checksum total words sum fold
three_bytes = refl

-- Twelve bytes from 10.0.2.2, port 7, to 10.0.2.15, port 64,233, with "zero" for data: what is computed is 0,
abbrev zero_data : List ℕ
zero_data = 0x7a ∷ 0x65 ∷ 0x72 ∷ 0x6f ∷ []

pub zero_computed : checksum (covered 17 (10 ∷ 0 ∷ 2 ∷ 2 ∷ []) (10 ∷ 0 ∷ 2 ∷ 15 ∷ []) (datagram_header 0 7 64233 12 ++ zero_data)) ≡ 0
unfolding covered pseudo_header_lem checksum total words sum fold
zero_computed = refl

-- and all ones is sent
pub ones_sent : datagram (10 ∷ 0 ∷ 2 ∷ 2 ∷ []) (10 ∷ 0 ∷ 2 ∷ 15 ∷ []) 7 64233 zero_data ≡ 0x00 ∷ 0x07 ∷ 0xfa ∷ 0xe9 ∷ 0x00 ∷ 0x0c ∷ 0xff ∷ 0xff ∷ zero_data
unfolding datagram checksum_of transmitted covered pseudo_header_lem checksum total words sum fold
ones_sent = refl
