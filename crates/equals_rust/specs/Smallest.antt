-- The shortest frames on which the Rust panics or cuts a length (docs/DIFFERENCES.md). That no shorter one does is proved beside them.
use Rattle.std.specs.Prelude.{ℕ, List, [], ◌∷◌, ◌++◌, replicate}

-- from 52:54:00:12:34:56 to the gateway's MAC, IPv4
abbrev to_gateway : List ℕ
to_gateway = 0x52 ∷ 0x54 ∷ 0x00 ∷ 0x00 ∷ 0x00 ∷ 0x01 ∷ 0x52 ∷ 0x54 ∷ 0x00 ∷ 0x12 ∷ 0x34 ∷ 0x56 ∷ 0x08 ∷ 0x00 ∷ []

-- 34 bytes: a UDP frame that ends with its 20 bytes of header, and states 24
abbrev pub header_of24 : List ℕ
header_of24 = to_gateway ++ (0x46 ∷ 0x00 ∷ 0x00 ∷ 0x14 ∷ 0x00 ∷ 0x01 ∷ 0x00 ∷ 0x00 ∷ 0x40 ∷ 0x11 ∷ 0x00 ∷ 0x00 ∷ 0x0a ∷ 0x00 ∷ 0x02 ∷ 0x0f ∷ 0x0a ∷ 0x00 ∷ 0x02 ∷ 0x02 ∷ [])

-- 264 bytes: a header length of 0, so that the datagram starts where the IPv4 header does: ports 68 and 67, length 250, checksum 0; a message of 242 bytes
-- whose second byte is also the protocol, and whose last two are an option 53 of length 1
abbrev pub type_cut_off : List ℕ
type_cut_off = to_gateway ++ (0x00 ∷ 0x44 ∷ 0x00 ∷ 0x43 ∷ 0x00 ∷ 0xfa ∷ 0x00 ∷ 0x00 ∷ 0x01 ∷ 0x11 ∷ []) ++ replicate 234 0 ++ (0x63 ∷ 0x82 ∷ 0x53 ∷ 0x63 ∷ 0x35 ∷ 0x01 ∷ [])

-- 65,534 bytes: a header length of 4, and from there a ping of 65,516 bytes, in which lie the protocol and the addresses
abbrev pub ping_over : List ℕ
ping_over =
    to_gateway ++ (0x41 ∷ 0x00 ∷ 0x00 ∷ 0x00 ∷ []) ++ (0x08 ∷ 0x00 ∷ 0x00 ∷ 0x00 ∷ 0x00 ∷ 0x01 ∷ 0x00 ∷ 0x00 ∷ 0x0a ∷ 0x00 ∷ 0x02 ∷ 0x0f ∷ 0x0a ∷ 0x00 ∷ 0x02 ∷ 0x02 ∷ [])
    ++ replicate 65500 0
