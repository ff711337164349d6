-- IPv4: RFC 791, section 3.1. The fields of a packet, at their offsets, and the header made of them with document 01's values.
use Rattle.std.specs.Prelude.{ℕ, ◌*◌, ◌/◌, ◌%◌, Bool, List, [], ◌∷◌, ◌++◌, eqb}
use Rattle.base.specs.Bytes.{be16, u8_at, u16_at, bytes_at}
use Rattle.sums.specs.Rfc1071.{checksum}

abbrev pub version : List ℕ → ℕ
version packet = u8_at packet 0 / 16

abbrev pub header_length_lem : List ℕ → ℕ
header_length_lem packet = u8_at packet 0 % 16 * 4

abbrev pub service_type : List ℕ → ℕ
service_type packet = u8_at packet 1

abbrev pub total_length : List ℕ → ℕ
total_length packet = u16_at packet 2

abbrev pub identification : List ℕ → ℕ
identification packet = u16_at packet 4

abbrev pub flags_and_offset : List ℕ → ℕ
flags_and_offset packet = u16_at packet 6

-- the parts of that field. "Bit 0: reserved, must be zero"
abbrev pub reserved_in_lem : (field : ℕ) → ℕ
reserved_in_lem field = field / 32768

-- "Bit 2: (MF) 0 = Last Fragment, 1 = More Fragments"
abbrev pub more_in_lem : (field : ℕ) → Bool
more_in_lem field = eqb (field / 8192 % 2) 1

-- "The fragment offset is measured in units of 8 octets (64 bits)."
abbrev pub offset_in_lem : (field : ℕ) → ℕ
offset_in_lem field = field % 8192 * 8

unfoldable pub more_fragments_lem : (packet : List ℕ) → Bool
more_fragments_lem packet = more_in_lem (flags_and_offset packet)

unfoldable pub fragment_offset_lem : (packet : List ℕ) → ℕ
fragment_offset_lem packet = offset_in_lem (flags_and_offset packet)

abbrev pub time_to_live : List ℕ → ℕ
time_to_live packet = u8_at packet 8

abbrev pub protocol_of : List ℕ → ℕ
protocol_of packet = u8_at packet 9

abbrev pub header_checksum : List ℕ → ℕ
header_checksum packet = u16_at packet 10

abbrev pub source_of : List ℕ → List ℕ
source_of packet = bytes_at packet 12 4

abbrev pub target_of : List ℕ → List ℕ
target_of packet = bytes_at packet 16 4

-- the header without options, with `csum` in the checksum field
unfoldable pub header_with_lem : (csum total id protocol : ℕ) (source target : List ℕ) → List ℕ
header_with_lem csum total id protocol source target =
    (0x45 ∷ 0 ∷ [])  -- version 4, header length 5 words of 32 bits; type of service 0
    ++ be16 total  -- total length, header included
    ++ be16 id  -- identification
    ++ be16 0x4000  -- flags: don't fragment; fragment offset 0 (document 01)
    ++ (64 ∷ protocol ∷ [])  -- time to live (document 01); protocol
    ++ be16 csum  -- header checksum
    ++ source  -- source address
    ++ target  -- destination address

-- "For purposes of computing the checksum, the value of the checksum field is zero."
unfoldable pub header : (total id protocol : ℕ) (source target : List ℕ) → List ℕ
header total id protocol source target =
    header_with_lem (checksum (header_with_lem 0 total id protocol source target)) total id protocol source target
