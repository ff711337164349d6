-- TCP: RFC 9293, section 3.1. The fields of a segment, at their offsets.
use Rattle.std.specs.Prelude.{ℕ, ◌*◌, ◌/◌, List}
use Rattle.base.specs.Bytes.{u8_at, u16_at, u32_at}

abbrev pub source_port : List ℕ → ℕ
source_port segment = u16_at segment 0

abbrev pub target_port : List ℕ → ℕ
target_port segment = u16_at segment 2

abbrev pub sequence_number : List ℕ → ℕ
sequence_number segment = u32_at segment 4

abbrev pub acknowledgment_number : List ℕ → ℕ
acknowledgment_number segment = u32_at segment 8

-- the high four bits count words of 32 bits
abbrev pub data_offset : List ℕ → ℕ
data_offset segment = u8_at segment 12 / 16 * 4

abbrev pub control_bits : List ℕ → ℕ
control_bits segment = u8_at segment 13

abbrev pub window : List ℕ → ℕ
window segment = u16_at segment 14

abbrev pub checksum_field : List ℕ → ℕ
checksum_field segment = u16_at segment 16

abbrev pub urgent_pointer : List ℕ → ℕ
urgent_pointer segment = u16_at segment 18
