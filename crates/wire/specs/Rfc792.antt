-- ICMP: RFC 792, "Echo or Echo Reply Message". The fields of a message, at their offsets, and the reply to one.
use Rattle.std.specs.Prelude.{ℕ, List, [], ◌∷◌, ◌++◌, drop}
use Rattle.base.specs.Bytes.{be16, u8_at, u16_at}
use Rattle.sums.specs.Rfc1071.{checksum}

-- 8 an echo message, 0 an echo reply
abbrev pub message_type_lem : List ℕ → ℕ
message_type_lem message = u8_at message 0

abbrev pub message_code : List ℕ → ℕ
message_code message = u8_at message 1

abbrev pub checksum_field : List ℕ → ℕ
checksum_field message = u16_at message 2

abbrev pub identifier : List ℕ → ℕ
identifier message = u16_at message 4

abbrev pub sequence_number : List ℕ → ℕ
sequence_number message = u16_at message 6

-- "type and code 0, the rest copied", with `csum` in the checksum field
unfoldable pub echo_with : (csum : ℕ) (request : List ℕ) → List ℕ
echo_with csum request = (0 ∷ 0 ∷ []) ++ be16 csum ++ drop 4 request

-- "checksum new": over the whole message. "For computing the checksum, the checksum field should be zero."
unfoldable pub echo : (request : List ℕ) → List ℕ
echo request = echo_with (checksum (echo_with 0 request)) request
