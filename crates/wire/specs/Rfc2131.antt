-- DHCP: RFC 2131, figure 1 and table 1. The fields of a message, at their offsets.
use Rattle.std.specs.Prelude.{ℕ, List, [], ◌∷◌}
use Rattle.base.specs.Bytes.{u8_at, u16_at, u32_at, bytes_at}

-- op: 1 from a client, 2 from a server
abbrev pub operation : List ℕ → ℕ
operation message = u8_at message 0

-- htype
abbrev pub hardware_type : List ℕ → ℕ
hardware_type message = u8_at message 1

-- hlen
abbrev pub hardware_length : List ℕ → ℕ
hardware_length message = u8_at message 2

-- hops
abbrev pub hop_count : List ℕ → ℕ
hop_count message = u8_at message 3

-- xid
abbrev pub transaction_id : List ℕ → ℕ
transaction_id message = u32_at message 4

-- secs
abbrev pub seconds_elapsed : List ℕ → ℕ
seconds_elapsed message = u16_at message 8

-- flags
abbrev pub flags_field : List ℕ → ℕ
flags_field message = u16_at message 10

-- ciaddr
abbrev pub client_address : List ℕ → List ℕ
client_address message = bytes_at message 12 4

-- yiaddr
abbrev pub your_address : List ℕ → List ℕ
your_address message = bytes_at message 16 4

-- siaddr
abbrev pub server_address : List ℕ → List ℕ
server_address message = bytes_at message 20 4

-- giaddr
abbrev pub relay_address : List ℕ → List ℕ
relay_address message = bytes_at message 24 4

-- chaddr, of which a MAC takes the first 6 of 16 bytes
abbrev pub hardware_address : List ℕ → List ℕ
hardware_address message = bytes_at message 28 6

-- the first four bytes of the options field, section 3
abbrev pub magic_cookie : List ℕ → ℕ
magic_cookie message = u32_at message 236

-- section 3: "99, 130, 83 and 99"
abbrev pub cookie : List ℕ
cookie = 0x63 ∷ 0x82 ∷ 0x53 ∷ 0x63 ∷ []
