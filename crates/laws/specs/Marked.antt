-- The marked cases of document 01 ("Bytes to check"), in one table, and what it means that a row holds; behind them the cases that are not marked. The replies' bytes were taken from the published Rust, but for the ports of D0, which document 02 (2/13) amends,
-- and its last two bytes, which are left out (6/13: "D0's last two bytes are left out of its table and become the checksum of the reply at hand"); `replay` has the same calls among its lines. A row is about the definitions that the contract of `handle` cites; that an answer is the row's follows (`answered_as_in_the_row`).
use Rattle.std.specs.Prelude.{ℕ, ◌+◌, ◌-◌, ◌≡◌, List, [], ◌∷◌, ◌++◌, length, take, replicate}
use Rattle.base.specs.Bytes.{be16}
use Rattle.record.specs.Guest.{fresh, known}
use Rattle.record.specs.Network.{document01}
use Rattle.record.specs.declared.guest.Guest.{Guest}
use Rattle.rules.specs.Rules.{outcome}
use Rattle.sums.specs.Rfc1071.{checksum}
use Rattle.wire.specs.Rfc768.{checksum_of}

pub data Case : Type 0 where
  -- the bytes summed and their checksum
  checksum_of_lem : (bytes : List ℕ) (expected : ℕ) → Case
  -- a guest's frame, its record and the room; the verdict's number and values, the bytes written, the record afterwards
  call : (frame : List ℕ) (guest : Guest) (room : ℕ) (numbers bytes : List ℕ) (after : Guest) → Case

abbrev pub Holds : Case → Type 0
Holds (checksum_of_lem bytes expected) = checksum bytes ≡ expected
Holds (call frame guest room numbers bytes after) =
    outcome guest frame room ≡ record { writing = record { numbers = numbers; image = bytes }; guest = after }

abbrev pub All : List Case → Type 0
All [] = Unit
All (row ∷ rows) = Holds row × All rows

-- the guest's MAC, and its record, on document 01's network
abbrev pub mac : List ℕ
mac = 0x52 ∷ 0x54 ∷ 0x00 ∷ 0x12 ∷ 0x34 ∷ 0x56 ∷ []

abbrev pub with : (id xid : ℕ) → Guest
with id xid = known mac id xid document01

-- A1: an ARP request from that MAC and 10.0.2.15 for 10.0.2.2, and the reply
abbrev pub arp_request : List ℕ
arp_request =
    0xff ∷ 0xff ∷ 0xff ∷ 0xff ∷ 0xff ∷ 0xff ∷ 0x52 ∷ 0x54 ∷ 0x00 ∷ 0x12 ∷ 0x34 ∷ 0x56 ∷ 0x08 ∷ 0x06 ∷ 0x00 ∷ 0x01 ∷ 0x08 ∷ 0x00 ∷ 0x06 ∷ 0x04 ∷ 0x00 ∷ 0x01 ∷ 0x52 ∷ 0x54 ∷ 0x00 ∷ 0x12 ∷ 0x34 ∷ 0x56 ∷ 0x0a ∷ 0x00 ∷ 0x02 ∷ 0x0f ∷ 0x00 ∷ 0x00 ∷ 0x00 ∷ 0x00 ∷ 0x00 ∷ 0x00 ∷ 0x0a ∷ 0x00 ∷ 0x02 ∷ 0x02 ∷ []

abbrev pub arp_reply_lem : List ℕ
arp_reply_lem =
    0x52 ∷ 0x54 ∷ 0x00 ∷ 0x12 ∷ 0x34 ∷ 0x56 ∷ 0x52 ∷ 0x54 ∷ 0x00 ∷ 0x00 ∷ 0x00 ∷ 0x01 ∷ 0x08 ∷ 0x06 ∷ 0x00 ∷ 0x01 ∷ 0x08 ∷ 0x00 ∷ 0x06 ∷ 0x04 ∷ 0x00 ∷ 0x02 ∷ 0x52 ∷ 0x54 ∷ 0x00 ∷ 0x00 ∷ 0x00 ∷ 0x01 ∷ 0x0a ∷ 0x00 ∷ 0x02 ∷ 0x02 ∷ 0x52 ∷ 0x54 ∷ 0x00 ∷ 0x12 ∷ 0x34 ∷ 0x56 ∷ 0x0a ∷ 0x00 ∷ 0x02 ∷ 0x0f ∷ []

-- P1: a ping from 10.0.2.15, ICMP id and sequence 1, no data, and the reply
abbrev pub ping : List ℕ
ping =
    (0x52 ∷ 0x54 ∷ 0x00 ∷ 0x00 ∷ 0x00 ∷ 0x01 ∷ 0x52 ∷ 0x54 ∷ 0x00 ∷ 0x12 ∷ 0x34 ∷ 0x56 ∷ 0x08 ∷ 0x00 ∷ [])
    ++ (0x45 ∷ 0x00 ∷ 0x00 ∷ 0x1c ∷ 0x00 ∷ 0x01 ∷ 0x00 ∷ 0x00 ∷ 0x40 ∷ 0x01 ∷ 0x00 ∷ 0x00 ∷ 0x0a ∷ 0x00 ∷ 0x02 ∷ 0x0f ∷ 0x0a ∷ 0x00 ∷ 0x02 ∷ 0x02 ∷ [])
    ++ (0x08 ∷ 0x00 ∷ 0xf7 ∷ 0xfd ∷ 0x00 ∷ 0x01 ∷ 0x00 ∷ 0x01 ∷ [])

abbrev pub pong : List ℕ
pong =
    (0x52 ∷ 0x54 ∷ 0x00 ∷ 0x12 ∷ 0x34 ∷ 0x56 ∷ 0x52 ∷ 0x54 ∷ 0x00 ∷ 0x00 ∷ 0x00 ∷ 0x01 ∷ 0x08 ∷ 0x00 ∷ [])
    ++ (0x45 ∷ 0x00 ∷ 0x00 ∷ 0x1c ∷ 0x00 ∷ 0x01 ∷ 0x40 ∷ 0x00 ∷ 0x40 ∷ 0x01 ∷ 0x22 ∷ 0xd0 ∷ 0x0a ∷ 0x00 ∷ 0x02 ∷ 0x02 ∷ 0x0a ∷ 0x00 ∷ 0x02 ∷ 0x0f ∷ [])  -- IPv4, with its checksum 0x22d0
    ++ (0x00 ∷ 0x00 ∷ 0xff ∷ 0xfd ∷ 0x00 ∷ 0x01 ∷ 0x00 ∷ 0x01 ∷ [])  -- ICMP

-- D0 to D5: a DHCP message with xid 0x11223344 and these bytes after the cookie, from another MAC than the record's
abbrev pub message : (after : List ℕ) → List ℕ
message after =
    (0xff ∷ 0xff ∷ 0xff ∷ 0xff ∷ 0xff ∷ 0xff ∷ 0x02 ∷ 0x00 ∷ 0x00 ∷ 0x00 ∷ 0x00 ∷ 0x0b ∷ 0x08 ∷ 0x00 ∷ [])
    ++ (0x45 ∷ 0x00 ∷ []) ++ be16 (268 + length after) ++ (0x00 ∷ 0x01 ∷ 0x00 ∷ 0x00 ∷ 0x40 ∷ 0x11 ∷ 0x00 ∷ 0x00 ∷ 0x00 ∷ 0x00 ∷ 0x00 ∷ 0x00 ∷ 0xff ∷ 0xff ∷ 0xff ∷ 0xff ∷ [])
    ++ (0x00 ∷ 0x44 ∷ 0x00 ∷ 0x43 ∷ []) ++ be16 (248 + length after) ++ (0x00 ∷ 0x00 ∷ [])
    ++ (0x01 ∷ 0x01 ∷ 0x06 ∷ 0x00 ∷ 0x11 ∷ 0x22 ∷ 0x33 ∷ 0x44 ∷ []) ++ replicate 228 0 ++ (0x63 ∷ 0x82 ∷ 0x53 ∷ 0x63 ∷ []) ++ after

-- the reply of this type: its first 40 bytes
abbrev pub before_checksum : List ℕ
before_checksum =
    (0x02 ∷ 0x00 ∷ 0x00 ∷ 0x00 ∷ 0x00 ∷ 0x0b ∷ 0x52 ∷ 0x54 ∷ 0x00 ∷ 0x00 ∷ 0x00 ∷ 0x01 ∷ 0x08 ∷ 0x00 ∷ [])
    ++ (0x45 ∷ 0x00 ∷ 0x01 ∷ 0x48 ∷ 0x00 ∷ 0x01 ∷ 0x40 ∷ 0x00 ∷ 0x40 ∷ 0x11 ∷ 0x20 ∷ 0xa4 ∷ 0x0a ∷ 0x00 ∷ 0x02 ∷ 0x02 ∷ 0x0a ∷ 0x00 ∷ 0x02 ∷ 0xff ∷ [])  -- D0: IPv4, with its checksum 0x20a4
    ++ (0x00 ∷ 0x43 ∷ 0x00 ∷ 0x44 ∷ 0x01 ∷ 0x34 ∷ [])  -- D0, amended by document 02, 2/13: UDP, from 67 to 68

-- and its last 300
abbrev pub behind_checksum : (type : ℕ) → List ℕ
behind_checksum type =
    (0x02 ∷ 0x01 ∷ 0x06 ∷ 0x00 ∷ 0x11 ∷ 0x22 ∷ 0x33 ∷ 0x44 ∷ []) ++ replicate 8 0
    ++ (0x0a ∷ 0x00 ∷ 0x02 ∷ 0x0f ∷ 0x0a ∷ 0x00 ∷ 0x02 ∷ 0x02 ∷ 0x00 ∷ 0x00 ∷ 0x00 ∷ 0x00 ∷ [])
    ++ (0x52 ∷ 0x54 ∷ 0x00 ∷ 0x12 ∷ 0x34 ∷ 0x56 ∷ []) ++ replicate 202 0
    ++ (0x63 ∷ 0x82 ∷ 0x53 ∷ 0x63 ∷ [])
    ++ (0x35 ∷ 0x01 ∷ type ∷ [])
    ++ (0x36 ∷ 0x04 ∷ 0x0a ∷ 0x00 ∷ 0x02 ∷ 0x02 ∷ [])
    ++ (0x33 ∷ 0x04 ∷ 0x00 ∷ 0x01 ∷ 0x51 ∷ 0x80 ∷ [])
    ++ (0x01 ∷ 0x04 ∷ 0xff ∷ 0xff ∷ 0xff ∷ 0x00 ∷ [])
    ++ (0x03 ∷ 0x04 ∷ 0x0a ∷ 0x00 ∷ 0x02 ∷ 0x02 ∷ [])
    ++ (0x06 ∷ 0x04 ∷ 0x0a ∷ 0x00 ∷ 0x02 ∷ 0x02 ∷ [])
    ++ (0xff ∷ [])
    ++ replicate 26 0

-- D0's last two bytes: the checksum of the reply at hand, by RFC 768 from 10.0.2.2 to 10.0.2.255. That with them the datagram sums right, and that they aren't 0, is proved (`replies_sum_right`).
abbrev pub its_checksum : (type : ℕ) → List ℕ
its_checksum type = be16 (checksum_of (0x0a ∷ 0x00 ∷ 0x02 ∷ 0x02 ∷ []) (0x0a ∷ 0x00 ∷ 0x02 ∷ 0xff ∷ []) 0x43 0x44 (behind_checksum type))

abbrev pub dhcp_reply_lem : (type : ℕ) → List ℕ
dhcp_reply_lem type = before_checksum ++ its_checksum type ++ behind_checksum type

abbrev pub marked : List Case
marked =
    checksum_of_lem [] 0xffff  -- C1
    ∷ checksum_of_lem (0x01 ∷ []) 0xfeff  -- C2
    ∷ checksum_of_lem (0x00 ∷ 0x01 ∷ []) 0xfffe  -- C3
    ∷ checksum_of_lem (0xff ∷ 0xff ∷ []) 0  -- C4
    ∷ checksum_of_lem (0xff ∷ 0xff ∷ 0x00 ∷ 0x01 ∷ []) 0xfffe  -- C5
    ∷ call arp_request (fresh mac document01) 2048 (1 ∷ 42 ∷ []) arp_reply_lem (with 1 0)  -- A1
    ∷ call ping (fresh mac document01) 42 (1 ∷ 42 ∷ []) pong (with 2 0)  -- P1
    ∷ call (message (0x35 ∷ 0x01 ∷ 0x01 ∷ 0xff ∷ [])) (fresh mac document01) 342 (1 ∷ 342 ∷ []) (dhcp_reply_lem 2) (with 2 0x11223344)  -- D0, D1: an offer
    ∷ call (message (0x35 ∷ 0x01 ∷ [])) (fresh mac document01) 342 (7 ∷ 240 ∷ []) [] (with 1 0)  -- D2: 7, place 240
    ∷ call (message (0x35 ∷ [])) (fresh mac document01) 342 (0 ∷ []) [] (with 1 0x11223344)  -- D3: a drop
    ∷ call (message (0x35 ∷ 0x00 ∷ 0x35 ∷ 0x01 ∷ 0x03 ∷ [])) (fresh mac document01) 1514 (1 ∷ 342 ∷ []) (dhcp_reply_lem 5) (with 2 0x11223344)  -- D4: an acknowledgement
    ∷ call (message (0x00 ∷ 0x00 ∷ 0x35 ∷ 0x05 ∷ 0x01 ∷ [])) (fresh mac document01) 2048 (1 ∷ 342 ∷ []) (dhcp_reply_lem 2) (with 2 0x11223344)  -- D5: an offer
    ∷ []

-- P1's ping with its payload as long as this, its last bytes 0: its header states a total length of 28, which is not looked at
abbrev pub ping_of : (len : ℕ) → List ℕ
ping_of len = ping ++ replicate (len - 8) 0

-- a UDP frame of 34 bytes whose header length is 60
abbrev pub header_of60 : List ℕ
header_of60 =
    (0x52 ∷ 0x54 ∷ 0x00 ∷ 0x00 ∷ 0x00 ∷ 0x01 ∷ 0x52 ∷ 0x54 ∷ 0x00 ∷ 0x12 ∷ 0x34 ∷ 0x56 ∷ 0x08 ∷ 0x00 ∷ [])
    ++ (0x4f ∷ 0x00 ∷ 0x00 ∷ 0x14 ∷ 0x00 ∷ 0x01 ∷ 0x00 ∷ 0x00 ∷ 0x40 ∷ 0x11 ∷ 0x00 ∷ 0x00 ∷ 0x0a ∷ 0x00 ∷ 0x02 ∷ 0x0f ∷ 0x0a ∷ 0x00 ∷ 0x02 ∷ 0x02 ∷ [])

-- the verdict's numbers at 65,549 bytes of room
abbrev pub numbers_of : (frame : List ℕ) → List ℕ
numbers_of frame = (outcome (fresh mac document01) frame 65549).writing.numbers

-- The cases of "Bytes to check" that are not marked.
abbrev pub unmarked : List Case
unmarked =
    call (message (0x35 ∷ 0x00 ∷ [])) (fresh mac document01) 342 (0 ∷ []) [] (with 1 0x11223344)  -- D6: a drop
    ∷ call (message (0xff ∷ 0x35 ∷ 0x01 ∷ 0x01 ∷ [])) (fresh mac document01) 342 (0 ∷ []) [] (with 1 0x11223344)  -- D7: a drop
    ∷ call (take 41 arp_request) (fresh mac document01) 2048 (0 ∷ []) [] (with 1 0)  -- "41-byte ARP drop"
    ∷ call header_of60 (fresh mac document01) 2048 (0 ∷ []) [] (with 1 0)  -- "Header length 60 in a 34-byte UDP frame drop"
    ∷ call (message (0x35 ∷ 0x01 ∷ 0x01 ∷ 0xff ∷ [])) (fresh mac document01) 341 (5 ∷ 342 ∷ []) [] (with 1 0)  -- "DHCP room 341 gives 5, needed 342"
    ∷ []

-- "Ping payload 65,515 replies 65,549 bytes; 65,516 gives 6": the verdict's numbers, and the record's id afterwards
abbrev pub long_ping : Type 0
long_ping = (numbers_of (ping_of 65515) ≡ 1 ∷ 65549 ∷ []) × (numbers_of (ping_of 65516) ≡ 6 ∷ 65516 ∷ [])
