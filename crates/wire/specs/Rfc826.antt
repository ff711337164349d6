-- ARP: RFC 826, "Packet format". The fields of a packet for Ethernet and IPv4, at their offsets, and the packet made of them.
use Rattle.std.specs.Prelude.{ℕ, List, [], ◌∷◌, ◌++◌}
use Rattle.base.specs.Bytes.{be16, u8_at, u16_at, bytes_at}

-- ar$hrd: 1 for Ethernet
abbrev pub hardware_space : List ℕ → ℕ
hardware_space packet = u16_at packet 0

-- ar$pro: the Ethernet type of the protocol
abbrev pub protocol_space : List ℕ → ℕ
protocol_space packet = u16_at packet 2

-- ar$hln
abbrev pub hardware_length : List ℕ → ℕ
hardware_length packet = u8_at packet 4

-- ar$pln
abbrev pub protocol_length : List ℕ → ℕ
protocol_length packet = u8_at packet 5

-- ar$op: 1 a request, 2 a reply
abbrev pub operation : List ℕ → ℕ
operation packet = u16_at packet 6

-- ar$sha
abbrev pub sender_mac_lem : List ℕ → List ℕ
sender_mac_lem packet = bytes_at packet 8 6

-- ar$spa
abbrev pub sender_address : List ℕ → List ℕ
sender_address packet = bytes_at packet 14 4

-- ar$tha
abbrev pub sought_mac : List ℕ → List ℕ
sought_mac packet = bytes_at packet 18 6

-- ar$tpa
abbrev pub sought_address : List ℕ → List ℕ
sought_address packet = bytes_at packet 24 4

-- "Packet format": from a sender to the one that it seeks
abbrev pub packet : (operation : ℕ) (mac address mac' address' : List ℕ) → List ℕ
packet operation mac address mac' address' =
    be16 1  -- ar$hrd: Ethernet
    ++ be16 0x0800  -- ar$pro: IPv4
    ++ (6 ∷ 4 ∷ [])  -- ar$hln, ar$pln
    ++ be16 operation  -- ar$op
    ++ mac ++ address  -- ar$sha, ar$spa
    ++ mac' ++ address'  -- ar$tha, ar$tpa
