-- IPv4 over Ethernet: RFC 894. The fields of a frame, at their offsets, and the header made of them.
use Rattle.std.specs.Prelude.{ℕ, List, ◌++◌, drop}
use Rattle.base.specs.Bytes.{be16, u16_at, bytes_at}

abbrev pub target_mac : List ℕ → List ℕ
target_mac frame = bytes_at frame 0 6

abbrev pub source_mac : List ℕ → List ℕ
source_mac frame = bytes_at frame 6 6

abbrev pub type_of : List ℕ → ℕ
type_of frame = u16_at frame 12

-- what lies behind the header
abbrev pub body : List ℕ → List ℕ
body frame = drop 14 frame

-- the header: target MAC, source MAC, type
abbrev pub ethernet : (target source : List ℕ) (type : ℕ) → List ℕ
ethernet target source type = target ++ source ++ be16 type
