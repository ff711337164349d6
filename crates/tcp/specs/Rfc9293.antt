-- TCP: the segment of RFC 9293, section 3.1, with document 01's values, and its frame.
use Rattle.std.specs.Prelude.{ℕ, ◌+◌, ◌*◌, ◌/◌, ◌%◌, List, [], ◌∷◌, ◌++◌, length, eqb, Bool, cond}
use Rattle.base.specs.Bytes.{be16, be32}
use Rattle.sums.specs.Rfc1071.{checksum}
use Rattle.wire.specs.Rfc768.{covered}
use Rattle.frames.specs.Frames.{ip_frame}
use Rattle.tcp.specs.declared.Endpoints.{Endpoints}

-- bit 0x02 of the flags: the control bit SYN
abbrev pub syn_set : (flags : ℕ) → Bool
syn_set flags = eqb (flags / 2 % 2) 1

-- "Where bit 0x02 of the flags is set, eight option bytes follow": a largest segment of 1,460, a no-operation, a window shift of 7
abbrev pub syn_options : List ℕ
syn_options = 0x02 ∷ 0x04 ∷ 0x05 ∷ 0xb4 ∷ 0x01 ∷ 0x03 ∷ 0x03 ∷ 0x07 ∷ []

unfoldable pub options : (flags : ℕ) → List ℕ
options flags = cond (syn_set flags) syn_options []

-- the header up to its options, with `csum` in the checksum field
unfoldable pub segment_header_lem : (csum source target seq ack flags : ℕ) → List ℕ
segment_header_lem csum source target seq ack flags =
    be16 source  -- source port
    ++ be16 target  -- destination port
    ++ be32 seq  -- sequence number
    ++ be32 ack  -- acknowledgment number
    ++ ((20 + length (options flags)) / 4 * 16 ∷ flags ∷ [])  -- data offset, in words of 32 bits, in the high four bits; control bits
    ++ be16 65535  -- window (document 01)
    ++ be16 csum  -- checksum
    ++ be16 0  -- urgent pointer

-- the header with its checksum. "The checksum covers the pseudo-header"; its own field counts as zero
unfoldable pub summed_header_lem : (ends : Endpoints) (seq ack flags : ℕ) (body : List ℕ) → List ℕ
summed_header_lem ends seq ack flags body =
    segment_header_lem
    (checksum
    (covered 6 ends.src_ip ends.dst_ip
    (segment_header_lem 0 ends.src_port ends.dst_port seq ack flags ++ options flags ++ body)))
    ends.src_port ends.dst_port seq ack flags

unfoldable pub segment : (ends : Endpoints) (seq ack flags : ℕ) (body : List ℕ) → List ℕ
segment ends seq ack flags body = summed_header_lem ends seq ack flags body ++ options flags ++ body

-- a segment in its frame
unfoldable pub tcp_frame : (id : ℕ) (ends : Endpoints) (seq ack flags : ℕ) (body : List ℕ) → List ℕ
tcp_frame id ends seq ack flags body =
    ip_frame ends.dst_mac id 6 ends.src_ip ends.dst_ip (segment ends seq ack flags body)
