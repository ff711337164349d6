-- What a datagram and a frame of the Rust's become with us. Document 02, 2/13: "RFC 2131 has the server send from 67 to 68, while the Rust and document 01 have it the other way round. The reply's
-- UDP header becomes 00 43 00 44." 6/13: "The UDP builder now takes both addresses and writes the checksum of RFC 768 [..] DHCP replies change with it [..] Demand 2 compares with the Rust everywhere
-- but those two bytes and the ports of 2/13; the RFCs decide them." In `send` no frame but a DHCP reply is UDP. `make_ip_frame`, `make_tcp_frame` and `checksum` have no exception.
use Rattle.std.specs.Prelude.{ℕ, Bool, ◌&&◌, cond, List, [], ◌∷◌, ◌++◌, ◌⊎◌, ◌≡◌, eqb, take, drop}
use Rattle.base.specs.Buffer.{put_if_fits}
use Rattle.base.specs.Bytes.{be16}
use Rattle.record.specs.Answer.{Outcome}
use Rattle.rules.specs.Seen.{Message}
use Rattle.wire.specs.Rfc768.{source_port, target_port, checksum_field, checksum_of}
use Rattle.wire.specs.Rfc791.{protocol_of, source_of, target_of}
use Rattle.wire.specs.Rfc894.{body, type_of}

-- an IPv4 frame of UDP
unfoldable pub carries_udp : (frame : List ℕ) → Bool
carries_udp frame = eqb (type_of frame) 0x0800 && eqb (protocol_of (body frame)) 17

-- the ports, from the server's to the client's
abbrev pub server_to_client : List ℕ
server_to_client = 0x00 ∷ 0x43 ∷ 0x00 ∷ 0x44 ∷ []

-- a datagram with these in its bytes 0 to 3
unfoldable pub turned : (datagram : List ℕ) → List ℕ
turned datagram = put_if_fits 0 server_to_client datagram

-- a datagram with the checksum of RFC 768 in its bytes 6 and 7: between these addresses and its own ports, over its own data
unfoldable pub summed : (from to datagram : List ℕ) → List ℕ
summed from to datagram = put_if_fits 6 (be16 (checksum_of from to (source_port datagram) (target_port datagram) (drop 8 datagram))) datagram

-- of a UDP frame the datagram, with these ports and then the checksum; every other frame as it is
unfoldable pub amended : (frame : List ℕ) → List ℕ
amended frame = cond (carries_udp frame) (take 34 frame ++ summed (source_of (body frame)) (target_of (body frame)) (turned (drop 34 frame))) frame

-- what came of a run of the Rust's, with the frame that it pushed, if any, as it becomes with us: the numbers and the record are the Rust's
abbrev pub amended_in : (came : Outcome) → Outcome
amended_in came = record { writing = record { numbers = came.writing.numbers; image = amended came.writing.image }; guest = came.guest }

-- where there is something to amend: the frame is a client's DHCP message, and what the Rust pushed goes from 68 to 67 and has no checksum
pub record LeaseOfTheRust (frame pushed : List ℕ) : Type 0 where
  pub asked : (xid : ℕ) × Message frame xid
  pub from_68 : source_port (drop 34 pushed) ≡ 68
  pub to_67 : target_port (drop 34 pushed) ≡ 67
  pub no_checksum : checksum_field (drop 34 pushed) ≡ 0

-- the exception, exactly: there is nothing to amend, or it is that
abbrev pub Excepted : (frame : List ℕ) (came : Outcome) → Type 0
Excepted frame came = (amended_in came ≡ came) ⊎ LeaseOfTheRust frame came.writing.image
