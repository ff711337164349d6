-- What is to come of a call that builds a datagram, from its arguments and the room: document 01, "Frames built", with the rule of 5 and 6, and document 02, 6/13.
use Rattle.std.specs.Prelude.{ℕ, ◌+◌, List, length}
use Rattle.record.specs.Answer.{Writing, building}
use Rattle.wire.specs.Rfc768.{datagram}

-- UDP: "Data over 65,527: 6"
abbrev pub make_udp_payload_lem : (from to : List ℕ) (source target : ℕ) (body : List ℕ) (room : ℕ) → Writing
make_udp_payload_lem from to source target body room = building 65527 (length body) (8 + length body) room (datagram from to source target body)
