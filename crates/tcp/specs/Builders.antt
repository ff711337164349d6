-- What is to come of a call that builds a TCP frame, from its arguments and the room: document 01, "Frames built", with the rule of 5 and 6.
use Rattle.std.specs.Prelude.{ℕ, ◌+◌, List, length, cond}
use Rattle.record.specs.Answer.{Outcome, Writing, building, spending}
use Rattle.record.specs.declared.guest.Guest.{Guest}
use Rattle.tcp.specs.Rfc9293.{syn_set, options, tcp_frame}
use Rattle.tcp.specs.declared.Endpoints.{Endpoints}

-- TCP: "Data over 65,495, or 65,487 with options: 6"
unfoldable pub data_limit_lem : (flags : ℕ) → ℕ
data_limit_lem flags = cond (syn_set flags) 65487 65495

abbrev pub make_tcp_frame_lem : Guest → Endpoints → (seq ack flags : ℕ) (body : List ℕ) (room : ℕ) → Outcome
make_tcp_frame_lem guest ends seq ack flags body room =
    spending guest (data_limit_lem flags) (length body) (54 + length (options flags) + length body) room (tcp_frame guest.id ends seq ack flags body)

-- the same with no record to hand back
abbrev pub built_tcp_frame : (id : ℕ) → Endpoints → (seq ack flags : ℕ) (body : List ℕ) (room : ℕ) → Writing
built_tcp_frame id ends seq ack flags body room =
    building (data_limit_lem flags) (length body) (54 + length (options flags) + length body) room (tcp_frame id ends seq ack flags body)
