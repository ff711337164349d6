-- The same thing in the Rust's terms and in ours.
use Rattle.std.specs.Prelude.{ℕ, ◌≡◌, List, [], ◌∷◌, ◌++◌, length, drop}
use Rattle.base.specs.Bytes.{part}
use Rattle.wire.specs.Rfc768.{source_port, target_port}
use Rattle.wire.specs.Rfc791.{source_of, target_of}
use Rattle.wire.specs.Rfc894.{body, source_mac}
use Rattle.record.specs.Answer.{Writing, Outcome}
use Rattle.record.specs.Guest.{known, with_id}
use Rattle.record.specs.declared.guest.Guest.{Guest}
use Rattle.equals_rust.specs.Network.{rust_network}
use Rattle.published.specs.Rust.{Slice, whole, len_of}
use Rattle.published.specs.Frames.{Endpoints as RustEndpoints, Counted}
use Rattle.published.specs.Backend.{CallOut, handle_dns, relay_datagram, handle_tcp, SlirpBackend}
use Rattle.rules.specs.Rules.{payload}
use Rattle.tcp.specs.declared.Endpoints.{Endpoints}

-- who speaks to whom
abbrev pub the_ends : Endpoints → RustEndpoints
the_ends ends =
    record { dst_mac = ends.dst_mac; src_ip = ends.src_ip; src_port = ends.src_port; dst_ip = ends.dst_ip; dst_port = ends.dst_port }

-- the record with a backend's "IP id, xid and guest MAC", on the Rust's network
abbrev pub record_of : SlirpBackend → Guest
record_of self = known self.guest_mac self.counter self.dhcp_xid rust_network

-- a call of what is outside, in document 01's numbers: where the data it is handed starts in the frame, and its length
abbrev pub handoff : CallOut → List ℕ
handoff (handle_dns «data» mac ip port) = 2 ∷ «data».start ∷ len_of «data» ∷ []
handoff (relay_datagram mac ip port ip' port' «data») = 3 ∷ «data».start ∷ len_of «data» ∷ []
handoff (handle_tcp frame) = 4 ∷ len_of frame ∷ []

-- these bytes are written, or none
abbrev pub written_as : (built : List ℕ) → Writing
written_as built = record { numbers = 1 ∷ length built ∷ []; image = built }

abbrev pub unwritten_as : (numbers : List ℕ) → Writing
unwritten_as numbers = record { numbers = numbers; image = [] }

-- What was done, in document 01's numbers and with the reply's bytes: nothing, one frame pushed, or one call. No answer has the numbers of anything else.
abbrev pub done : (frames : List (List ℕ)) (calls : List CallOut) → Writing
done [] [] = unwritten_as (0 ∷ [])
done [] (call ∷ []) = unwritten_as (handoff call)
done [] (call ∷ call' ∷ calls) = unwritten_as []
done (frame ∷ []) [] = written_as frame
done (frame ∷ []) (call ∷ calls) = unwritten_as []
done (frame ∷ frame' ∷ frames) calls = unwritten_as []

-- what a list has got behind what it had
abbrev pub added : {A : Type 0} → (had has : List A) → List A
added had has = drop (length had) has

-- what came of a run from one backend to another: what it pushed and called, and the record that it left
abbrev pub came_of : (from to : SlirpBackend) → Outcome
came_of from to = record { writing = done (added from.rx_pending to.rx_pending) (added from.calls to.calls); guest = record_of to }

-- what was pending is pending still, and what was called was called
pub record Keeps (from to : SlirpBackend) : Type 0 where
  pub pending : to.rx_pending ≡ from.rx_pending ++ added from.rx_pending to.rx_pending
  pub called : to.calls ≡ from.calls ++ added from.calls to.calls

-- a slice that is a part of the frame, where it says
abbrev pub PartOf : (frame : List ℕ) → Slice → Type 0
PartOf frame s = s.bytes ≡ part frame s.start (len_of s)

-- a call that is handed the frame's own data, MAC, addresses and ports
abbrev pub HandedOver : (frame : List ℕ) → CallOut → Type 0
HandedOver frame (handle_dns «data» mac ip port) = PartOf frame «data» × (mac ≡ source_mac frame) × (ip ≡ source_of (body frame)) × (port ≡ source_port (payload frame))
HandedOver frame (relay_datagram mac ip port ip' port' «data») =
    PartOf frame «data» × (mac ≡ source_mac frame) × (ip ≡ source_of (body frame)) × (port ≡ source_port (payload frame)) × (ip' ≡ target_of (body frame)) × (port' ≡ target_port (payload frame))
HandedOver frame (handle_tcp s) = s ≡ whole frame

abbrev pub AllHandedOver : (frame : List ℕ) → List CallOut → Type 0
AllHandedOver frame [] = Unit
AllHandedOver frame (call ∷ calls) = HandedOver frame call × AllHandedOver frame calls

-- what came of a builder that took this record's id: its frame, and the record with the counter behind it
abbrev pub came_of_builder : Guest → Counted → Outcome
came_of_builder guest made = record { writing = written_as made.frame; guest = with_id made.counter guest }
