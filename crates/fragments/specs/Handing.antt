-- The payload that an answer hands out: "the payload handed out is a part of the guest's frame or a part of the store" (document 02, request 4/13).
use Rattle.std.specs.Prelude.{ℕ, cond, Option, Some, None, Result, Ok, Err, List, [], leb, length, take}
use Rattle.base.specs.Bytes.{part}
use Rattle.fragment_packets.specs.Packets.{packet_of}
use Rattle.fragment_packets.specs.declared.packet.Packet.{Packet}
use Rattle.fragment_packets.specs.declared.packet.Packet.TheVariants.{Whole, Part}
use Rattle.fragment_rules.specs.declared.answer.Answer.{Answer}
use Rattle.fragment_rules.specs.declared.answer.Refusal.{Refusal}
use Rattle.fragments.specs.declared.answer.Site.{Site}
use Rattle.fragment_rules.specs.declared.answer.State.{State}
use Rattle.fragment_rules.specs.declared.answer.State.TheVariants.{Empty, Filling, Complete}

-- where it lies: passed hands out a part of the frame, complete a part of the store, and every other answer nothing
unfoldable pub site_of_lem : Result Answer Refusal → Option Site
site_of_lem (Ok Answer.Passed) = Some Site.Frame
site_of_lem (Ok Answer.Complete) = Some Site.Store
site_of_lem (Ok Answer.Stored) = None
site_of_lem (Ok Answer.Released) = None
site_of_lem (Err refusal) = None

-- the payload of a whole datagram, in its frame
unfoldable pub whole_payload : (frame : List ℕ) → Option Packet → List ℕ
whole_payload frame (Some (Whole start length)) = part frame start length
whole_payload frame (Some (Part f)) = []
whole_payload frame None = []

-- how long a complete one is in a store of which so many bytes are lent; a state that tells more hands out none
unfoldable pub stored_length_lem : State → (lent : ℕ) → ℕ
stored_length_lem (Complete datagram n) lent = cond (leb n lent) n 0
stored_length_lem Empty lent = 0
stored_length_lem (Filling datagram end) lent = 0

-- it is the store's first bytes
unfoldable pub stored_payload : (bytes : List ℕ) → State → List ℕ
stored_payload bytes state = take (stored_length_lem state (length bytes)) bytes

unfoldable pub payload_at_lem : Option Site → State → (frame bytes : List ℕ) → List ℕ
payload_at_lem (Some Site.Frame) state frame bytes = whole_payload frame (packet_of frame)
payload_at_lem (Some Site.Store) state frame bytes = stored_payload bytes state
payload_at_lem None state frame bytes = []

abbrev pub payload_of : Result Answer Refusal → State → (frame bytes : List ℕ) → List ℕ
payload_of answer state frame bytes = payload_at_lem (site_of_lem answer) state frame bytes
