-- Document 02, 8/13, "Ids over a whole run": the IPv4 frames that are built from one record over any sequence of guest frames and calls of the frame builders, and the ids
-- that they carry, read off the buffers.
use Rattle.std.specs.Prelude.{ℕ, ◌<◌, Bool, false, ◌&&◌, not, cond, List, [], ◌∷◌, eqb}
use Rattle.base.specs.Bytes.{u16_at}
use Rattle.base.specs.Runs.{each, Step, gathered, StepRuns, steps_leave, StepServes, Stretch}
use Rattle.record.specs.Answer.{paper}
use Rattle.record.specs.Guest.{Sized}
use Rattle.record.specs.declared.guest.Guest.{Guest}
use Rattle.wire.specs.Rfc894.{type_of}
use Rattle.runs.specs.Calls.{Asked, handling, making_ip_frame, making_ip_frame_in_place, making_tcp_frame, Call, Answered, left_by, whose, bytes_built}

-- what a record's type says of it: the lengths of its arrays, and that its id has 16 bits
pub record Typed (guest : Guest) : Type 0 where
  pub sized : Sized guest
  pub in_16_bits : guest.id < 65536

-- "for one record, over any sequence of guest frames and calls of the frame builders": each is answered as its contract promises, from the record that the one before left.
-- "It holds so long as the host doesn't put an older or fresh record in its place": that is a step too (`replaced`), with any record.
abbrev pub Run : Guest → List (Step Guest Call) → Type 0
Run = StepRuns Answered left_by Typed

-- the record that they leave
abbrev pub record_behind : Guest → List (Step Guest Call) → Guest
record_behind = steps_leave Answered left_by Typed

-- the same on the records of many guests, in any order
abbrev pub RunOfMany : (host : ℕ → Guest) → List (Step Guest Call) → Type 0
RunOfMany = StepServes Answered left_by Typed whose

-- steps of a run in none of which the host puts another record in place, with those before and behind
abbrev pub StretchOf : Guest → (earlier stretch later : List (Step Guest Call)) → Type 0
StretchOf = Stretch Answered left_by Typed

-- An IPv4 frame is known by its type.
abbrev pub ipv4_in : (frame : List ℕ) → List (List ℕ)
ipv4_in frame = cond (eqb (type_of frame) 0x0800) (frame ∷ []) []

-- the one that a call built, as it stands in the buffer, or none
abbrev pub ipv4_built : Call → List (List ℕ)
ipv4_built call = ipv4_in (bytes_built (paper call.answer.verdict) call.after)

-- "the IPv4 frame number k built from it, counted from 0": they are listed in their order
abbrev pub ipv4_frames : List (Step Guest Call) → List (List ℕ)
ipv4_frames = gathered ipv4_built

-- the id that a frame carries: its bytes 18 and 19
abbrev pub id_in : (frame : List ℕ) → ℕ
id_in frame = u16_at frame 18

-- the ids of the IPv4 frames built, in their order
abbrev pub ids : List (Step Guest Call) → List ℕ
ids steps = each id_in (ipv4_frames steps)

-- "Drops, handoffs, refusals and ARP replies count for nothing": how many IPv4 frames a call has built, by what was asked and the number of its
-- answer. On 1 it is one, unless the guest's frame is ARP's; on every other number it is none.
abbrev pub asks_by_arp : Asked → Bool
asks_by_arp (handling frame) = eqb (type_of frame) 0x0806
asks_by_arp (making_ip_frame mac source target protocol payload) = false
asks_by_arp (making_ip_frame_in_place mac source target protocol len) = false
asks_by_arp (making_tcp_frame ends seq ack flags body) = false

abbrev pub frames_built : Asked → (number : ℕ) → ℕ
frames_built asked number = cond (eqb number 1 && not (asks_by_arp asked)) 1 0
