-- What is to come of each call that builds, from its arguments and the room: document 01, "Frames built", with the rule of 5 and 6.
use Rattle.std.specs.Prelude.{ℕ, ◌+◌, List, length}
use Rattle.record.specs.Answer.{Outcome, Writing, building, spending}
use Rattle.base.specs.Bytes.{part}
use Rattle.frames.specs.Frames.{ip_frame}
use Rattle.record.specs.declared.guest.Guest.{Guest}

-- IPv4: "Payload over 65,515: 6"
abbrev pub make_ip_frame_lem : Guest → (mac source target : List ℕ) (protocol : ℕ) (payload : List ℕ) (room : ℕ) → Outcome
make_ip_frame_lem guest mac source target protocol payload room =
    spending guest 65515 (length payload) (34 + length payload) room (ip_frame mac guest.id protocol source target payload)

-- the same around the `len` bytes that lie at 34 of the buffer
abbrev pub make_ip_frame_in_place_lem : Guest → (mac source target : List ℕ) (protocol len : ℕ) (buffer : List ℕ) → Outcome
make_ip_frame_in_place_lem guest mac source target protocol len buffer =
    spending guest 65515 len (34 + len) (length buffer) (ip_frame mac guest.id protocol source target (part buffer 34 len))

-- the same with no record to hand back
abbrev pub built_in_place : (id : ℕ) (mac source target : List ℕ) (protocol len : ℕ) (buffer : List ℕ) → Writing
built_in_place id mac source target protocol len buffer =
    building 65515 len (34 + len) (length buffer) (ip_frame mac id protocol source target (part buffer 34 len))
