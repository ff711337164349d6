-- A host's calls on the records of its guests: "The host keeps one record for each guest and every call updates it." Guests are told apart by a number.
use Rattle.std.specs.Prelude.{ℕ, ◌≡◌, List, [], cond, eqb, length, take, get_or}
use Rattle.base.specs.Bytes.{part}
use Rattle.base.specs.Runs.{Runs, leaves, Serves, leaves_all}
use Rattle.frames.specs.Builders.{make_ip_frame_lem, make_ip_frame_in_place_lem}
use Rattle.record.specs.Answer.{paper, Outcome, Meets}
use Rattle.record.specs.declared.answer.Answer.{Answer}
use Rattle.record.specs.declared.guest.Guest.{Guest}
use Rattle.rules.specs.Rules.{outcome}
use Rattle.tcp.specs.Builders.{make_tcp_frame_lem}
use Rattle.tcp.specs.declared.Endpoints.{Endpoints}

-- What is asked of a guest's record: that a frame of the guest be handled, or that a frame be built, by one of the three that build one.
pub data Asked : Type 0 where
  handling : (frame : List ℕ) → Asked
  making_ip_frame : (mac source target : List ℕ) (protocol : ℕ) (payload : List ℕ) → Asked
  making_ip_frame_in_place : (mac source target : List ℕ) (protocol len : ℕ) → Asked
  making_tcp_frame : (ends : Endpoints) (seq ack flags : ℕ) (body : List ℕ) → Asked

-- what is to come of it, in a buffer that holds `before`
abbrev pub promised : Guest → Asked → (before : List ℕ) → Outcome
promised guest (handling frame) before = outcome guest frame (length before)
promised guest (making_ip_frame mac source target protocol payload) before = make_ip_frame_lem guest mac source target protocol payload (length before)
promised guest (making_ip_frame_in_place mac source target protocol len) before = make_ip_frame_in_place_lem guest mac source target protocol len before
promised guest (making_tcp_frame ends seq ack flags body) before = make_tcp_frame_lem guest ends seq ack flags body (length before)

-- the lengths that a MAC and two addresses have by their types
pub record SizedEnds (mac source target : List ℕ) : Type 0 where
  pub six : length mac ≡ 6
  pub four : length source ≡ 4
  pub four_too : length target ≡ 4

-- the same of the arrays that are handed in
abbrev pub SizedArrays : Asked → Type 0
SizedArrays (handling frame) = Unit
SizedArrays (making_ip_frame mac source target protocol payload) = SizedEnds mac source target
SizedArrays (making_ip_frame_in_place mac source target protocol len) = SizedEnds mac source target
SizedArrays (making_tcp_frame ends seq ack flags body) = SizedEnds ends.dst_mac ends.src_ip ends.dst_ip

-- A call: whose it is, what is asked, the buffer that is lent, whatever it holds, and the answer with the buffer afterwards.
pub record Call : Type 0 where
  pub who : ℕ
  pub asked : Asked
  pub before : List ℕ
  pub answer : Answer
  pub after : List ℕ

-- The call was answered as the contract of the function says, from this record. (For every record, question and buffer there is such an
-- answer: the function's.)
pub record Answered (guest : Guest) (call : Call) : Type 0 where
  pub sized : SizedArrays call.asked
  pub meets : Meets (promised guest call.asked call.before) call.before call.after call.answer

-- the record that it leaves
abbrev pub left_by : Call → Guest
left_by call = call.answer.guest

-- whose it is
abbrev pub whose : Call → ℕ
whose call = call.who

-- Calls one after the other, of any guests in any order: each is answered from its guest's record, and the record answered is kept. Each
-- record has its own network: two guests' may differ, and may be the very same.
abbrev pub Served : (host : ℕ → Guest) → List Call → Type 0
Served host calls = Serves Answered left_by whose host calls

-- the records that they leave
abbrev pub records_after : (host : ℕ → Guest) → List Call → (ℕ → Guest)
records_after host calls = leaves_all Answered left_by whose host calls

-- the same where there is one guest alone
abbrev pub ServedAlone : Guest → List Call → Type 0
ServedAlone guest calls = Runs Answered left_by guest calls

abbrev pub record_after : Guest → List Call → Guest
record_after guest calls = leaves Answered left_by guest calls

-- the bytes that a call reads of the buffer: those that it frames in place
abbrev pub read_by : Asked → (before : List ℕ) → List ℕ
read_by (making_ip_frame_in_place mac source target protocol len) before = part before 34 len
read_by (handling frame) before = []
read_by (making_ip_frame mac source target protocol payload) before = []
read_by (making_tcp_frame ends seq ack flags body) before = []

-- what is handed in for a guest: what is asked, the room that the host gives it, and what is to be framed in place
pub record Question : Type 0 where
  pub asked : Asked
  pub room : ℕ
  pub read : List ℕ

abbrev pub question : Call → Question
question call = record { asked = call.asked; room = length call.before; read = read_by call.asked call.before }

-- the bytes that were built: where the first number told is 1, as many of the buffer's first bytes as the second says
abbrev pub bytes_built : (numbers buffer : List ℕ) → List ℕ
bytes_built numbers buffer = cond (eqb (get_or numbers 0 0) 1) (take (get_or numbers 1 0) buffer) []

-- what it gets: the answer, and the bytes of what was built
pub record Got : Type 0 where
  pub answer : Answer
  pub built : List ℕ

abbrev pub got : Call → Got
got call = record { answer = call.answer; built = bytes_built (paper call.answer.verdict) call.after }
