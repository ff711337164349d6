-- The calls on a guest's record as a host in C makes them, one after the other on the same memory: `yavoledu_send`, which is lent the record, and the exported builders, which are
-- lent its id. Document 02, 8/13, in a C host's own terms.
use Rattle.std.specs.Prelude.{ℕ, ◌≡◌, List, ◌∷◌}
use Rattle.base.specs.Runs.{each, Step, gathered, StepRuns, steps_leave, StepServes, Stretch}
use Rattle.host.specs.Exported.{Sends, MakesIpFrame, MakesTcpFrame}
use Rattle.record.specs.Guest.{with_id}
use Rattle.record.specs.declared.guest.Guest.{Guest}
use Rattle.runs.specs.Calls.{Asked, handling, making_ip_frame, making_ip_frame_in_place, making_tcp_frame, SizedArrays, bytes_built}
use Rattle.runs.specs.Ids.{Typed, ipv4_in, id_in}

-- A call that was made: whose record it was on, what was asked, the buffer before and afterwards, the number and the two values told, and the record that stands in memory
-- afterwards.
pub record CallInC : Type 0 where
  pub who : ℕ
  pub asked : Asked
  pub before : List ℕ
  pub after : List ℕ
  pub number : ℕ
  pub values : List ℕ
  pub stored : Guest

-- What the exported function promises of what was asked, in its contract's own words. A builder is lent the record's id, and the rest of the record stays. None of them builds
-- in place.
abbrev pub PromisedInC : Asked → Guest → CallInC → Type 0
PromisedInC (handling frame) guest call = Sends guest frame call.before call.after call.number call.values call.stored
PromisedInC (making_ip_frame mac source target protocol payload) guest call =
    MakesIpFrame guest.id mac source target protocol payload call.before call.after call.number call.values call.stored.id
    × (call.stored ≡ with_id call.stored.id guest)
PromisedInC (making_tcp_frame ends seq ack flags body) guest call =
    MakesTcpFrame guest.id ends seq ack flags body call.before call.after call.number call.values call.stored.id
    × (call.stored ≡ with_id call.stored.id guest)
PromisedInC (making_ip_frame_in_place mac source target protocol len) guest call = ⊥

-- the call kept it
pub record AnsweredInC (guest : Guest) (call : CallInC) : Type 0 where
  pub sized : SizedArrays call.asked
  pub promised : PromisedInC call.asked guest call

-- the record that it leaves
abbrev pub left_in_c : CallInC → Guest
left_in_c call = call.stored

-- whose it is
abbrev pub whose_in_c : CallInC → ℕ
whose_in_c call = call.who

-- Steps one after the other, from this record: calls, each kept, and records that the host puts in the place of the one that is there.
abbrev pub RunInC : Guest → List (Step Guest CallInC) → Type 0
RunInC = StepRuns AnsweredInC left_in_c Typed

-- the record that they leave
abbrev pub record_behind_in_c : Guest → List (Step Guest CallInC) → Guest
record_behind_in_c = steps_leave AnsweredInC left_in_c Typed

-- on the records of many guests, in any order
abbrev pub RunOfManyInC : (host : ℕ → Guest) → List (Step Guest CallInC) → Type 0
RunOfManyInC = StepServes AnsweredInC left_in_c Typed whose_in_c

-- steps of a run in none of which the host puts another record in place, with those before and behind
abbrev pub StretchInC : Guest → (earlier stretch later : List (Step Guest CallInC)) → Type 0
StretchInC = Stretch AnsweredInC left_in_c Typed

-- the IPv4 frame among them, or none
abbrev pub ipv4_built_in_c : CallInC → List (List ℕ)
ipv4_built_in_c call = ipv4_in (bytes_built (call.number ∷ call.values) call.after)

-- the ids of the IPv4 frames built, in their order: bytes 18 and 19 of each
abbrev pub ids_in_c : List (Step Guest CallInC) → List ℕ
ids_in_c steps = each id_in (gathered ipv4_built_in_c steps)
