-- Document 02, 8/13, for what a host in C links: what an exported call tells of a frame that it built is what the core's promise has of it, so the same law of a counter holds.
use Prim.Native.Nat.{ℕ, ◌+◌, ◌%◌, ◌≤◌, ◌<◌}
use mathlib.Core.Path.{◌≡◌, refl, ap, sym, subst, ◌∙◌}
use mathlib.Core.List.{List, [], ◌∷◌, ◌++◌}
use native.Mathlib.Omega.{arith}
use lib.ListN.{length, get_or}
use Rattle.base.proofs.Counting.{Counted, Counter, counter_in_16_bits, counter_moved, stretch_counts_on, stretch_leaves, whole_counts_on, counts_anew}
use Rattle.base.proofs.Runs.{as_if_alone}
use Rattle.base.specs.Counting.{CountsOn}
use Rattle.base.specs.Runs.{calls_of, Step, replaced, step_leaves, step_of, Unreplaced, StepKeeps}
use Rattle.host.proofs.OneAnswer.{yavoledu_send_settled}
use Rattle.host.proofs.Telling.{told_number, told_value}
use Rattle.host.specs.Exported.{Told}
use Rattle.making.specs.Over.{MadeOver, made, refused}
use Rattle.std.proofs.Common.{Option}
use Rattle.record.proofs.Changes.{still_sized}
use Rattle.record.specs.Answer.{Outcome}
use Rattle.record.specs.Guest.{Settled}
use Rattle.record.specs.declared.guest.Guest.{Guest}
use Rattle.runs.proofs.Ids.{counted_once, as_many, with_header}
use Rattle.runs.proofs.Written.{Comes, comes, built_as_promised}
use Rattle.runs.specs.Calls.{Asked, handling, making_ip_frame, making_ip_frame_in_place, making_tcp_frame, promised, bytes_built}
use Rattle.runs.specs.Ids.{Typed, id_in, frames_built}
use Rattle.host_laws.specs.OnRecord.{CallInC, PromisedInC, AnsweredInC, left_in_c, whose_in_c, RunInC, record_behind_in_c, RunOfManyInC, StretchInC, ipv4_built_in_c, ids_in_c}

-- what it tells of the buffer is what is to come
told_it : (asked : Asked) (guest : Guest) (call : CallInC) → PromisedInC asked guest call → Told (promised guest asked call.before).writing call.before call.after call.number call.values
told_it (handling frame) guest call p = p.told
told_it (making_ip_frame mac source target protocol payload) guest call p = p.0.told guest refl
told_it (making_tcp_frame ends seq ack flags body) guest call p = p.0.told guest refl
told_it (making_ip_frame_in_place mac source target protocol len) guest call p = absurd p

-- so is the id that it leaves
id_left : (asked : Asked) (guest : Guest) (call : CallInC) → PromisedInC asked guest call → call.stored.id ≡ (promised guest asked call.before).guest.id
id_left (handling frame) guest call p = ap (λ (g : Guest). g.id) p.guest
id_left (making_ip_frame mac source target protocol payload) guest call p = p.0.id guest refl
id_left (making_tcp_frame ends seq ack flags body) guest call p = p.0.id guest refl
id_left (making_ip_frame_in_place mac source target protocol len) guest call p = absurd p

-- MAC and network stay
settled : (asked : Asked) (guest : Guest) (call : CallInC) → PromisedInC asked guest call → Settled guest call.stored
settled (handling frame) guest call p = yavoledu_send_settled guest frame call.before call.after call.number call.values call.stored p
settled (making_ip_frame mac source target protocol payload) guest call p = subst (Settled guest) (sym p.1) (record { mac_kept = refl; network_kept = refl })
settled (making_tcp_frame ends seq ack flags body) guest call p = subst (Settled guest) (sym p.1) (record { mac_kept = refl; network_kept = refl })
settled (making_ip_frame_in_place mac source target protocol len) guest call p = absurd p

-- the number told is the first that is to come
number_is : (o : Outcome) (call : CallInC) → Told o.writing call.before call.after call.number call.values → call.number ≡ get_or o.writing.numbers 0 0
number_is o call t = ap (λ (l : List ℕ). get_or l 0 0) t.numbers ∙ told_number o.writing.numbers

module _ (guest : Guest) (call : CallInC) (typed : Typed guest) (k : AnsweredInC guest call) where
  abbrev to_come : Outcome
  to_come = promised guest call.asked call.before

  comes_of_it : Comes call.asked guest.id to_come
  comes_of_it = comes guest call.asked call.before typed.sized k.sized

  told_of_it : Told to_come.writing call.before call.after call.number call.values
  told_of_it = told_it call.asked guest call k.promised

  built_of_it : bytes_built (call.number ∷ call.values) call.after ≡ to_come.writing.image
  built_of_it =
      built_as_promised call.asked guest.id to_come (call.number ∷ call.values) call.before call.after comes_of_it (number_is to_come call told_of_it)
      (ap (λ (l : List ℕ). get_or l 1 0) told_of_it.numbers ∙ told_value to_come.writing.numbers) told_of_it.bytes

  counts : Counted id_in guest.id (ipv4_built_in_c call) (left_in_c call).id
  counts = rw (built_of_it, id_left call.asked guest call k.promised) (counted_once call.asked guest.id to_come comes_of_it)

  stays : Typed (left_in_c call)
  stays = record { sized = still_sized (settled call.asked guest call k.promised) typed.sized; in_16_bits = counter_in_16_bits typed.in_16_bits counts }

  -- "Drops, handoffs, refusals and ARP replies count for nothing": as many frames as the number told says
  pub as_many_as_told : length (ipv4_built_in_c call) ≡ frames_built call.asked call.number
  as_many_as_told = rw (built_of_it, number_is to_come call told_of_it) (as_many call.asked guest.id to_come comes_of_it)

  pub moved_on_by_as_many : (left_in_c call).id ≡ (guest.id + length (ipv4_built_in_c call)) % 65536
  moved_on_by_as_many = counter_moved typed.in_16_bits counts

  -- each of them with its whole header
  pub built_with_header : (n : ℕ) → n < length (ipv4_built_in_c call) → 34 ≤ length (get_or (ipv4_built_in_c call) n [])
  built_with_header = rw built_of_it (with_header call.asked guest.id to_come comes_of_it)

-- the ids of the frames built, as a counter over runs
abbrev the_ids : Counter Guest CallInC (List ℕ)
the_ids =
    record {
      Keeps = AnsweredInC;
      after = left_in_c;
      Possible = Typed;
      next = λ (g : Guest). g.id;
      made = ipv4_built_in_c;
      mark = id_in;
      in_16_bits = λ g t. t.in_16_bits;
      stays = stays;
      counts = counts;
    }

-- The ids of the frames that a stretch of a run builds count on from the record that the steps before it left in memory,
pub ids_count_on : (guest : Guest) (earlier stretch later : List (Step Guest CallInC)) → StretchInC guest earlier stretch later → CountsOn (record_behind_in_c guest earlier).id (ids_in_c stretch)
ids_count_on = stretch_counts_on the_ids

-- and the record behind it has the next one.
pub next_id_left : (guest : Guest) (earlier stretch later : List (Step Guest CallInC)) → StretchInC guest earlier stretch later
    → (record_behind_in_c guest (earlier ++ stretch)).id ≡ ((record_behind_in_c guest earlier).id + length (ids_in_c stretch)) % 65536
next_id_left = stretch_leaves the_ids

-- "the IPv4 frame number k built from it, counted from 0, carries the starting id plus k, modulo 65,536, and any 65,536 such frames in a row carry different ids"
pub from_the_start : (guest : Guest) (steps : List (Step Guest CallInC)) → Typed guest → RunInC guest steps → Unreplaced steps → CountsOn guest.id (ids_in_c steps)
from_the_start = whole_counts_on the_ids

-- "so long as the host doesn't put an older or fresh record in its place; from such a moment the count starts anew"
pub anew : (guest other : Guest) (who : ℕ) (earlier stretch later : List (Step Guest CallInC)) → Typed guest
    → RunInC guest (earlier ++ replaced who other ∷ stretch ++ later) → Unreplaced stretch → CountsOn other.id (ids_in_c stretch)
anew = counts_anew the_ids

-- A host of many guests: the steps on one guest's record are a run of their own, whatever is asked for the others, in whatever order. So all that is said above is said of each guest.
pub alone_in_a_run : (host : ℕ → Guest) (steps : List (Step Guest CallInC)) (who : ℕ) → RunOfManyInC host steps → RunInC (host who) (calls_of (step_of whose_in_c) who steps)
alone_in_a_run = as_if_alone (StepKeeps AnsweredInC left_in_c Typed) (step_leaves left_in_c) (step_of whose_in_c)

-- as that its frames count by themselves
pub among_others : (host : ℕ → Guest) (steps : List (Step Guest CallInC)) (who : ℕ) → Typed (host who) → RunOfManyInC host steps
    → Unreplaced (calls_of (step_of whose_in_c) who steps) → CountsOn (host who).id (ids_in_c (calls_of (step_of whose_in_c) who steps))
among_others host steps who typed run = from_the_start (host who) (calls_of (step_of whose_in_c) who steps) typed (alone_in_a_run host steps who run)

-- A record that `yavoledu_make_guest` makes is such a fresh one: where it tells 24, the frames built from then on count from 1; where it tells 9, the record is the one that stood
-- there, and its count goes on.
module _ (old : Guest) (mac gateway address mask : List ℕ) (lease : Option ℕ) (number : ℕ) (stored : Guest) (m : MadeOver old mac gateway address mask lease number stored) where
  pub made_counts_from_1 : number ≡ 24 → Typed stored → (steps : List (Step Guest CallInC)) → RunInC stored steps → Unreplaced steps → CountsOn 1 (ids_in_c steps)
  made_counts_from_1 e typed steps run unreplaced = go m
    where
      go : MadeOver old mac gateway address mask lease number stored → CountsOn 1 (ids_in_c steps)
      go (made good told is) = subst (λ (g : Guest). CountsOn g.id (ids_in_c steps)) is (from_the_start stored steps typed run unreplaced)
      go (refused bad told is) = absurd (omega (arith, e, told))

  pub refused_is_as_before : number ≡ 9 → stored ≡ old
  refused_is_as_before e = go m
    where
      go : MadeOver old mac gateway address mask lease number stored → stored ≡ old
      go (made good told is) = absurd (omega (arith, e, told))
      go (refused bad told is) = is
