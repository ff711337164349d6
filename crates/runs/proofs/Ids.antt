-- Document 02, 8/13, proved: each call builds an IPv4 frame with the record's id and moves the id on, or does neither; the rest is the law of a counter over any run.
use Prim.Native.Nat.{ℕ, ◌+◌, ◌%◌, ◌≤◌, ◌<◌}
use mathlib.Core.Path.{◌≡◌, refl, ap, sym, ◌∙◌}
use mathlib.Core.List.{List, [], ◌∷◌, ◌++◌}
use native.Mathlib.Omega.{arith}
use borrow.Author.Tests.{ne_eqb}
use lib.ListN.{length, get_or}
use Rattle.base.proofs.Counting.{Counted, none, one, Counter, counter_in_16_bits, counter_moved, stretch_counts_on, stretch_leaves, whole_counts_on, counts_anew}
use Rattle.base.proofs.Runs.{as_if_alone}
use Rattle.base.specs.Counting.{CountsOn}
use Rattle.base.specs.Runs.{calls_of, Step, replaced, step_leaves, step_of, Unreplaced, StepKeeps}
use Rattle.record.proofs.Changes.{still_sized}
use Rattle.record.specs.Answer.{paper, Outcome}
use Rattle.record.specs.declared.guest.Guest.{Guest}
use Rattle.wire.specs.Rfc894.{type_of}
use Rattle.runs.proofs.Isolation.{settled}
use Rattle.runs.proofs.Written.{Comes, nothing, ipv4, arp, comes, built_of_it}
use Rattle.runs.specs.Calls.{Asked, promised, Call, Answered, left_by, whose, bytes_built}
use Rattle.runs.specs.Ids.{Typed, Run, record_behind, RunOfMany, ipv4_in, ipv4_built, id_in, ids, StretchOf, frames_built}

-- an IPv4 frame is found by its type, and an ARP reply isn't
found : (built : List ℕ) → type_of built ≡ 0x0800 → ipv4_in built ≡ built ∷ []
found built type = rw type refl

passed_over : (built : List ℕ) → type_of built ≡ 0x0806 → ipv4_in built ≡ []
passed_over built type = rw type refl

module _ (asked : Asked) (id : ℕ) (o : Outcome) where
  -- what is to come of a call, as the counter sees it
  pub counted_once : Comes asked id o → Counted id_in id (ipv4_in o.writing.image) o.guest.id
  counted_once (nothing other empty kept) = none (ap ipv4_in empty) kept
  counted_once (ipv4 e no-arp whole type carried moved) = one o.writing.image (found o.writing.image type) carried moved
  counted_once (arp e yes-arp type kept) = none (passed_over o.writing.image type) kept

  -- how many frames it builds, as its number and what was asked say
  pub as_many : Comes asked id o → length (ipv4_in o.writing.image) ≡ frames_built asked (get_or o.writing.numbers 0 0)
  as_many (nothing other empty kept) =
      ap (λ (l : List ℕ). length (ipv4_in l)) empty ∙ sym (rw (ne_eqb (get_or o.writing.numbers 0 0) 1 other) refl)
  as_many (ipv4 e no-arp whole type carried moved) = ap length (found o.writing.image type) ∙ sym (rw (e, no-arp) refl)
  as_many (arp e yes-arp type kept) = ap length (passed_over o.writing.image type) ∙ sym (rw (e, yes-arp) refl)

  -- such a frame has its whole header, so that its bytes 18 and 19 are there
  pub with_header : Comes asked id o → (k : ℕ) → k < length (ipv4_in o.writing.image) → 34 ≤ length (get_or (ipv4_in o.writing.image) k [])
  with_header (nothing other empty kept) k there = absurd (omega (arith, ap (λ (l : List ℕ). length (ipv4_in l)) empty, there))
  with_header (ipv4 e no-arp whole type carried moved) k there =
      let one-frame = found o.writing.image type in
      let first : k ≡ 0 = omega (arith, ap length one-frame, there) in
      rw (one-frame, first) whole
  with_header (arp e yes-arp type kept) k there = absurd (omega (arith, ap length (passed_over o.writing.image type), there))

module _ (guest : Guest) (call : Call) (typed : Typed guest) (a : Answered guest call) where
  comes_of_it : Comes call.asked guest.id (promised guest call.asked call.before)
  comes_of_it = comes guest call.asked call.before typed.sized a.sized

  image_of_it : bytes_built (paper call.answer.verdict) call.after ≡ (promised guest call.asked call.before).writing.image
  image_of_it = built_of_it call.asked guest.id _ call.before call.after call.answer comes_of_it a.meets

  counts : Counted id_in guest.id (ipv4_built call) (left_by call).id
  counts =
      rw (image_of_it, a.meets.guest) (counted_once call.asked guest.id (promised guest call.asked call.before) comes_of_it)

  -- the record is still one that its type allows
  stays : Typed (left_by call)
  stays = record { sized = still_sized (settled guest call a) typed.sized; in_16_bits = counter_in_16_bits typed.in_16_bits counts }

  -- "Drops, handoffs, refusals and ARP replies count for nothing": as many frames as the answer says, and the id moves on by as much
  pub as_many_as_answered : length (ipv4_built call) ≡ frames_built call.asked (get_or (paper call.answer.verdict) 0 0)
  as_many_as_answered = rw (image_of_it, a.meets.wrote.numbers) (as_many call.asked guest.id (promised guest call.asked call.before) comes_of_it)

  pub moved_on_by_as_many : (left_by call).id ≡ (guest.id + length (ipv4_built call)) % 65536
  moved_on_by_as_many = counter_moved typed.in_16_bits counts

  -- each of them with its whole header
  pub built_with_header : (k : ℕ) → k < length (ipv4_built call) → 34 ≤ length (get_or (ipv4_built call) k [])
  built_with_header = rw image_of_it (with_header call.asked guest.id (promised guest call.asked call.before) comes_of_it)

-- the ids of the frames built, as a counter over runs
abbrev the_ids : Counter Guest Call (List ℕ)
the_ids =
    record {
      Keeps = Answered;
      after = left_by;
      Possible = Typed;
      next = λ (g : Guest). g.id;
      made = ipv4_built;
      mark = id_in;
      in_16_bits = λ g t. t.in_16_bits;
      stays = stays;
      counts = counts;
    }

-- The ids of the frames that a stretch of a run builds count on from the record that the steps before it left,
pub ids_count_on : (guest : Guest) (earlier stretch later : List (Step Guest Call)) → StretchOf guest earlier stretch later → CountsOn (record_behind guest earlier).id (ids stretch)
ids_count_on = stretch_counts_on the_ids

-- and the record behind it has the next one.
pub next_id_left : (guest : Guest) (earlier stretch later : List (Step Guest Call)) → StretchOf guest earlier stretch later
    → (record_behind guest (earlier ++ stretch)).id ≡ ((record_behind guest earlier).id + length (ids stretch)) % 65536
next_id_left = stretch_leaves the_ids

-- "the IPv4 frame number k built from it, counted from 0, carries the starting id plus k, modulo 65,536, and any 65,536 such frames in a row carry different ids"
pub from_the_start : (guest : Guest) (steps : List (Step Guest Call)) → Typed guest → Run guest steps → Unreplaced steps → CountsOn guest.id (ids steps)
from_the_start = whole_counts_on the_ids

-- "so long as the host doesn't put an older or fresh record in its place; from such a moment the count starts anew"
pub anew : (guest other : Guest) (who : ℕ) (earlier stretch later : List (Step Guest Call)) → Typed guest
    → Run guest (earlier ++ replaced who other ∷ stretch ++ later) → Unreplaced stretch → CountsOn other.id (ids stretch)
anew = counts_anew the_ids

-- A host of many guests: the steps on one guest's record are a run of their own, whatever is asked for the others, in whatever order. So all that is said above is said of each guest.
pub alone_in_a_run : (host : ℕ → Guest) (steps : List (Step Guest Call)) (who : ℕ) → RunOfMany host steps → Run (host who) (calls_of (step_of whose) who steps)
alone_in_a_run = as_if_alone (StepKeeps Answered left_by Typed) (step_leaves left_by) (step_of whose)

-- as that its frames count by themselves
pub among_others : (host : ℕ → Guest) (steps : List (Step Guest Call)) (who : ℕ) → Typed (host who) → RunOfMany host steps
    → Unreplaced (calls_of (step_of whose) who steps) → CountsOn (host who).id (ids (calls_of (step_of whose) who steps))
among_others host steps who typed run = from_the_start (host who) (calls_of (step_of whose) who steps) typed (alone_in_a_run host steps who run)
