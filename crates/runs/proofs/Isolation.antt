-- Isolation of guests, each on its own network: what a guest is answered, and what its record becomes, is what it would be if it were alone. An answer hangs on the record, on what is
-- asked and on the room alone; the rest is the law of every run of calls.
use Prim.Native.Nat.{ℕ}
use mathlib.Core.Path.{◌≡◌, refl, ap, sym, subst, ◌∙◌}
use mathlib.Core.List.{List}
use lib.ListN.{length}
use Rattle.base.proofs.Runs as Runs
use Rattle.base.specs.Runs.{calls_of, each}
use Rattle.frames.specs.Builders.{make_ip_frame_lem}
use Rattle.record.proofs.Changes.{still_sized, spending_settled}
use Rattle.record.proofs.OneAnswer.{paper_one_to_one}
use Rattle.record.specs.Answer.{Outcome}
use Rattle.record.specs.Guest.{Settled, Sized}
use Rattle.record.specs.declared.guest.Guest.{Guest}
use Rattle.rules.proofs.Settled.{outcome_settled}
use Rattle.rules.specs.Rules.{outcome}
use Rattle.tcp.specs.Builders.{make_tcp_frame_lem}
use Rattle.runs.proofs.Written.{comes, built_of_it}
use Rattle.runs.specs.Calls.{Asked, handling, making_ip_frame, making_ip_frame_in_place, making_tcp_frame, promised, Call, Answered, left_by, whose, Served, records_after, ServedAlone, record_after, read_by, Question, question, got}

-- whatever is asked, MAC and network are as they were
promised_settled : (guest : Guest) (asked : Asked) (before : List ℕ) → Settled guest (promised guest asked before).guest
promised_settled guest (handling frame) before = outcome_settled guest frame (length before)
promised_settled guest (making_ip_frame mac source target protocol payload) before = spending_settled guest _ _ _ _ _
promised_settled guest (making_ip_frame_in_place mac source target protocol len) before = spending_settled guest _ _ _ _ _
promised_settled guest (making_tcp_frame ends seq ack flags body) before = spending_settled guest _ _ _ _ _

pub settled : (guest : Guest) (call : Call) → Answered guest call → Settled guest (left_by call)
settled guest call a = subst (Settled guest) (sym a.meets.guest) (promised_settled guest call.asked call.before)

-- what is to come hangs on the question alone, whatever else the buffer holds
hangs_on : (guest : Guest) (asked : Asked) (before before' : List ℕ) → length before ≡ length before' → read_by asked before ≡ read_by asked before'
    → promised guest asked before ≡ promised guest asked before'
hangs_on guest (handling frame) before before' room read = ap (outcome guest frame) room
hangs_on guest (making_ip_frame mac source target protocol payload) before before' room read = ap (make_ip_frame_lem guest mac source target protocol payload) room
hangs_on guest (making_ip_frame_in_place mac source target protocol len) before before' room read = rw (room, read)
hangs_on guest (making_tcp_frame ends seq ack flags body) before before' room read = ap (make_tcp_frame_lem guest ends seq ack flags body) room

-- Two answers from the same record to the same question are the same, and so are the bytes that were built, whatever the buffers held; and the record that they leave has
-- arrays of the lengths that it had.
once : (guest : Guest) (c o : Call) → Sized guest → Answered guest c → Answered guest o → question c ≡ question o
    → (got c ≡ got o) × (left_by c ≡ left_by o) × Sized (left_by c)
once guest c o sized s t e =
    let same : promised guest c.asked c.before ≡ promised guest o.asked o.before =
    hangs_on guest c.asked c.before o.before (ap (λ (q : Question). q.room) e)
    (ap (λ (q : Question). q.read) e ∙ ap (λ (a : Asked). read_by a o.before) (sym (ap (λ (q : Question). q.asked) e)))
    ∙ ap (λ (a : Asked). promised guest a o.before) (ap (λ (q : Question). q.asked) e) in
    let v = paper_one_to_one c.answer.verdict o.answer.verdict (s.meets.wrote.numbers ∙ ap (λ (x : Outcome). x.writing.numbers) same ∙ sym t.meets.wrote.numbers) in
    let g = s.meets.guest ∙ ap (λ (x : Outcome). x.guest) same ∙ sym t.meets.guest in
    let built =
    built_of_it c.asked guest.id _ c.before c.after c.answer (comes guest c.asked c.before sized s.sized) s.meets
    ∙ ap (λ (x : Outcome). x.writing.image) same
    ∙ sym (built_of_it o.asked guest.id _ o.before o.after o.answer (comes guest o.asked o.before sized t.sized) t.meets) in (
      λ i. record { answer = record { verdict = v i; guest = g i }; built = built i },
      g,
      still_sized (settled guest c s) sized,
    )

-- whatever the order of the calls and whatever the others ask, a guest is served as if it were alone
pub as_if_alone : (host : ℕ → Guest) (calls : List Call) (who : ℕ) → Served host calls → ServedAlone (host who) (calls_of whose who calls)
as_if_alone = Runs.as_if_alone Answered left_by whose

-- a guest alone gets one answer to each call
pub alone_answers_once : (guest : Guest) (calls others : List Call) → Sized guest
    → ServedAlone guest calls → ServedAlone guest others → each question calls ≡ each question others
    → (each got calls ≡ each got others) × (record_after guest calls ≡ record_after guest others)
alone_answers_once = Runs.alone_answers_once Answered left_by question got Sized once

-- So two hosts that keep the same record for a guest and are asked the same for it, with as much room, give it the same answers and the same bytes and leave it the same
-- record, whatever the other guests are and ask, in whatever order, and whatever the buffers held before.
pub others_do_not_matter : (host host₂ : ℕ → Guest) (calls calls₂ : List Call) (who : ℕ) → Sized (host who) → host who ≡ host₂ who
    → Served host calls → Served host₂ calls₂ → each question (calls_of whose who calls) ≡ each question (calls_of whose who calls₂)
    → (each got (calls_of whose who calls) ≡ each got (calls_of whose who calls₂)) × (records_after host calls who ≡ records_after host₂ calls₂ who)
others_do_not_matter = Runs.others_do_not_matter Answered left_by question got Sized once whose

-- A guest's network is the same behind any calls of any guests.
pub network_stays : (host : ℕ → Guest) (calls : List Call) (who : ℕ) → Served host calls → (records_after host calls who).network ≡ (host who).network
network_stays host calls who served =
    Runs.holds_throughout Answered left_by (λ (g : Guest). g.network ≡ (host who).network) (λ g c h a. (settled g c a).network_kept ∙ h) whose host calls who refl served
