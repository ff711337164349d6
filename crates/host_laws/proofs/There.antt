-- For every record, every buffer and whatever is asked there is a call of the exported function that is answered as promised: a C host's runs are not empty.
use Prim.Native.Nat.{ℕ}
use mathlib.Core.Path.{◌≡◌, refl, sym}
use mathlib.Core.List.{List, [], ◌∷◌, ◌++◌}
use lib.Dec.{ltb}
use lib.ListN.{length, drop, get_or}
use Rattle.base.proofs.Choice.{by_test}
use Rattle.frames.specs.Frames.{ip_frame}
use Rattle.host.specs.Exported.{Built}
use Rattle.record.specs.Answer.{Outcome, spending}
use Rattle.record.specs.Guest.{with_id}
use Rattle.record.specs.declared.guest.Guest.{Guest}
use Rattle.runs.specs.Calls.{Asked, handling, making_ip_frame, making_tcp_frame, promised, SizedEnds}
use Rattle.tcp.specs.Rfc9293.{tcp_frame}
use Rattle.tcp.specs.declared.Endpoints.{Endpoints}
use Rattle.verdict_numbers.specs.Numbers.{padded}
use Rattle.host_laws.specs.OnRecord.{CallInC, AnsweredInC}

-- what is told is a number and what lies behind it
split : (l : List ℕ) → get_or (padded l) 0 0 ∷ drop 1 (padded l) ≡ padded l
unfolding padded
split [] = refl
split (n ∷ l) = refl

-- a call that is answered by the outcome
abbrev telling : Asked → (before : List ℕ) → Outcome → CallInC
telling asked before o =
    record {
      who = 0;
      asked = asked;
      before = before;
      after = o.writing.image ++ drop (length o.writing.image) before;
      number = get_or (padded o.writing.numbers) 0 0;
      values = drop 1 (padded o.writing.numbers);
      stored = o.guest;
    }

pub send_there : (guest : Guest) (frame before : List ℕ) → AnsweredInC guest (telling (handling frame) before (promised guest (handling frame) before))
send_there guest frame before = record { sized = tt; promised = record { told = record { numbers = split _; bytes = refl }; guest = refl } }

-- a builder leaves all of the record but the id
stays_but_for_id : (guest : Guest) (limit len need room : ℕ) (image : List ℕ) → (spending guest limit len need room image).guest ≡ with_id (spending guest limit len need room image).guest.id guest
unfolding spending
stays_but_for_id guest limit len need room image = by_test (ltb limit len) (λ e. rw e refl) (λ e. by_test (ltb room need) (λ f. rw (e, f) refl) (λ f. rw (e, f) refl))

-- a call that spends an id, whatever else the record is
built_there : (guest : Guest) (limit len need room : ℕ) (image : ℕ → List ℕ) (before : List ℕ)
    → Built guest.id (λ (g : Guest). spending g limit len need room (image g.id)) before
    ((spending guest limit len need room (image guest.id)).writing.image ++ drop (length (spending guest limit len need room (image guest.id)).writing.image) before)
    (get_or (padded (spending guest limit len need room (image guest.id)).writing.numbers) 0 0)
    (drop 1 (padded (spending guest limit len need room (image guest.id)).writing.numbers))
    (spending guest limit len need room (image guest.id)).guest.id
unfolding spending
built_there guest limit len need room image before =
    record {
      told = λ g e. rw e (record { numbers = split _; bytes = refl });
      id = λ g e. by_test (ltb limit len) (λ t. rw t (sym e)) (λ t. by_test (ltb room need) (λ u. rw (t, u) (sym e)) (λ u. rw (t, u, e) refl));
    }

pub make_ip_frame_there : (guest : Guest) (mac source target : List ℕ) (protocol : ℕ) (payload before : List ℕ) → SizedEnds mac source target
    → AnsweredInC guest (telling (making_ip_frame mac source target protocol payload) before (promised guest (making_ip_frame mac source target protocol payload) before))
make_ip_frame_there guest mac source target protocol payload before sizes =
    record { sized = sizes; promised = (built_there guest _ _ _ _ (λ (i : ℕ). ip_frame mac i protocol source target payload) before, stays_but_for_id guest _ _ _ _ _) }

pub make_tcp_frame_there : (guest : Guest) (ends : Endpoints) (seq ack flags : ℕ) (body before : List ℕ) → SizedEnds ends.dst_mac ends.src_ip ends.dst_ip
    → AnsweredInC guest (telling (making_tcp_frame ends seq ack flags body) before (promised guest (making_tcp_frame ends seq ack flags body) before))
make_tcp_frame_there guest ends seq ack flags body before sizes =
    record { sized = sizes; promised = (built_there guest _ _ _ _ (λ (i : ℕ). tcp_frame i ends seq ack flags body) before, stays_but_for_id guest _ _ _ _ _) }
