-- The order theorem: a train's fragments arrive complete in every order. By induction over the fragments to come, call by call.
use Prim.Native.Nat.{ℕ, ◌/◌, ◌≤◌}
use mathlib.Core.Path.{◌≡◌, refl, ap, sym, subst, ◌∙◌}
use mathlib.Core.Logic.{inl, inr}
use mathlib.Core.List.{List, [], ◌∷◌}
use native.Mathlib.Omega.{arith}
use borrow.Author.Tests.{le-leb}
use lib.ListN.{length, get_or, take, drop}
use lib.Seq.{get_or-take, length-take-le}
use Rattle.bitmap.specs.Bitmap.{bit}
use Rattle.fragments.specs.Handing.{stored_length_lem, stored_payload}
use Rattle.fragments.specs.Promises.{Takes}
use Rattle.fragment_rules.specs.Rules.{is_held, known_end_lem}
use Rattle.fragment_packets.specs.declared.packet.Datagram.{Datagram}
use Rattle.fragment_rules.specs.declared.answer.State.TheVariants.{Complete}
use Rattle.fragment_packets.proofs.Fitting.{part_fits}
use Rattle.fragment_laws.specs.Calls.{Store, Vacant, taking, Call, after, Runs, leaves, asks}
use Rattle.fragment_laws.specs.Trains.{Permuted, All, piece, Fit, Covers, byte_for, Apart, Train, takings, StoredThenComplete, Among, none, its_own, passing, Arrived, EveryOrder}
use Rattle.fragment_laws.proofs.Leaving.{takes, passes_by}
use Rattle.fragment_laws.proofs.Permuting.{permuted_back, all_permuted, some_permuted, each_two_permuted, lasts_permuted, all_both, all_some}
use Rattle.fragment_laws.proofs.Coming.{Awaited, LastAt, Coming, left_so, byte_kept, block_kept, block_come, complete_now, stored_now}

-- what the calls leave that take all fragments to come: the state, and each byte that was there or has come
record AllTaken (d : Datagram) (end : ℕ) (store : Store) (todo : List (List ℕ)) (calls : List Call) : Type 0 where
  held : (leaves store calls).state ≡ Complete d end
  lent : length (leaves store calls).bytes ≡ 65515
  kept : (place : ℕ) → bit store.bits (place / 8) ≡ 1 → get_or (leaves store calls).bytes place 0 ≡ get_or store.bytes place 0
  come : All (λ (frame : List ℕ). (place : ℕ) → Covers place frame → get_or (leaves store calls).bytes place 0 ≡ byte_for place frame) todo

module _ (d : Datagram) (end : ℕ) where
  -- one call and then the others
  and_then : (store : Store) (frame : List ℕ) (todo : List (List ℕ)) (c : Coming d end store (frame ∷ todo)) (call : Call)
      → Takes store.state frame store.bytes store.bits call.bytes call.bits call.taken
      → (calls : List Call) → AllTaken d end (after call) todo calls → AllTaken d end store (frame ∷ todo) (call ∷ calls)
  and_then store frame todo c call t calls rest = record {
    held = rest.held;
    lent = rest.lent;
    kept = λ place there. rest.kept place (block_kept d end store frame todo c call t (place / 8) there) ∙ byte_kept d end store frame todo c call t place there;
    come = (λ place h. rest.kept place (block_come d end store frame todo c call t place h) ∙ (left_so d end store frame todo c call t).covered place h, rest.come);
  }

  -- all calls, one after the other
  all_taken : (frame : List ℕ) (todo : List (List ℕ)) (store : Store) (calls : List Call) → Coming d end store (frame ∷ todo) → Runs store calls
      → asks calls ≡ taking frame ∷ takings todo → StoredThenComplete calls × AllTaken d end store (frame ∷ todo) calls
  all_taken frame [] store [] c r e = absurd (omega (arith, ap length e))
  all_taken frame [] store (call ∷ []) c r e =
      let t = takes store frame call (cc) r.0 in
      let now = complete_now d end store frame [] c call t refl (λ place none. none) in
      let done : AllTaken d end (after call) [] [] = record { held = now.1; lent = (left_so d end store frame [] c call t).still_sized.bytes_lent; kept = λ place there. refl; come = tt } in
      (now.0, and_then store frame [] c call t [] done)
  all_taken frame [] store (call ∷ next ∷ calls) c r e = absurd (omega (arith, ap length e))
  all_taken frame (g ∷ todo) store [] c r e = absurd (omega (arith, ap length e))
  all_taken frame (g ∷ todo) store (call ∷ []) c r e = absurd (omega (arith, ap length e))
  all_taken frame (g ∷ todo) store (call ∷ next ∷ calls) c r e =
      let t = takes store frame call (cc) r.0 in
      let now = stored_now d end store frame (g ∷ todo) c call t g c.awaited.1.0 c.apart.0.0 in
      let rest = all_taken g todo (after call) (next ∷ calls) now.1 r.1 (ap (drop 1) e) in
      ((now.0, rest.0), and_then store frame (g ∷ todo) c call t (next ∷ calls) rest.1)

-- fragments lie apart either way round
apart_back : (f g : List ℕ) → Apart f g → Apart g f
apart_back f g (inl h) = inr h
apart_back f g (inr h) = inl h

module _ (d : Datagram) (end : ℕ) (frames order : List (List ℕ)) (store : Store) (train : Train d end frames) (p : Permuted frames order) where
  -- before the first call
  at_first : Vacant store → Coming d end store order
  unfolding is_held known_end_lem
  at_first v = record {
    sized = v.sized;
    free = rw v.holds_nothing;
    known = rw v.holds_nothing (sym (lasts_permuted p) ∙ train.one_last, some_permuted (LastAt end) p train.which_ends);
    awaited = all_permuted (Awaited d end store.bits) p awaited;
    apart = each_two_permuted Apart apart_back p train.do_not_overlap;
    before_end = λ b there. absurd (omega (arith, v.no_block b));
    covered = λ place h. inr (some_permuted (Covers place) p (train.cover_from_0 place h));
  }
    where
      fit_and_named : All (λ (frame : List ℕ). Fit frame × ((piece frame).datagram ≡ d)) frames
      fit_and_named = all_both Fit _ _ (λ frame fit name. (fit, name)) frames train.none_gets_10 train.of_one_datagram

      awaited : All (Awaited d end store.bits) frames
      awaited = all_both _ _ _ (λ frame w within. record { fit = w.0; name = w.1; within = within; absent = λ b l u. v.no_block b }) frames fit_and_named train.furthest

  -- the store is long enough for it
  end_fits : end ≤ 65515
  end_fits = all_some Fit (LastAt end) (λ frame fit last. omega (arith, (part_fits frame (piece frame) fit).short, last.1)) frames train.none_gets_10 train.which_ends

  -- after the last call
  at_last : (calls : List Call) → StoredThenComplete calls → AllTaken d end store order calls → Arrived d end frames calls (leaves store calls)
  unfolding stored_length_lem stored_payload
  at_last calls answers t = record {
    answers = answers;
    held = t.held;
    as_long = ap length payload ∙ length-take-le end _ (omega (arith, t.lent, end_fits));
    each_byte = λ place.
        all_both _ _ _
        (λ frame come within h.
        ap (λ (l : List ℕ). get_or l place 0) payload
        ∙ get_or-take end _ place 0 (omega arith)
        ∙ come place h)
        frames
        (all_permuted _ (permuted_back p) t.come)
        train.furthest;
  }
    where
      payload : stored_payload (leaves store calls).bytes (leaves store calls).state ≡ take end (leaves store calls).bytes
      payload = rw (t.held, le-leb end (length (leaves store calls).bytes) (omega (arith, t.lent, end_fits)))

-- with nothing between
alone : (d : Datagram) (end : ℕ) (frames order : List (List ℕ)) (store : Store) (calls : List Call) → Train d end frames → Permuted frames order → Vacant store
    → Runs store calls → asks calls ≡ takings order → Arrived d end frames calls (leaves store calls)
alone d end frames order store calls train p v r e = go order p e
  where
    go : (order : List (List ℕ)) → Permuted frames order → asks calls ≡ takings order → Arrived d end frames calls (leaves store calls)
    go [] p e = absurd (omega (arith, train.one_last, lasts_permuted p))
    go (frame ∷ todo) p e =
        let all = all_taken d end frame todo store calls (at_first d end frames (frame ∷ todo) store train p v) r e in
        at_last d end frames (frame ∷ todo) store train p calls all.0 all.1

-- calls that pass by can be left out
left_out : {its calls : List Call} → Among its calls → (store : Store) → Runs store calls → Runs store its × (leaves store its ≡ leaves store calls)
left_out none store r = (tt, refl)
left_out (its_own {call} a) store r = let rest = left_out a (after call) r.1 in ((r.0, rest.0), rest.1)
left_out (passing {call} {its} {calls} frame asked by a) store r =
    let same = passes_by store frame call asked r.0 by in
    let rest = left_out a store (subst (λ (s : Store). Runs s calls) same r.1) in
    (rest.0, rest.1 ∙ ap (λ (s : Store). leaves s calls) (sym same))

-- every order ends complete, with each byte in its place
pub every_order : EveryOrder
every_order d end frames order store its calls train p v r a e =
    let out = left_out a store r in
    subst (Arrived d end frames its) out.1 (alone d end frames order store its train p v out.0 e)

-- with nothing between, all calls are its own
pub all_its_own : (calls : List Call) → Among calls calls
all_its_own [] = none
all_its_own (call ∷ calls) = its_own (all_its_own calls)
