-- Nothing stale: each byte of a payload that is complete since the store was empty was brought by a fit fragment of that datagram. Call by call the store means what it says.
use Prim.Native.Nat.{ℕ, ◌*◌, ◌/◌, ◌≤◌, ◌<◌}
use mathlib.Core.Path.{◌≡◌, refl, ap, sym, subst, ◌∙◌}
use mathlib.Core.Bool.{Bool, true, false, cond}
use mathlib.Core.Logic.{inl, inr}
use mathlib.Core.List.{List, [], ◌∷◌}
use native.Mathlib.Omega.{arith}
use borrow.Author.Tests.{not-false, eqb-true}
use lib.Dec.{eqb}
use lib.ListN.{length, drop}
use Rattle.std.specs.Prelude.{Option, Result, Ok, Err}
use Rattle.std.proofs.lemmas.Grind.{common_steps}
use Rattle.bitmap.specs.Bitmap.{bit, count, having, blocks_of_lem}
use Rattle.wire.specs.Rfc894.{body}
use Rattle.fragments.specs.Promises.{Effect, Takes}
use Rattle.fragment_packets.specs.Packets.{packet_of}
use Rattle.fragments.specs.Outcomes.{Outcome, settled, outcome_of}
use Rattle.fragment_rules.specs.Rules.{same_datagram, is_held, known_end_lem, wrong_end, end_with_lem, ruling}
use Rattle.fragment_packets.specs.Packets.{end_of, first_block, stop_block}
use Rattle.fragments.specs.Answer as Answer
use Rattle.fragment_packets.specs.declared.packet.Datagram.{Datagram}
use Rattle.fragment_rules.specs.declared.answer.Refusal.{Refusal}
use Rattle.fragment_rules.specs.declared.answer.State.{State}
use Rattle.fragment_rules.specs.declared.answer.State.TheVariants.{Empty, Filling, Complete}
use Rattle.fragment_packets.specs.declared.packet.Fragment.{Fragment}
use Rattle.fragment_rules.specs.declared.ruling.Ruling.{Ruling}
use Rattle.fragment_packets.proofs.Fitting.{at_block, part_is, ends_at_block}
use Rattle.fragments.proofs.Ruled.{Stored, stored}
use Rattle.fragment_laws.specs.Calls.{Store, Sized, Vacant, Call, after, Runs, asks, leaves}
use Rattle.fragment_laws.specs.Meaning.{Brought, BeforeEnd, Knows, Means, onto}
use Rattle.fragment_laws.specs.Trains.{Some, piece, Fit, Covers, takings}
use Rattle.fragment_laws.proofs.Written.{there_with, Written, written}
use Rattle.fragment_laws.proofs.Counting.{bit_at_most_1, count_missing}
use Rattle.fragment_laws.proofs.Storing.{Block, of_it, other, block}
use Rattle.fragment_laws.proofs.Leaving.{takes}

-- what holds of some still does
some_map : {A : Type 0} (P Q : A → Type 0) → ((x : A) → P x → Q x) → (xs : List A) → Some P xs → Some Q xs
some_map P Q f [] s = absurd s
some_map P Q f (x ∷ xs) (inl h) = inl (f x h)
some_map P Q f (x ∷ xs) (inr s) = inr (some_map P Q f xs s)

-- a frame more can have come
one_more : (s : State) (bytes bits frame : List ℕ) (came : List (List ℕ)) → Means s bytes bits came → Means s bytes bits (frame ∷ came)
one_more Empty bytes bits frame came m = m
one_more (Filling d end) bytes bits frame came m = λ place there h. inr (m place there h)
one_more (Complete d n) bytes bits frame came m = (λ place there h. inr (m.0 place there h), m.1)

-- equal in its four fields, equal as a name
same_name : (d e : Datagram) → same_datagram d e ≡ true → d ≡ e
unfolding same_datagram
same_name d e h = grind (arith, common_steps)

-- what is known of the datagram at hand before a fragment of it is stored
before : (s : State) (d : Datagram) (bytes bits : List ℕ) (came : List (List ℕ)) → is_held s d ≡ false → Means s bytes bits came → Knows d (known_end_lem s) bytes bits came
unfolding is_held known_end_lem
before Empty d bytes bits came free m = λ place there h. absurd (omega (arith, m (place / 8)))
before (Filling held end) d bytes bits came free m = subst (λ (x : Datagram). Knows x end bytes bits came) (same_name held d (not-false _ free)) m
before (Complete held n) d bytes bits came free m = cc

-- a stored fragment brings its own places up to the end, and what was known stays
covers : (frame : List ℕ) → Fit frame → (k : Option ℕ) (place : ℕ) (t : Bool) → (piece frame).last ≡ t
    → BeforeEnd (cond t (Option.Some (end_of (piece frame))) k) place → first_block (piece frame) ≤ place / 8 → place / 8 < stop_block (piece frame) → Covers place frame
unfolding blocks_of_lem
covers frame fit k place true e h l u = (omega (arith, at_block (body frame)), h)
covers frame fit k place false e h l u = (omega (arith, at_block (body frame)), omega (arith, ends_at_block frame (piece frame) fit e))

-- a place before the new end is before the old one
earlier : (f : Fragment) (there : ℕ → ℕ) (k : Option ℕ) (place : ℕ) (t : Bool) → f.last ≡ t → wrong_end f k there ≡ false → BeforeEnd (cond t (Option.Some (end_of f)) k) place → BeforeEnd k place
unfolding wrong_end
earlier f there Option.None place t e right h = tt
earlier f there (Option.Some n) place t e right h = grind (arith, common_steps)

-- a fragment is written
module _ (store : Store) (frame : List ℕ) (call : Call) (fit : Fit frame) (w : Written store frame call) where
  -- what is known then
  next : (k : Option ℕ) (came : List (List ℕ)) → wrong_end (piece frame) k (bit store.bits) ≡ false → Knows (piece frame).datagram k store.bytes store.bits came
      → Knows (piece frame).datagram (end_with_lem (piece frame) k) call.bytes call.bits (frame ∷ came)
  unfolding end_with_lem blocks_of_lem
  next k came right knows place there h = go (block (bit store.bits) (first_block (piece frame)) (stop_block (piece frame)) (place / 8))
    where
      go : Block (bit store.bits) (first_block (piece frame)) (stop_block (piece frame)) (place / 8) → Some (Brought (piece frame).datagram call.bytes place) (frame ∷ came)
      go (of_it l u e) = let c = covers frame fit k place (piece frame).last refl h l u in inl (record { fit = fit; of_it = refl; covers = c; byte = w.covered place c })
      go (other out e) =
          let kept = w.beside place (λ l. omega (arith, out (omega arith))) in
          inr (some_map (Brought (piece frame).datagram store.bytes place) (Brought (piece frame).datagram call.bytes place)
          (λ g b. record { fit = b.fit; of_it = b.of_it; covers = b.covers; byte = kept ∙ b.byte }) came
          (knows place (sym e ∙ sym (w.each_bit (place / 8)) ∙ there) (earlier (piece frame) (bit store.bits) k place (piece frame).last refl right h)))

-- what a settled store means
settles : (d : Datagram) (end : Option ℕ) (there : ℕ → ℕ) (bytes bits : List ℕ) (came : List (List ℕ)) → ((b : ℕ) → bit bits b ≡ there b)
    → Knows d end bytes bits came → Means (settled d end there).state bytes bits came
unfolding settled blocks_of_lem
settles d Option.None there bytes bits came each_bit knows = knows
settles d (Option.Some n) there bytes bits came each_bit knows = go (eqb (count there 0 (blocks_of_lem n)) (blocks_of_lem n)) refl
  where
    all : count there 0 (blocks_of_lem n) ≡ blocks_of_lem n → (b : ℕ) → b * 8 < n → bit bits b ≡ 1
    all same b h =
        let at_most_1 : (b : ℕ) → there b ≤ 1 = λ b. omega (arith, each_bit b, bit_at_most_1 bits b) in
        let out : there b ≡ 0 → ⊥ = λ absent. omega (arith, count_missing there at_most_1 0 (blocks_of_lem n) b (omega arith) (omega arith) absent) in
        omega (arith, each_bit b, bit_at_most_1 bits b)

    go : (t : Bool) → eqb (count there 0 (blocks_of_lem n)) (blocks_of_lem n) ≡ t
        → Means (cond {A = Outcome} t (record { said = Answer.complete; state = Complete d n }) (record { said = Answer.stored; state = Filling d (Option.Some n) })).state bytes bits came
    go true e = (knows, all (eqb-true _ _ e))
    go false e = knows

-- one call
module _ (store : Store) (sized : Sized store) (frame : List ℕ) (call : Call) (came : List (List ℕ))
    (t : Takes store.state frame store.bytes store.bits call.bytes call.bits call.taken)
    (m : Means store.state store.bytes store.bits came) where
  -- a fragment is stored
  stores : (f : Fragment) (end : Option ℕ) → Stored store.state (bit store.bits) (packet_of frame) f end
      → Effect (Ok (Ruling.Write f end)) frame store.bytes store.bits call.bytes call.bits
      → Means (settled f.datagram end (having (bit store.bits) (first_block f) (stop_block f))).state call.bytes call.bits (frame ∷ came) × Sized (after call)
  stores f end fs effect =
      let P : Fragment → Type 0 = λ g.
      Stored store.state (bit store.bits) (packet_of frame) g end → Effect (Ok (Ruling.Write g end)) frame store.bytes store.bits call.bytes call.bits
      → Means (settled g.datagram end (having (bit store.bits) (first_block g) (stop_block g))).state call.bytes call.bits (frame ∷ came) × Sized (after call) in
      subst P (part_is frame f fs.is_part) own fs effect
    where
      own : Stored store.state (bit store.bits) (packet_of frame) (piece frame) end → Effect (Ok (Ruling.Write (piece frame) end)) frame store.bytes store.bits call.bytes call.bits
          → Means (settled (piece frame).datagram end (there_with store frame)).state call.bytes call.bits (frame ∷ came) × Sized (after call)
      own fs effect =
          let fit : Fit frame = fs.is_part in
          let w = written store frame call end sized fit effect in
          let known = before store.state (piece frame).datagram store.bytes store.bits came fs.free m in
          let then = next store frame call fit w (known_end_lem store.state) came fs.right_end known in
          let ends = subst (λ (k : Option ℕ). Knows (piece frame).datagram k call.bytes call.bits (frame ∷ came)) fs.ends then in (
            settles (piece frame).datagram end (there_with store frame) call.bytes call.bits (frame ∷ came) w.each_bit ends,
            w.still_sized,
          )

  -- whatever is done with it
  goes_on : Means call.taken.state call.bytes call.bits (frame ∷ came) × Sized (after call)
  unfolding outcome_of
  goes_on =
      let r = go (ruling store.state frame (length store.bytes) store.bits) refl t.store in
      (subst (λ (s : State). Means s call.bytes call.bits (frame ∷ came)) (sym t.next) r.0, r.1)
    where
      same : Effect (Ok Ruling.Pass) frame store.bytes store.bits call.bytes call.bits → Means store.state call.bytes call.bits (frame ∷ came) × Sized (after call)
      same u = (
        subst (λ (l : List ℕ). Means store.state l call.bits (frame ∷ came)) (sym u.kept_bytes)
            (subst (λ (l : List ℕ). Means store.state store.bytes l (frame ∷ came)) (sym u.kept_bits) (one_more store.state store.bytes store.bits frame came m)),
        record { bytes_lent = ap length u.kept_bytes ∙ sized.bytes_lent; bits_lent = ap length u.kept_bits ∙ sized.bits_lent },
      )

      go : (r : Result Ruling Refusal) → ruling store.state frame (length store.bytes) store.bits ≡ r → Effect r frame store.bytes store.bits call.bytes call.bits
          → Means (outcome_of store.state (bit store.bits) r).state call.bytes call.bits (frame ∷ came) × Sized (after call)
      go (Err refusal) e u = same u
      go (Ok Ruling.Pass) e u = same u
      go (Ok (Ruling.Write f end)) e u = stores f end (stored store.state frame (length store.bytes) store.bits f end e).1 u

-- call by call
pub means : (frames : List (List ℕ)) (store : Store) (calls : List Call) (came : List (List ℕ)) → Sized store → Means store.state store.bytes store.bits came
    → Runs store calls → asks calls ≡ takings frames → Means (leaves store calls).state (leaves store calls).bytes (leaves store calls).bits (onto frames came)
means [] store [] came sized m r e = m
means [] store (call ∷ calls) came sized m r e = absurd (omega (arith, ap length e))
means (frame ∷ frames) store [] came sized m r e = absurd (omega (arith, ap length e))
means (frame ∷ frames) store (call ∷ calls) came sized m r e =
    let t = takes store frame call (cc) r.0 in
    let on = goes_on store sized frame call came t m in
    means frames (after call) calls (frame ∷ came) on.1 on.0 r.1 (ap (drop 1) e)

-- whatever frames come into an empty store, in whatever order and with whatever answers: where it is complete, each byte before the end was brought by a
-- fit fragment of that datagram that has come since
pub all_brought : (frames : List (List ℕ)) (store : Store) (calls : List Call) → Vacant store → Runs store calls → asks calls ≡ takings frames
    → (d : Datagram) (n : ℕ) → (leaves store calls).state ≡ Complete d n → (place : ℕ) → place < n → Some (Brought d (leaves store calls).bytes place) (onto frames [])
all_brought frames store calls v r e d n held place h =
    let first : Means store.state store.bytes store.bits [] = subst (λ (s : State). Means s store.bytes store.bits []) (sym v.holds_nothing) v.no_block in
    let m = subst (λ (s : State). Means s (leaves store calls).bytes (leaves store calls).bits (onto frames [])) held (means frames store calls [] v.sized first r e) in
    m.0 place (m.1 (place / 8) (omega arith)) h
