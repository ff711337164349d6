-- One call of a train: the next fragment is stored. No block that is there belongs to a fragment to come, and the two together cover the datagram.
use Prim.Native.Nat.{ℕ, ◌-◌, ◌*◌, ◌/◌, ◌≤◌, ◌<◌}
use mathlib.Core.Path.{◌≡◌, refl, ap, sym, subst, ◌∙◌}
use mathlib.Core.Bool.{Bool, true, false, true≢false, cond}
use mathlib.Core.Logic.{◌⊎◌, inl, inr}
use mathlib.Core.List.{List, [], ◌∷◌}
use native.Mathlib.Omega.{arith}
use borrow.Author.Tests.{le-ltb, eq-eqb, ne_eqb}
use lib.ListN.{length, get_or}
use Rattle.std.specs.Prelude.{Option, Result, Ok}
use Rattle.std.proofs.lemmas.Grind.{common_steps}
use Rattle.bitmap.specs.Bitmap.{bit, count, blocks_of_lem}
use Rattle.wire.specs.Rfc894.{body}
use Rattle.fragments.specs.Answer.{stored, complete, said_for}
use Rattle.fragments.specs.Promises.{Effect, Takes}
use Rattle.fragments.specs.Outcomes.{Outcome, settled, outcome_of}
use Rattle.fragment_rules.specs.Rules.{of_size_lem, same_datagram, is_held, known_end_lem, overlaps, wrong_end, end_with_lem, part_ruling, packet_ruling, ruling}
use Rattle.fragment_packets.specs.Packets.{end_of, first_block, stop_block}
use Rattle.fragment_packets.specs.declared.packet.Datagram.{Datagram}
use Rattle.fragment_rules.specs.declared.answer.Refusal.{Refusal}
use Rattle.fragment_rules.specs.declared.answer.State.TheVariants.{Filling, Complete}
use Rattle.fragment_rules.specs.declared.ruling.Ruling.{Ruling}
use Rattle.fragment_packets.proofs.Fitting.{at_block, part_fits}
use Rattle.fragment_laws.specs.Calls.{Store, Sized, Call, after}
use Rattle.fragment_laws.specs.Trains.{All, Some, EachTwo, piece, Fit, Covers, Apart, lasts}
use Rattle.fragment_laws.proofs.Counting.{bit_at_most_1, count_none, count_all, count_missing}
use Rattle.fragment_laws.proofs.Permuting.{all_both}
use Rattle.fragment_laws.proofs.Storing.{Block, of_it, other, block, having_at_most_1}
use Rattle.fragment_laws.proofs.Written.{there_with, Written, written}

-- a fragment to come: fit, of the datagram and within it, and none of its blocks is there
pub record Awaited (d : Datagram) (end : ℕ) (bits frame : List ℕ) : Type 0 where
  pub fit : Fit frame
  pub name : (piece frame).datagram ≡ d
  pub within : end_of (piece frame) ≤ end
  pub absent : (b : ℕ) → first_block (piece frame) ≤ b → b < stop_block (piece frame) → bit bits b ≡ 0

-- a last one that ends here
abbrev pub LastAt : (end : ℕ) (frame : List ℕ) → Type 0
LastAt end frame = ((piece frame).last ≡ true) × (end_of (piece frame) ≡ end)

-- the end is not known and its fragment is to come, or it is and has come
abbrev pub EndSoFar : (end : ℕ) → Option ℕ → List (List ℕ) → Type 0
EndSoFar end Option.None todo = (lasts todo ≡ 1) × Some (LastAt end) todo
EndSoFar end (Option.Some e) todo = (e ≡ end) × (lasts todo ≡ 0)

-- between two calls
pub record Coming (d : Datagram) (end : ℕ) (store : Store) (todo : List (List ℕ)) : Type 0 where
  pub sized : Sized store
  pub free : is_held store.state d ≡ false
  pub known : EndSoFar end (known_end_lem store.state) todo
  pub awaited : All (Awaited d end store.bits) todo
  pub apart : EachTwo Apart todo
  pub before_end : (b : ℕ) → bit store.bits b ≡ 1 → b * 8 < end
  pub covered : (place : ℕ) → place < end → (bit store.bits (place / 8) ≡ 1) ⊎ Some (Covers place) todo

-- a last one to come counts
some_last : (end : ℕ) (todo : List (List ℕ)) → Some (LastAt end) todo → 1 ≤ lasts todo
some_last end [] s = absurd s
some_last end (frame ∷ todo) (inl h) = rw h.0 (omega arith)
some_last end (frame ∷ todo) (inr s) = omega (arith, some_last end todo s)

module _ (end : ℕ) (frame : List ℕ) (todo : List (List ℕ)) where
  -- the last of all ends at the end, and no last comes after it
  is_the_last : lasts (frame ∷ todo) ≡ 1 → Some (LastAt end) (frame ∷ todo) → (piece frame).last ≡ true → (end_of (piece frame) ≡ end) × (lasts todo ≡ 0)
  is_the_last n (inl h) e = (h.1, omega (arith, rw e at n))
  is_the_last n (inr s) e = absurd (omega (arith, some_last end todo s, rw e at n))

  -- one that is not the last leaves the last to come
  is_not : lasts (frame ∷ todo) ≡ 1 → Some (LastAt end) (frame ∷ todo) → (piece frame).last ≡ false → EndSoFar end Option.None todo
  is_not n (inl h) e = absurd (true≢false (sym h.0 ∙ e))
  is_not n (inr s) e = (omega (arith, rw e at n), s)

  -- what is known of the end once the fragment has come
  next_end : (k : Option ℕ) → EndSoFar end k (frame ∷ todo) → EndSoFar end (end_with_lem (piece frame) k) todo
  unfolding end_with_lem
  next_end k h = go (piece frame).last refl k h
    where
      go : (t : Bool) → (piece frame).last ≡ t → (k : Option ℕ) → EndSoFar end k (frame ∷ todo) → EndSoFar end (cond t (Option.Some (end_of (piece frame))) k) todo
      go true e Option.None h = is_the_last h.0 h.1 e
      go true e (Option.Some end') h = absurd (omega (arith, rw e at h.1))
      go false e Option.None h = is_not h.0 h.1 e
      go false e (Option.Some end') h = (h.0, omega (arith, rw e at h.1))

-- a block is one of the fragment's or another
abbrev BlockWith : Store → (frame : List ℕ) (b : ℕ) → Type 0
BlockWith store frame b = Block (bit store.bits) (first_block (piece frame)) (stop_block (piece frame)) b

-- when a datagram is complete
module _ (d : Datagram) (end : ℕ) (there : ℕ → ℕ) (todo : List (List ℕ)) where
  -- no last is to come and each block is there
  complete_at_last : (k : Option ℕ) → EndSoFar end k todo → lasts todo ≡ 0 → ((b : ℕ) → b * 8 < end → there b ≡ 1) → settled d k there ≡ record { said = complete; state = Complete d end }
  unfolding settled blocks_of_lem
  complete_at_last Option.None h none all = absurd (omega (arith, h.0))
  complete_at_last (Option.Some e) h none all = rw (h.0, eq-eqb _ (blocks_of_lem end) (count_all there 0 (blocks_of_lem end) (λ b l u. all b (omega arith))))

  -- a block before the end is not
  stored_before : ((b : ℕ) → there b ≤ 1) → (b : ℕ) → b * 8 < end → there b ≡ 0 → (k : Option ℕ) → EndSoFar end k todo → settled d k there ≡ record { said = stored; state = Filling d k }
  unfolding settled blocks_of_lem
  stored_before at_most_1 b before absent Option.None h = refl
  stored_before at_most_1 b before absent (Option.Some e) h =
      let missing = count_missing there at_most_1 0 (blocks_of_lem e) b (omega arith) (omega (arith, h.0)) absent in
      rw (ne_eqb (count there 0 (blocks_of_lem e)) (blocks_of_lem e) (λ same. omega arith))

-- a datagram is the same as itself
same_as_itself : (d : Datagram) → same_datagram d d ≡ true
unfolding same_datagram
same_as_itself d = grind (arith, common_steps)

-- the call that takes the next fragment
module _ (d : Datagram) (end : ℕ) (store : Store) (frame : List ℕ) (todo : List (List ℕ)) (c : Coming d end store (frame ∷ todo)) where
  -- it doesn't get 12
  no_overlap : overlaps (piece frame) (bit store.bits) ≡ false
  unfolding overlaps
  no_overlap = rw (eq-eqb _ 0 (count_none (bit store.bits) (first_block (piece frame)) (stop_block (piece frame) - first_block (piece frame)) (λ b l u. c.awaited.0.absent b l (omega arith))))

  -- nor 13
  no_wrong_end : (k : Option ℕ) → EndSoFar end k (frame ∷ todo) → wrong_end (piece frame) k (bit store.bits) ≡ false
  unfolding wrong_end blocks_of_lem
  no_wrong_end k h = go (piece frame).last refl k h
    where
      none_behind : end_of (piece frame) ≡ end → (b : ℕ) → stop_block (piece frame) ≤ b → bit store.bits b ≡ 0
      none_behind e b l =
          let out : bit store.bits b ≡ 1 → ⊥ = λ there. omega (arith, c.before_end b there) in
          omega (arith, bit_at_most_1 store.bits b)

      go : (t : Bool) → (piece frame).last ≡ t → (k : Option ℕ) → EndSoFar end k (frame ∷ todo) → wrong_end (piece frame) k (bit store.bits) ≡ false
      go true e Option.None h =
          rw (e, eq-eqb _ 0 (count_none (bit store.bits) (stop_block (piece frame)) (8192 - stop_block (piece frame)) (λ b l u. none_behind (is_the_last end frame todo h.0 h.1 e).0 b l)))
      go true e (Option.Some end') h = absurd (omega (arith, rw e at h.1))
      go false e Option.None h = rw e
      go false e (Option.Some end') h = rw (e, le-ltb end' (end_of (piece frame)) (omega (arith, h.0, c.awaited.0.within)))

  -- so it is stored
  rules : ruling store.state frame (length store.bytes) store.bits ≡ Ok (Ruling.Write (piece frame) (end_with_lem (piece frame) (known_end_lem store.state)))
  unfolding ruling packet_ruling part_ruling of_size_lem
  rules =
      rw (eq-eqb _ _ c.sized.bytes_lent, eq-eqb _ _ c.sized.bits_lent, c.awaited.0.fit, ap (is_held store.state) c.awaited.0.name ∙ c.free, no_overlap, no_wrong_end _ c.known)

  -- a call that takes it
  module _ (call : Call) (t : Takes store.state frame store.bytes store.bits call.bytes call.bits call.taken) where
    -- what was to come of it
    came : outcome_of store.state (bit store.bits) (ruling store.state frame (length store.bytes) store.bits)
        ≡ settled d (end_with_lem (piece frame) (known_end_lem store.state)) (there_with store frame)
    unfolding outcome_of
    came = rw (rules, c.awaited.0.name)

    -- what it leaves
    pub left_so : Written store frame call
    left_so =
        written store frame call (end_with_lem (piece frame) (known_end_lem store.state)) c.sized c.awaited.0.fit
        (subst (λ (r : Result Ruling Refusal). Effect r frame store.bytes store.bits call.bytes call.bits) rules t.store)

    -- a byte whose block is there
    pub byte_kept : (place : ℕ) → bit store.bits (place / 8) ≡ 1 → get_or call.bytes place 0 ≡ get_or store.bytes place 0
    unfolding blocks_of_lem
    byte_kept place there =
        left_so.beside place (λ l.
        let out : ¬ (place < end_of (piece frame)) = λ u. omega (arith, c.awaited.0.absent (place / 8) (omega arith) (omega arith)) in
        omega arith)

    -- a block that is there stays
    pub block_kept : (b : ℕ) → bit store.bits b ≡ 1 → bit call.bits b ≡ 1
    block_kept b there = left_so.each_bit b ∙ go (block _ _ _ b)
      where
        go : BlockWith store frame b → there_with store frame b ≡ 1
        go (of_it l u e) = e
        go (other out e) = e ∙ there

    -- the fragment's own come
    pub block_come : (place : ℕ) → Covers place frame → bit call.bits (place / 8) ≡ 1
    unfolding blocks_of_lem
    block_come place h = left_so.each_bit (place / 8) ∙ go (block _ _ _ (place / 8))
      where
        go : BlockWith store frame (place / 8) → there_with store frame (place / 8) ≡ 1
        go (of_it l u e) = e
        go (other out e) = absurd (omega (arith, out (omega arith)))

    -- each place has its block or is covered by what is left
    still_covered : (place : ℕ) → place < end → (bit call.bits (place / 8) ≡ 1) ⊎ Some (Covers place) todo
    still_covered place h = go (c.covered place h)
      where
        go : (bit store.bits (place / 8) ≡ 1) ⊎ Some (Covers place) (frame ∷ todo) → (bit call.bits (place / 8) ≡ 1) ⊎ Some (Covers place) todo
        go (inl there) = inl (block_kept (place / 8) there)
        go (inr (inl covers)) = inl (block_come place covers)
        go (inr (inr rest)) = inr rest

    -- a fragment that lies apart is still to come
    still_awaited : (g : List ℕ) → Awaited d end store.bits g → Apart frame g → Awaited d end call.bits g
    unfolding blocks_of_lem
    still_awaited g w apart = record {
      fit = w.fit;
      name = w.name;
      within = w.within;
      absent = λ b l u. left_so.each_bit b ∙ go b l u apart (block _ _ _ b);
    }
      where
        go : (b : ℕ) → first_block (piece g) ≤ b → b < stop_block (piece g) → Apart frame g
            → BlockWith store frame b → there_with store frame b ≡ 0
        go b l u (inl h) (of_it l' u' e) = absurd (omega (arith, at_block (body frame), at_block (body g)))
        go b l u (inr h) (of_it l' u' e) = absurd (omega (arith, at_block (body frame), at_block (body g)))
        go b l u h (other out e) = e ∙ w.absent b l u

    -- and all is as it was before it, for the fragments that are left
    next_coming : call.taken.state ≡ Filling d (end_with_lem (piece frame) (known_end_lem store.state)) → Coming d end (after call) todo
    unfolding is_held known_end_lem blocks_of_lem
    next_coming state = record {
      sized = left_so.still_sized;
      free = rw (state, same_as_itself d);
      known = rw state (next_end end frame todo (known_end_lem store.state) c.known);
      awaited = all_both (Awaited d end store.bits) (Apart frame) (Awaited d end call.bits) still_awaited todo c.awaited.1 c.apart.0;
      apart = c.apart.1;
      before_end = λ b there. within b (sym (left_so.each_bit b) ∙ there) (block _ _ _ b);
      covered = still_covered;
    }
      where
        within : (b : ℕ) → there_with store frame b ≡ 1 → BlockWith store frame b → b * 8 < end
        within b there (of_it l u e) = omega (arith, c.awaited.0.within)
        within b there (other out e) = c.before_end b (sym e ∙ there)

    -- where no fragment is left, the datagram is complete
    pub complete_now : lasts todo ≡ 0 → ((place : ℕ) → Some (Covers place) todo → ⊥) → (said_for call.taken.answer ≡ complete) × (call.taken.state ≡ Complete d end)
    complete_now none nowhere =
        let all = complete_at_last d end (there_with store frame) todo _ (next_end end frame todo _ c.known) none there in
        let done = came ∙ all in
        (t.answers ∙ ap (λ (o : Outcome). o.said) done, t.next ∙ ap (λ (o : Outcome). o.state) done)
      where
        there : (b : ℕ) → b * 8 < end → there_with store frame b ≡ 1
        there b h = sym (left_so.each_bit b) ∙ go (still_covered (b * 8) h)
          where
            go : (bit call.bits (b * 8 / 8) ≡ 1) ⊎ Some (Covers (b * 8)) todo → bit call.bits b ≡ 1
            go (inl there) = subst (λ (k : ℕ). bit call.bits k ≡ 1) (omega arith) there
            go (inr left) = absurd (nowhere (b * 8) left)

    -- where one is, it is not, and the rest can come
    pub stored_now : (g : List ℕ) → Awaited d end store.bits g → Apart frame g → (said_for call.taken.answer ≡ stored) × Coming d end (after call) todo
    unfolding blocks_of_lem
    stored_now g w apart =
        let some = (part_fits g (piece g) w.fit).not_empty in
        let absent = (still_awaited g w apart).absent (first_block (piece g)) (omega arith) (omega arith) in
        let at_most_1 : (b : ℕ) → there_with store frame b ≤ 1 = λ b. having_at_most_1 _ _ _ b (bit_at_most_1 store.bits b) in
        let known = next_end end frame todo _ c.known in
        let more = came ∙ stored_before d end (there_with store frame) todo at_most_1 (first_block (piece g)) (omega (arith, w.within)) (sym (left_so.each_bit _) ∙ absent) _ known in
        (t.answers ∙ ap (λ (o : Outcome). o.said) more, next_coming (t.next ∙ ap (λ (o : Outcome). o.state) more))
