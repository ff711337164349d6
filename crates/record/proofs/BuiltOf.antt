-- A call that puts the record's id into what it writes: what it promises without the record, it promises with it.
use Rattle.std.proofs.Common.{◌≡◌, ℕ, ◌≤◌, cond, ltb, true, false, List, [], ◌∷◌, ◌++◌, length, drop, get_or, Result, Ok, Err, is_ok, refl, ap, arith, le-ltb, lt-ltb}
use Rattle.record.specs.Answer.{Wrote, Meets, as_verdict, built_of, building, spending, paper}
use Rattle.record.specs.Guest.{spent}
use Rattle.record.specs.declared.guest.Guest.{Guest}
use Rattle.record.specs.declared.answer.Answer.{Answer}
use Rattle.record.specs.declared.answer.Verdict.{Verdict}
use Rattle.record.specs.declared.answer.Verdict.TheVariants.{Drop, Reply, Dns, Relay, Tcp}
use Rattle.record.specs.declared.answer.Refusal.{Refusal}
use Rattle.record.specs.declared.answer.Refusal.TheVariants.{NoRoom, TooLong, CutType}
use Rattle.record.proofs.Changes.{Came, came, past_limit, short_room, built, on_one}

-- the number of a verdict that is no refusal
number_of : Verdict → ℕ
number_of v = get_or (paper (Ok v)) 0 0

number_small : (v : Verdict) → number_of v ≤ 4
unfolding number_of paper
number_small Drop = omega arith
number_small (Reply n) = omega arith
number_small (Dns start len) = omega arith
number_small (Relay start len) = omega arith
number_small (Tcp n) = omega arith

-- a refusal's number is not 1
not_one : (v : Result Verdict Refusal) → is_ok v ≡ false → (k : ℕ) → paper v ≡ 1 ∷ k ∷ [] → ⊥
unfolding paper
not_one (Ok v) e k n = cc
not_one (Err (NoRoom m)) e k n = cc
not_one (Err (TooLong m)) e k n = cc
not_one (Err (CutType m)) e k n = cc

module _ (guest : Guest) (limit len need room : ℕ) (image before after : List ℕ) where
  abbrev record_after : Result ℕ Refusal → Type 0
  record_after w = (built_of guest w).guest ≡ cond (ltb limit len) guest (cond (ltb room need) guest (spent guest))

  -- a refusal is none of what is built
  refused : (r : Refusal) → Came limit len need room image before after (Err r) → record_after (Err r)
  unfolding paper
  refused r (past_limit l n b) = simp (lt-ltb limit len l)
  refused r (short_room l s n b) = simp (le-ltb limit len l, lt-ltb room need s)
  refused r (built l s n b) = absurd (not_one (Err r) refl _ n)

  pub built_meets : (w : Result ℕ Refusal) → Wrote (building limit len need room image) before after (as_verdict w)
      → Meets (spending guest limit len need room image) before after (built_of guest w)
  unfolding spending paper
  built_meets (Ok n) w =
      let c = on_one limit len need room image before after _ w n refl in
      record { wrote = w; guest = simp (le-ltb limit len c.0, le-ltb room need c.1) }
  built_meets (Err r) w = record { wrote = w; guest = refused r (came limit len need room image before after _ w) }

module _ (limit len need room : ℕ) (image before after : List ℕ) where
  built_if_ok : (v : Result Verdict Refusal) → is_ok v ≡ true → Came limit len need room image before after v
      → (len ≤ limit) × (need ≤ room) × (after ≡ image ++ drop (length image) before)
  unfolding number_of
  built_if_ok (Ok v) e (past_limit l n b) = absurd (omega (arith, number_small v, ap (λ (s : List ℕ). get_or s 0 0) n))
  built_if_ok (Ok v) e (short_room l r n b) = absurd (omega (arith, number_small v, ap (λ (s : List ℕ). get_or s 0 0) n))
  built_if_ok (Ok v) e (built l r n b) = (l, r, b)
  built_if_ok (Err r) e c = absurd cc

-- What a call built may be written over at once: then it has built what stands there in the end. On a refusal nothing is written over.
module _ (guest : Guest) (limit len need room : ℕ) (image before after : List ℕ) (a : Answer) (m : Meets (spending guest limit len need room image) before after a) where
  came_of : Came limit len need room image before after a.verdict
  unfolding spending
  came_of = came limit len need room image before after a.verdict m.wrote

  pub on_ok : is_ok a.verdict ≡ true → (len ≤ limit) × (need ≤ room) × (after ≡ image ++ drop (length image) before)
  on_ok e = built_if_ok limit len need room image before after a.verdict e came_of

  pub written_over : (image' after' : List ℕ) → is_ok a.verdict ≡ true → after' ≡ image' ++ drop (length image') before
      → Meets (spending guest limit len need room image') before after' a
  unfolding spending building
  written_over image' after' e same =
      let c = on_ok e in
      let m' = simp (le-ltb limit len c.0, le-ltb room need c.1) at m in
      simp (le-ltb limit len c.0, le-ltb room need c.1) (record { wrote = record { numbers = m'.wrote.numbers; bytes = same }; guest = m'.guest })

  pub left_alone : (image' : List ℕ) → is_ok a.verdict ≡ false → Meets (spending guest limit len need room image') before after a
  unfolding spending building
  left_alone image' e = go came_of
    where
      go : Came limit len need room image before after a.verdict → Meets (spending guest limit len need room image') before after a
      go (past_limit l n b) = let m' = simp (lt-ltb limit len l) at m in simp (lt-ltb limit len l) m'
      go (short_room l r n b) = let m' = simp (le-ltb limit len l, lt-ltb room need r) at m in simp (le-ltb limit len l, lt-ltb room need r) m'
      go (built l r n b) = absurd (not_one a.verdict e need n)
