-- When a call that builds answers 6, 5 and 1, and what each changes: on 6 and 5 neither the record nor one byte.
use Rattle.std.proofs.Common.{◌≡◌, ℕ, ◌<◌, ◌≤◌, Bool, true, false, cond, ltb, List, [], ◌∷◌, ◌++◌, length, drop, Result, sym, refl, ap, ◌∙◌, subst, arith, ltb-false, ltb-true, le-ltb, lt-ltb}
use lib.Seq.{drop-append_seam}
use Rattle.record.specs.Answer.{paper, Wrote, Meets, building, spending}
use Rattle.record.specs.Guest.{Settled, Sized, spent}
use Rattle.record.specs.Network.{FourBytes}
use Rattle.record.specs.declared.guest.Guest.{Guest}
use Rattle.record.specs.declared.answer.Answer.{Answer}
use Rattle.record.specs.declared.answer.Verdict.{Verdict}
use Rattle.record.specs.declared.answer.Refusal.{Refusal}
use Rattle.base.proofs.Choice.{by_test}

-- a record that keeps its MAC and its network keeps the lengths of its arrays
pub still_sized : {guest next : Guest} → Settled guest next → Sized guest → Sized next
still_sized s sized = record { mac = ap length s.mac_kept ∙ sized.mac; network = subst FourBytes (sym s.network_kept) sized.network }

module _ (limit len need room : ℕ) (image before after : List ℕ) where
  -- the three cases of a call that answers a verdict
  pub data Came (v : Result Verdict Refusal) : Type 0 where
    past_limit : limit < len → paper v ≡ 6 ∷ len ∷ [] → after ≡ before → Came v
    short_room : len ≤ limit → room < need → paper v ≡ 5 ∷ need ∷ [] → after ≡ before → Came v
    built : len ≤ limit → need ≤ room → paper v ≡ 1 ∷ need ∷ [] → after ≡ image ++ drop (length image) before → Came v

  pub came : (v : Result Verdict Refusal) → Wrote (building limit len need room image) before after v → Came v
  unfolding building
  came v w =
      by_test (ltb limit len)
      (λ e. let w' = rw e at w in past_limit (ltb-true limit len e) w'.numbers w'.bytes)
      (λ e.
      by_test (ltb room need)
      (λ f. let w' = rw (e, f) at w in short_room (ltb-false limit len e) (ltb-true room need f) w'.numbers w'.bytes)
      (λ f. let w' = rw (e, f) at w in built (ltb-false limit len e) (ltb-false room need f) w'.numbers w'.bytes))

  module _ (v : Result Verdict Refusal) (w : Wrote (building limit len need room image) before after v) where
    -- 6 exactly past the limit; it says the length, and not one byte changes
    pub on_six : (k : ℕ) → paper v ≡ 6 ∷ k ∷ [] → (limit < len) × (k ≡ len) × (after ≡ before)
    on_six k e = go (came v w)
      where
        go : Came v → (limit < len) × (k ≡ len) × (after ≡ before)
        go (past_limit l n b) = (l, cc, b)
        go (short_room l r n b) = let z : ◌≡◌ {A = ℕ} 5 6 = cc in absurd (omega arith)
        go (built l r n b) = let z : ◌≡◌ {A = ℕ} 1 6 = cc in absurd (omega arith)

    pub six_past_limit : limit < len → paper v ≡ 6 ∷ len ∷ []
    unfolding building
    six_past_limit h = simp (lt-ltb limit len h) at w.numbers

    -- 5 exactly within the limit and with less room than the need; it says the need, and not one byte changes
    pub on_five : (k : ℕ) → paper v ≡ 5 ∷ k ∷ [] → (len ≤ limit) × (room < need) × (k ≡ need) × (after ≡ before)
    on_five k e = go (came v w)
      where
        go : Came v → (len ≤ limit) × (room < need) × (k ≡ need) × (after ≡ before)
        go (past_limit l n b) = let z : ◌≡◌ {A = ℕ} 6 5 = cc in absurd (omega arith)
        go (short_room l r n b) = (l, r, cc, b)
        go (built l r n b) = let z : ◌≡◌ {A = ℕ} 1 5 = cc in absurd (omega arith)

    pub five_short_room : len ≤ limit → room < need → paper v ≡ 5 ∷ need ∷ []
    unfolding building
    five_short_room h f = simp (le-ltb limit len h, lt-ltb room need f) at w.numbers

    -- 1 exactly where neither holds; it says the need, and past what was built nothing changes
    pub on_one : (k : ℕ) → paper v ≡ 1 ∷ k ∷ []
        → (len ≤ limit) × (need ≤ room) × (k ≡ need) × (after ≡ image ++ drop (length image) before) × (drop (length image) after ≡ drop (length image) before)
    on_one k e = go (came v w)
      where
        go : Came v → (len ≤ limit) × (need ≤ room) × (k ≡ need) × (after ≡ image ++ drop (length image) before) × (drop (length image) after ≡ drop (length image) before)
        go (past_limit l n b) = let z : ◌≡◌ {A = ℕ} 6 1 = cc in absurd (omega arith)
        go (short_room l r n b) = let z : ◌≡◌ {A = ℕ} 5 1 = cc in absurd (omega arith)
        go (built l r n b) = (l, r, cc, b, ap (drop (length image)) b ∙ drop-append_seam image _)

    pub one_with_room : len ≤ limit → need ≤ room → paper v ≡ 1 ∷ need ∷ []
    unfolding building
    one_with_room h f = simp (le-ltb limit len h, le-ltb room need f) at w.numbers

  module _ (guest : Guest) (a : Answer) (m : Meets (spending guest limit len need room image) before after a) where
    written : Wrote (building limit len need room image) before after a.verdict
    unfolding spending
    written = m.wrote

    -- on 6 and 5 the record is the old one
    pub record_on_six : (k : ℕ) → paper a.verdict ≡ 6 ∷ k ∷ [] → a.guest ≡ guest
    unfolding spending
    record_on_six k e = simp (lt-ltb limit len (on_six a.verdict written k e).0) at m.guest

    pub record_on_five : (k : ℕ) → paper a.verdict ≡ 5 ∷ k ∷ [] → a.guest ≡ guest
    unfolding spending
    record_on_five k e =
        let c = on_five a.verdict written k e in
        simp (le-ltb limit len c.0, lt-ltb room need c.1) at m.guest

    -- on 1 the id is the old one plus 1, and 65,535 goes to 0; MAC and xid stay
    pub record_on_one : (k : ℕ) → paper a.verdict ≡ 1 ∷ k ∷ [] → a.guest ≡ spent guest
    unfolding spending
    record_on_one k e =
        let c = on_one a.verdict written k e in
        simp (le-ltb limit len c.0, le-ltb room need c.1) at m.guest

-- and whatever a call that spends an id answers, MAC and network are as they were
module _ (guest : Guest) (limit len need room : ℕ) (image : List ℕ) where
  pub spending_settled : Settled guest (spending guest limit len need room image).guest
  unfolding spending
  spending_settled = go (ltb limit len) (ltb room need)
    where
      go : (t u : Bool) → Settled guest (cond t guest (cond u guest (spent guest)))
      go true u = record { mac_kept = refl; network_kept = refl }
      go false true = record { mac_kept = refl; network_kept = refl }
      go false false = record { mac_kept = refl; network_kept = refl }
