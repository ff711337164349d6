-- Isolation, once for every kind of state and call: a guest among others is served as if it were alone, so what it gets hangs on its own state and its own questions.
use Prim.Native.Nat.{ℕ}
use mathlib.Core.Bool.{Bool, true, false, cond}
use mathlib.Core.List.{List, [], ◌∷◌, ◌++◌}
use mathlib.Core.Path.{◌≡◌, refl, ap, ap₂, sym, subst}
use native.Mathlib.Omega.{arith}
use borrow.Author.Tests.{eqb-true}
use lib.Dec.{eqb}
use lib.ListN.{length, drop}
use Rattle.base.specs.Runs.{Runs, leaves, storing, calls_of, Serves, leaves_all, each}

module _ {S C : Type 0} (Keeps : S → C → Type 0) (after : C → S) (who : C → ℕ) where
  -- whatever the order of the calls and whatever the others ask, a guest is served as if it were alone
  pub as_if_alone : (host : ℕ → S) (calls : List C) (guest : ℕ) → Serves Keeps after who host calls → Runs Keeps after (host guest) (calls_of who guest calls)
  as_if_alone host [] guest s = tt
  as_if_alone host (call ∷ rest) guest (kept, then) =
      step (eqb (who call) guest) refl (as_if_alone (storing host (who call) (after call)) rest guest then)
    where
      step : (t : Bool) → eqb (who call) guest ≡ t → Runs Keeps after (cond t (after call) (host guest)) (calls_of who guest rest)
          → Runs Keeps after (host guest) (cond t (call ∷ calls_of who guest rest) (calls_of who guest rest))
      step true e ih = (subst (λ (k : ℕ). Keeps (host k) call) (eqb-true (who call) guest e) kept, ih)
      step false e ih = ih

  -- and its state is what its own calls leave
  pub left_alone : (host : ℕ → S) (calls : List C) (guest : ℕ) → leaves_all Keeps after who host calls guest ≡ leaves Keeps after (host guest) (calls_of who guest calls)
  left_alone host [] guest = refl
  left_alone host (call ∷ rest) guest = step (eqb (who call) guest) (left_alone (storing host (who call) (after call)) rest guest)
    where
      last : S
      last = leaves_all Keeps after who (storing host (who call) (after call)) rest guest

      step : (t : Bool) → last ≡ leaves Keeps after (cond t (after call) (host guest)) (calls_of who guest rest)
          → last ≡ leaves Keeps after (host guest) (cond t (call ∷ calls_of who guest rest) (calls_of who guest rest))
      step true e = e
      step false e = e

-- Where one call gets one answer: made twice on a state that is as it should be, and asked the same, it gets and leaves the same, and what it leaves is as it should be.
module _ {S C A G : Type 0} (Keeps : S → C → Type 0) (after : C → S) (asked : C → A) (got : C → G) (Good : S → Type 0)
    (once : (state : S) (c o : C) → Good state → Keeps state c → Keeps state o → asked c ≡ asked o → (got c ≡ got o) × (after c ≡ after o) × Good (after c)) where
  -- the same asked of the same state gets the same, call by call, and leaves the same
  pub alone_answers_once : (state : S) (calls others : List C) → Good state → Runs Keeps after state calls → Runs Keeps after state others → each asked calls ≡ each asked others
      → (each got calls ≡ each got others) × (leaves Keeps after state calls ≡ leaves Keeps after state others)
  alone_answers_once state [] [] g r s e = (refl, refl)
  alone_answers_once state [] (o ∷ others) g r s e = absurd (omega (arith, ap length e))
  alone_answers_once state (c ∷ calls) [] g r s e = absurd (omega (arith, ap length e))
  alone_answers_once state (c ∷ calls) (o ∷ others) g r s e =
      let same : asked c ≡ asked o = cc in
      let first = once state c o g r.0 s.0 same in
      let rest = alone_answers_once (after c) calls others first.2 r.1 (subst (λ (x : S). Runs Keeps after x others) (sym first.1) s.1) (ap (drop 1) e) in
      (ap₂ (λ (x : G) (l : List G). x ∷ l) first.0 rest.0, subst (λ (x : S). leaves Keeps after (after c) calls ≡ leaves Keeps after x others) first.1 rest.1)

  -- So two hosts that keep the same state for a guest and are asked the same by it give it the same answers and leave it the same state, whatever the other guests'
  -- states are and whatever they ask, in whatever order.
  pub others_do_not_matter : (who : C → ℕ) (host host' : ℕ → S) (calls calls' : List C) (guest : ℕ) → Good (host guest) → host guest ≡ host' guest
      → Serves Keeps after who host calls → Serves Keeps after who host' calls' → each asked (calls_of who guest calls) ≡ each asked (calls_of who guest calls')
      → (each got (calls_of who guest calls) ≡ each got (calls_of who guest calls'))
      × (leaves_all Keeps after who host calls guest ≡ leaves_all Keeps after who host' calls' guest)
  others_do_not_matter who host host' calls calls' guest g e s t a =
      let alone = as_if_alone Keeps after who host calls guest s in
      let alone' = subst (λ (x : S). Runs Keeps after x (calls_of who guest calls')) (sym e) (as_if_alone Keeps after who host' calls' guest t) in
      let same = alone_answers_once (host guest) (calls_of who guest calls) (calls_of who guest calls') g alone alone' a in
      (same.0, rw (left_alone Keeps after who host calls guest, left_alone Keeps after who host' calls' guest, sym e) same.1)

-- What every call keeps holds behind any run of them.
module _ {S C : Type 0} (Keeps : S → C → Type 0) (after : C → S) (Holds : S → Type 0) (kept : (state : S) (call : C) → Holds state → Keeps state call → Holds (after call)) where
  pub holds_after : (state : S) (calls : List C) → Holds state → Runs Keeps after state calls → Holds (leaves Keeps after state calls)
  holds_after state [] h r = h
  holds_after state (call ∷ rest) h (keeps, then) = holds_after (after call) rest (kept state call h keeps) then

  -- of a guest among others, whatever these ask
  pub holds_throughout : (who : C → ℕ) (host : ℕ → S) (calls : List C) (guest : ℕ) → Holds (host guest) → Serves Keeps after who host calls
      → Holds (leaves_all Keeps after who host calls guest)
  holds_throughout who host calls guest h s =
      subst Holds (sym (left_alone Keeps after who host calls guest)) (holds_after (host guest) (calls_of who guest calls) h (as_if_alone Keeps after who host calls guest s))

-- A run of two parts is a run of each: of the first, and of the second from what the first leaves.
module _ {S C : Type 0} (Keeps : S → C → Type 0) (after : C → S) where
  pub runs_before : (state : S) (earlier later : List C) → Runs Keeps after state (earlier ++ later) → Runs Keeps after state earlier
  runs_before state [] later r = tt
  runs_before state (call ∷ rest) later (kept, then) = (kept, runs_before (after call) rest later then)

  pub runs_behind : (state : S) (earlier later : List C) → Runs Keeps after state (earlier ++ later) → Runs Keeps after (leaves Keeps after state earlier) later
  runs_behind state [] later r = r
  runs_behind state (call ∷ rest) later (kept, then) = runs_behind (after call) rest later then

  pub leaves_behind : (state : S) (earlier later : List C) → leaves Keeps after state (earlier ++ later) ≡ leaves Keeps after (leaves Keeps after state earlier) later
  leaves_behind state [] later = refl
  leaves_behind state (call ∷ rest) later = leaves_behind (after call) rest later
