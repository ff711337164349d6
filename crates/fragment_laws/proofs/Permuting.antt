-- What holds of the fragments of a train in one order holds in every order: by induction over the exchanges.
use Prim.Native.Nat.{ℕ, ◌+◌}
use mathlib.Core.Path.{◌≡◌, refl, ap, ◌∙◌}
use mathlib.Core.Logic.{inl, inr}
use mathlib.Core.List.{List, [], ◌∷◌}
use native.Mathlib.Omega.{arith}
use mathlib.Core.Bool.{cond}
use Rattle.fragment_laws.specs.Trains.{Permuted, done, keep, swap, join, All, Some, EachTwo, piece, lasts}

-- an order is undone by an order
pub permuted_back : {A : Type 0} {xs ys : List A} → Permuted xs ys → Permuted ys xs
permuted_back done = done
permuted_back (keep p) = keep (permuted_back p)
permuted_back swap = swap
permuted_back (join p q) = join (permuted_back q) (permuted_back p)

module _ {A : Type 0} (P : A → Type 0) where
  -- what holds of each
  pub all_permuted : {xs ys : List A} → Permuted xs ys → All P xs → All P ys
  all_permuted done h = h
  all_permuted (keep p) h = (h.0, all_permuted p h.1)
  all_permuted swap h = (h.1.0, (h.0, h.1.1))
  all_permuted (join p q) h = all_permuted q (all_permuted p h)

  -- what holds of some
  pub some_permuted : {xs ys : List A} → Permuted xs ys → Some P xs → Some P ys
  some_permuted done h = h
  some_permuted (keep p) (inl h) = inl h
  some_permuted (keep p) (inr h) = inr (some_permuted p h)
  some_permuted swap (inl h) = inr (inl h)
  some_permuted swap (inr (inl h)) = inl h
  some_permuted swap (inr (inr h)) = inr (inr h)
  some_permuted (join p q) h = some_permuted q (some_permuted p h)

-- what holds of each two, either way round
pub each_two_permuted : {A : Type 0} (R : A → A → Type 0) → ((x y : A) → R x y → R y x) → {xs ys : List A} → Permuted xs ys → EachTwo R xs → EachTwo R ys
each_two_permuted R turn done h = h
each_two_permuted R turn (keep {x = x} p) h = (all_permuted (R x) p h.0, each_two_permuted R turn p h.1)
each_two_permuted R turn (swap {x = x} {y = y}) h = ((turn x y h.0.0, h.1.0), (h.0.1, h.1.1))
each_two_permuted R turn (join p q) h = each_two_permuted R turn q (each_two_permuted R turn p h)

-- how many lasts there are
pub lasts_permuted : {xs ys : List (List ℕ)} → Permuted xs ys → lasts xs ≡ lasts ys
lasts_permuted done = refl
lasts_permuted (keep {x = x} p) = ap (λ (n : ℕ). cond (piece x).last 1 0 + n) (lasts_permuted p)
lasts_permuted swap = omega arith
lasts_permuted (join p q) = lasts_permuted p ∙ lasts_permuted q

-- what two facts about each give
pub all_both : {A : Type 0} (P Q R : A → Type 0) → ((x : A) → P x → Q x → R x) → (xs : List A) → All P xs → All Q xs → All R xs
all_both P Q R f [] p q = tt
all_both P Q R f (x ∷ xs) p q = (f x p.0 q.0, all_both P Q R f xs p.1 q.1)

-- what holds of each holds of the one of which something holds
pub all_some : {A C : Type 0} (P Q : A → Type 0) → ((x : A) → P x → Q x → C) → (xs : List A) → All P xs → Some Q xs → C
all_some P Q f [] p q = absurd q
all_some P Q f (x ∷ xs) p (inl q) = f x p.0 q
all_some P Q f (x ∷ xs) p (inr q) = all_some P Q f xs p.1 q
