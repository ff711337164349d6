-- What a comparison tells that ends a test: both ways, by the comparison's two answers.
use Prim.Native.Nat.{ℕ, ◌-◌, ◌≤◌}
use mathlib.Core.Path.{◌≡◌, refl, subst}
use mathlib.Core.Bool.{Bool, true, false, not}
use mathlib.Core.Logic.{◌⊎◌, inl, inr}
use mathlib.Core.List.{List}
use native.Mathlib.Omega.{arith}
use lib.Dec.{eqb}
use lib.ListN.{length, take, drop}
use Rattle.base.proofs.Lists.{from_on}
use borrow.Author.Tests.{eqb-true, eqb-false, not-true, not-false}
use Rattle.base.specs.Tells.{Tells}
use Rattle.base.proofs.Choice.{by_test}

pub tells_eq : {A : Type 0} (m n : ℕ) → (m ≡ n → A) → (A → m ≡ n) → Tells (eqb m n) A
tells_eq {A} m n to from = go (eqb m n) refl
  where
    go : (b : Bool) → eqb m n ≡ b → Tells b A
    go true e = to (eqb-true m n e)
    go false e = λ a. eqb-false m n e (from a)

-- what tells of one thing tells of another that holds exactly when it does
pub tells_same : {A B : Type 0} (b : Bool) → Tells b A → (A → B) → (B → A) → Tells b B
tells_same true t to from = to t
tells_same false t to from = λ x. t (from x)

-- what a negated test tells, passed and failed
pub tells_not : {A : Type 0} (b : Bool) → Tells b A → not b ≡ true → A → ⊥
tells_not {A} b t e = subst (λ (x : Bool). Tells x A) (not-true b e) t

pub tells_yes : {A : Type 0} (b : Bool) → Tells b A → not b ≡ false → A
tells_yes {A} b t e = subst (λ (x : Bool). Tells x A) (not-false b e) t

-- one of two, and not the first
pub second_of : {A B : Type 0} → A ⊎ B → (A → ⊥) → B
second_of (inl a) f = absurd (f a)
second_of (inr b) f = b

-- one of two, and not the second
pub first_of : {A B : Type 0} → A ⊎ B → (B → ⊥) → A
first_of (inl a) f = a
first_of (inr b) f = absurd (f b)

-- 1 or 2, and neither less nor more
pub one_or_two : (x : ℕ) → 1 ≤ x → x ≤ 2 → (x ≡ 1) ⊎ (x ≡ 2)
one_or_two x a b =
    by_test (eqb x 1)
    (λ e. inl (eqb-true x 1 e))
    (λ e. inr (let n = eqb-false x 1 e in omega (arith, n)))

pub at_least_1 : (x : ℕ) → (x ≡ 1) ⊎ (x ≡ 2) → 1 ≤ x
at_least_1 x (inl e) = omega arith
at_least_1 x (inr e) = omega arith

pub at_most_2 : (x : ℕ) → (x ≡ 1) ⊎ (x ≡ 2) → x ≤ 2
at_most_2 x (inl e) = omega arith
at_most_2 x (inr e) = omega arith

-- what a test of the slice from `n` on, as the code takes it, tells of the part: failed and passed
module _ (A : List ℕ → Type 0) (n : ℕ) (s : List ℕ) (b : Bool) (t : Tells b (A (take (length s - n) (drop n s)))) where
  of_rest : Tells b (A (drop n s))
  of_rest = subst (λ (m : List ℕ). Tells b (A m)) (from_on n s) t

  pub rest_not : not b ≡ true → A (drop n s) → ⊥
  rest_not = tells_not b of_rest

  pub rest_yes : not b ≡ false → A (drop n s)
  rest_yes = tells_yes b of_rest
