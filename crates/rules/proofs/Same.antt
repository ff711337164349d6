-- `same` is equality of byte lists, and four bytes are compared one by one.
use Prim.Native.Nat.{ℕ}
use mathlib.Core.Path.{◌≡◌, refl, ap₂, subst⁻¹}
use mathlib.Core.Bool.{true}
use mathlib.Core.List.{List, [], ◌∷◌}
use borrow.Author.Tests.{eq-eqb, eqb-true}
use lib.Dec.{T, eqb}
use Rattle.base.proofs.Choice.{both_left, both_right}
use Rattle.rules.specs.Same.{same}

pub same_equal : (s t : List ℕ) → same s t ≡ true → s ≡ t
same_equal [] [] e = refl
same_equal [] (b ∷ t) e = absurd (subst⁻¹ T e tt)
same_equal (a ∷ s) [] e = absurd (subst⁻¹ T e tt)
same_equal (a ∷ s) (b ∷ t) e =
    ap₂ (λ (x : ℕ) (l : List ℕ). x ∷ l) (eqb-true a b (both_left (eqb a b) (same s t) e)) (same_equal s t (both_right (eqb a b) (same s t) e))

pub equal_same : (s : List ℕ) → same s s ≡ true
equal_same [] = refl
equal_same (a ∷ s) = rw (eq-eqb a a refl) (equal_same s)
