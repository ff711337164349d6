-- The two cases of a test: what follows from each follows.
use mathlib.Core.Bool.{Bool, true, false, ◌&&◌, cond}
use mathlib.Core.Path.{◌≡◌, refl, subst⁻¹}
use lib.Dec.{T}

pub by_test : {A : Type 0} (t : Bool) → (t ≡ true → A) → (t ≡ false → A) → A
by_test true held failed = held refl
by_test false held failed = failed refl

-- a choice that comes to what its first arm is not has come to its second
pub second_arm : {A : Type 0} (t : Bool) {x y z : A} → (x ≡ z → ⊥) → cond t x y ≡ z → (t ≡ false) × (y ≡ z)
second_arm true other e = absurd (other e)
second_arm false other e = (refl, e)

-- what two tests together tell
pub both_left : (x y : Bool) → (x && y) ≡ true → x ≡ true
both_left true y e = refl
both_left false y e = e

pub both_right : (x y : Bool) → (x && y) ≡ true → y ≡ true
both_right true y e = e
both_right false y e = absurd (subst⁻¹ T e tt)

pub both : (x y : Bool) → x ≡ true → y ≡ true → (x && y) ≡ true
both true y e f = f
both false y e f = e
