-- The fewest digits that hold a number are its decimal digits: by induction, a digit at a time from the last. What is said of digits in any base
-- is as the older kit said it.
use Prim.Native.Nat.{ℕ, zero, suc, ◌/◌, ◌%◌, ◌^◌, ◌-◌, ◌≤◌, ◌<◌}
use mathlib.Core.Path.{◌≡◌, refl, ap, subst, ◌∙◌}
use mathlib.Core.List.{List, [], ◌∷◌, ◌++◌}
use mathlib.Core.Bool.{Bool, true, false, cond}
use native.Mathlib.Nat.{pow-suc, pow-le-pow_right, mod-eq_of_lt, le-div_iff_mul-le, div-lt_iff_lt-mul, lt_of_not-le}
use native.Mathlib.Omega.{arith}
use borrow.Author.Tests.{ltb-true, ltb-false}
use lib.Dec.{lit<, ltb}
use Rattle.gwone.specs.Text.{glyph, decimal, decimal_within}

-- the last k digits of n in base b, the most significant first
abbrev pub last_digits : ℕ → ℕ → ℕ → List ℕ
last_digits b zero n = []
last_digits b (suc k) n = last_digits b k (n / b) ++ (glyph (n % b) ∷ [])

-- n takes k digits in base b, when padded to `width` digits
abbrev pub IsDigitCount : ℕ → ℕ → ℕ → ℕ → Type 0
IsDigitCount b width n k = (width ≤ k) × (n < b ^ k) × (width < k → b ^ (k - 1) ≤ n)

-- a number of two digits and more is at least 10 to the power of the digits before its last
no_less : (n i : ℕ) → IsDigitCount 10 1 n (suc (suc i)) → 10 ^ suc i ≤ n
no_less n i f = let e : suc (suc i) - 1 ≡ suc i = omega arith in rw e at (f.2 (omega arith))

-- a number below 10 has one digit
one_digit : (n k : ℕ) → n < 10 → IsDigitCount 10 1 n k → last_digits 10 k n ≡ glyph n ∷ []
one_digit n zero small f = absurd (omega arith)
one_digit n (suc zero) small f = rw (mod-eq_of_lt small)
one_digit n (suc (suc i)) small f = absurd (omega (arith, no_less n i f, pow-le-pow_right {n = 10} (lit< tt) {i = 1} {j = suc i} (omega arith)))

-- without its last digit a number has one digit fewer
one_fewer : (n j : ℕ) → 10 ≤ n → IsDigitCount 10 1 n (suc j) → IsDigitCount 10 1 (n / 10) j
one_fewer n zero large f = absurd (omega arith)
one_fewer n (suc i) large f = (
  omega arith,
  (div-lt_iff_lt-mul (lit< tt)).1 (rw pow-suc at f.1),
  λ more. (le-div_iff_mul-le (lit< tt)).1 (subst (λ (m : ℕ). m ≤ n) (ap (λ (m : ℕ). 10 ^ m) (omega arith) ∙ pow-suc 10 (suc i - 1)) (no_less n i f)),
)

-- the last digit, and in front of it those of the rest
last_digit : (most n j : ℕ) (small : Bool) → ltb n 10 ≡ small → IsDigitCount 10 1 n (suc j)
    → (10 ≤ n → last_digits 10 j (n / 10) ≡ decimal_within most (n / 10))
    → last_digits 10 (suc j) n ≡ cond small (glyph n ∷ []) (decimal_within most (n / 10) ++ (glyph (n % 10) ∷ []))
last_digit most n j true e f rest = one_digit n (suc j) (ltb-true n 10 e) f
last_digit most n j false e f rest = ap (λ (l : List ℕ). l ++ (glyph (n % 10) ∷ [])) (rest (ltb-false n 10 e))

within : (most n k : ℕ) → n ≤ most → IsDigitCount 10 1 n k → last_digits 10 k n ≡ decimal_within most n
within zero n k le f = one_digit n k (omega arith) f
within (suc most) n zero le f = absurd (omega arith)
within (suc most) n (suc j) le f = last_digit most n j (ltb n 10) refl f (λ large. within most (n / 10) j (omega arith) (one_fewer n j large f))

pub fewest_decimal : (n k : ℕ) → IsDigitCount 10 1 n k → last_digits 10 k n ≡ decimal n
unfolding decimal
fewest_decimal n k f = within n n k (omega arith) f

-- a number of 64 bits has no more than 20 digits
pub at_most_20 : (n k : ℕ) → n < 2 ^ 64 → IsDigitCount 10 1 n k → k ≤ 20
at_most_20 n k small f =
    let under : k < 21 = lt_of_not-le (λ more. omega (arith, f.2 (omega arith), pow-le-pow_right {n = 10} (lit< tt) {i = 20} {j = k - 1} (omega arith))) in
    omega arith
