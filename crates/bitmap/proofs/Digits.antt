-- The digits of a word: a run of ones, what `or` with it sets, and how many of the low digits are set. By induction on the digits.
use Prim.Native.Nat.{ℕ, zero, suc, ◌+◌, ◌-◌, ◌*◌, ◌/◌, ◌%◌, ◌^◌, ◌≤◌, ◌<◌}
use mathlib.Core.Path.{◌≡◌, refl, sym, ap, ap₂, ◌∙◌}
use native.Mathlib.Nat.{mod-lt, mod-one, mul-one, zero-lt-suc, suc-add, le_trans, le_of_eq, le_of_suc-le-suc, not-suc-le-zero}
use native.Mathlib.Numerals.{add-one}
use native.Mathlib.Omega.{arith}
use lib.Bits.{bit_or, or_shr, or_mod, or_zero_r, shifted_half, shifted_even}
use lib.Count.{ones, ones_in, ones_step}
use lib.Pow.{field, mod-mod-pow, shr-shr, ones_split, high, low, ones_lt}

-- digit `i` of a number
abbrev pub digit : ℕ → ℕ → ℕ
digit x i = x / 2 ^ i % 2

-- the digits of a number above its lowest are those of its half
digit_suc : (x i : ℕ) → digit x (suc i) ≡ digit (x / 2) i
digit_suc x i = ap (λ (k : ℕ). x / 2 ^ k % 2) (omega arith) ∙ ap (λ (y : ℕ). y % 2) (sym (shr-shr x 1 i))

-- how many of the `n` lowest digits are set
pub ones_of_lowest : (n x : ℕ) → ones (x % 2 ^ n) ≡ ones_in n x
unfolding ones ones_in
ones_of_lowest zero x = ap ones (mod-one x)
ones_of_lowest (suc n) x =
    ones_step (x % 2 ^ suc n)
    ∙ ap₂ (λ (a b : ℕ). a + ones b)
    (ap (λ (k : ℕ). x % 2 ^ k % 2) (sym (add-one n)) ∙ mod-mod-pow x n 1)
    (ap (λ (k : ℕ). x % 2 ^ k / 2) (sym (add-one n)) ∙ field x n 1)
    ∙ ap (λ (k : ℕ). x % 2 + k) (ones_of_lowest n (x / 2))

-- the word of `n` ones: its half has one fewer, and it is odd
ones_half : (n : ℕ) → (2 ^ suc n - 1) / 2 ≡ 2 ^ n - 1
ones_half n = ap (λ (k : ℕ). (2 ^ k - 1) / 2) (sym (add-one n)) ∙ ap (λ (x : ℕ). x / 2) (ones_split n 1) ∙ high (2 ^ n - 1) 1 (ones_lt 1)

ones_odd : (n : ℕ) → (2 ^ suc n - 1) % 2 ≡ 1
ones_odd n = ap (λ (k : ℕ). (2 ^ k - 1) % 2) (sym (add-one n)) ∙ ap (λ (x : ℕ). x % 2) (ones_split n 1) ∙ low (2 ^ n - 1) 1 (ones_lt 1)

digit_of_zero : (i : ℕ) → digit 0 i ≡ 0
digit_of_zero zero = refl
digit_of_zero (suc i) = digit_suc 0 i ∙ digit_of_zero i

-- its digits: ones below `n`, and zeros from there on
ones_below : (n i : ℕ) → i < n → digit (2 ^ n - 1) i ≡ 1
ones_below zero i h = absurd (not-suc-le-zero h)
ones_below (suc n) zero h = ap (λ (x : ℕ). x % 2) (omega arith) ∙ ones_odd n
ones_below (suc n) (suc i) h = digit_suc (2 ^ suc n - 1) i ∙ ap (λ (x : ℕ). digit x i) (ones_half n) ∙ ones_below n i (le_of_suc-le-suc h)

ones_above : (n i : ℕ) → n ≤ i → digit (2 ^ n - 1) i ≡ 0
ones_above zero i h = digit_of_zero i
ones_above (suc n) zero h = absurd (not-suc-le-zero h)
ones_above (suc n) (suc i) h = digit_suc (2 ^ suc n - 1) i ∙ ap (λ (x : ℕ). digit x i) (ones_half n) ∙ ones_above n i (le_of_suc-le-suc h)

-- `n` ones with `lo` zeros below them: its lowest digit, and the others
abbrev pub run : (lo n : ℕ) → ℕ
run lo n = (2 ^ n - 1) * 2 ^ lo

digit_of_run : (lo n i : ℕ) → digit (run (suc lo) n) (suc i) ≡ digit (run lo n) i
digit_of_run lo n i = digit_suc (run (suc lo) n) i ∙ ap (λ (x : ℕ). digit x i) (shifted_half (2 ^ n - 1) lo)

run_of_ones : (n i : ℕ) → digit (run 0 n) i ≡ digit (2 ^ n - 1) i
run_of_ones n i = ap (λ (x : ℕ). digit x i) (mul-one (2 ^ n - 1))

run_inside : (lo n i : ℕ) → lo ≤ i → i < lo + n → digit (run lo n) i ≡ 1
run_inside zero n i h k = run_of_ones n i ∙ ones_below n i (omega arith)
run_inside (suc lo) n zero h k = absurd (not-suc-le-zero h)
run_inside (suc lo) n (suc i) h k = digit_of_run lo n i ∙ run_inside lo n i (le_of_suc-le-suc h) (omega arith)

run_below : (lo n i : ℕ) → i < lo → digit (run lo n) i ≡ 0
run_below zero n i h = absurd (not-suc-le-zero h)
run_below (suc lo) n zero h = ap (λ (x : ℕ). x % 2) (omega arith) ∙ shifted_even (2 ^ n - 1) lo
run_below (suc lo) n (suc i) h = digit_of_run lo n i ∙ run_below lo n i (le_of_suc-le-suc h)

run_above : (lo n i : ℕ) → lo + n ≤ i → digit (run lo n) i ≡ 0
run_above zero n i h = run_of_ones n i ∙ ones_above n i (omega arith)
run_above (suc lo) n zero h = absurd (not-suc-le-zero (le_trans (le_of_eq (sym (suc-add lo n))) h))
run_above (suc lo) n (suc i) h = digit_of_run lo n i ∙ run_above lo n i (omega arith)

-- `or`, digit by digit
or_digit : (x m i : ℕ) → digit (bit_or x m) i ≡ bit_or (digit x i) (digit m i)
or_digit x m i = ap (λ (y : ℕ). y % 2) (or_shr x m i) ∙ or_mod (x / 2 ^ i) (m / 2 ^ i) 1

or_one : (d : ℕ) → d < 2 → bit_or d 1 ≡ 1
or_one zero h = refl
or_one (suc zero) h = refl
or_one (suc (suc d)) h = absurd (not-suc-le-zero (le_of_suc-le-suc (le_of_suc-le-suc h)))

-- what `or` with the run sets, and what it leaves
pub or_inside : (x lo n i : ℕ) → lo ≤ i → i < lo + n → digit (bit_or x (run lo n)) i ≡ 1
or_inside x lo n i h k = or_digit x (run lo n) i ∙ ap (bit_or (digit x i)) (run_inside lo n i h k) ∙ or_one (digit x i) (mod-lt (x / 2 ^ i) (zero-lt-suc 1))

pub or_below : (x lo n i : ℕ) → i < lo → digit (bit_or x (run lo n)) i ≡ digit x i
or_below x lo n i h = or_digit x (run lo n) i ∙ ap (bit_or (digit x i)) (run_below lo n i h) ∙ or_zero_r (digit x i)

pub or_above : (x lo n i : ℕ) → lo + n ≤ i → digit (bit_or x (run lo n)) i ≡ digit x i
or_above x lo n i h = or_digit x (run lo n) i ∙ ap (bit_or (digit x i)) (run_above lo n i h) ∙ or_zero_r (digit x i)
