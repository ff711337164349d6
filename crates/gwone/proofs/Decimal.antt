-- A number's decimal digits, taken one by one from its end.
use Prim.Native.Nat.{ℕ, zero, suc, ◌+◌, ◌/◌, ◌%◌, ◌^◌, ◌-◌, ◌≤◌, ◌<◌}
use mathlib.Core.Path.{◌≡◌, refl, ap, sym, ◌∙◌}
use mathlib.Core.List.{List, [], ◌∷◌, ◌++◌, append_assoc}
use mathlib.Core.Bool.{Bool, true, false}
use native.Mathlib.Nat.{pow-suc, div-lt_iff_lt-mul}
use native.Mathlib.Omega.{arith}
use borrow.Author.Tests.{lt-ltb, le-ltb, ltb-false}
use lib.Dec.{lit<, ltb}
use lib.ListN.{length, drop, set}
use Rattle.std.proofs.lemmas.List.{drop-set}
use Rattle.gwone.specs.Text.{glyph, decimal, decimal_within}

longer : (a b n : ℕ) (small : Bool) → ltb n 10 ≡ small → (10 ≤ n → decimal_within a (n / 10) ≡ decimal_within b (n / 10))
    → decimal_within (suc a) n ≡ decimal_within (suc b) n
longer a b n true e fewer = simp e
longer a b n false e fewer = simp e (ap (λ (l : List ℕ). l ++ (glyph (n % 10) ∷ [])) (fewer (ltb-false n 10 e)))

-- the bound of the recursion doesn't matter where it is bound enough
same : (a b n : ℕ) → n ≤ a → n ≤ b → decimal_within a n ≡ decimal_within b n
same zero zero n h k = refl
same zero (suc b) n h k = simp (lt-ltb n 10 (omega arith))
same (suc a) zero n h k = simp (lt-ltb n 10 (omega arith))
same (suc a) (suc b) n h k = longer a b n (ltb n 10) refl (λ large. same a b (n / 10) (omega arith) (omega arith))

pub one_digit : (n : ℕ) → n < 10 → decimal n ≡ glyph n ∷ []
unfolding decimal
one_digit n small = same n (suc n) n (omega arith) (omega arith) ∙ simp (lt-ltb n 10 small)

-- a number of two digits or more ends with its last digit
pub last_digit : (n : ℕ) → 10 ≤ n → decimal n ≡ decimal (n / 10) ++ (glyph (n % 10) ∷ [])
unfolding decimal
last_digit n large =
    same n (suc n) n (omega arith) (omega arith)
    ∙ simp (le-ltb n 10 large) (ap (λ (l : List ℕ). l ++ (glyph (n % 10) ∷ [])) (same n (n / 10) (n / 10) (omega arith) (omega arith)))

-- Digits at the end of a buffer, from `start` on, and before them a number that is still to be laid.
module _ (number rest start : ℕ) (digits : List ℕ) (inside : start ≤ length digits) (so_far : decimal number ≡ decimal rest ++ drop start digits) where
  -- a digit is laid before them
  laid : (digit : ℕ) → 0 < start → drop (start - 1) (set digits (start - 1) digit) ≡ digit ∷ drop start digits
  laid digit some =
      drop-set digits (start - 1) digit (omega arith) ∙ (let e : start - 1 + 1 ≡ start = omega arith in ap (λ m. digit ∷ drop m digits) e)

  pub more_laid : 0 < start → 10 ≤ rest → decimal number ≡ decimal (rest / 10) ++ drop (start - 1) (set digits (start - 1) (glyph (rest % 10)))
  more_laid some large =
      so_far
      ∙ ap (λ l. l ++ drop start digits) (last_digit rest large)
      ∙ append_assoc (decimal (rest / 10)) (glyph (rest % 10) ∷ []) (drop start digits)
      ∙ ap (λ l. decimal (rest / 10) ++ l) (sym (laid (glyph (rest % 10)) some))

  pub all_laid : 0 < start → rest < 10 → drop (start - 1) (set digits (start - 1) (glyph rest)) ≡ decimal number
  all_laid some small = laid (glyph rest) some ∙ ap (λ l. l ++ drop start digits) (sym (one_digit rest small)) ∙ sym so_far

-- a number of that many digits at most has one fewer without its last one
pub one_fewer : (rest start : ℕ) → rest < 10 ^ start → 10 ≤ rest → (2 ≤ start) × (rest / 10 < 10 ^ (start - 1))
one_fewer rest zero few large = absurd (omega arith)
one_fewer rest (suc zero) few large = absurd (omega arith)
one_fewer rest (suc (suc i)) few large = (omega arith, let e : suc (suc i) - 1 ≡ suc i = omega arith in rw e ((div-lt_iff_lt-mul (lit< tt)).1 (rw pow-suc at few)))
