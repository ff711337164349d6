-- What a count of blocks says of them: none, all, or one missing. By induction over the blocks.
use Prim.Native.Nat.{ℕ, zero, suc, ◌+◌, ◌≤◌, ◌<◌}
use mathlib.Core.Path.{◌≡◌, refl, sym, subst}
use mathlib.Core.List.{List}
use native.Mathlib.Omega.{arith}
use native.Mathlib.Decide.{dec_lt}
use Rattle.bitmap.specs.Bitmap.{bit, count}

-- a block is there or not
pub bit_at_most_1 : (bits : List ℕ) (b : ℕ) → bit bits b ≤ 1
unfolding bit
bit_at_most_1 bits b = omega arith

-- no block of the range is there
pub count_none : (there : ℕ → ℕ) (first n : ℕ) → ((b : ℕ) → first ≤ b → b < first + n → there b ≡ 0) → count there first n ≡ 0
unfolding count
count_none there first zero h = refl
count_none there first (suc n) h = omega (arith, h first (omega arith) (omega arith), count_none there (suc first) n (λ b l u. h b (omega arith) (omega arith)))

-- each is
pub count_all : (there : ℕ → ℕ) (first n : ℕ) → ((b : ℕ) → first ≤ b → b < first + n → there b ≡ 1) → count there first n ≡ n
unfolding count
count_all there first zero h = refl
count_all there first (suc n) h = omega (arith, h first (omega arith) (omega arith), count_all there (suc first) n (λ b l u. h b (omega arith) (omega arith)))

module _ (there : ℕ → ℕ) (at_most_1 : (b : ℕ) → there b ≤ 1) where
  -- no more than there are
  count_at_most : (first n : ℕ) → count there first n ≤ n
  unfolding count
  count_at_most first zero = omega arith
  count_at_most first (suc n) = omega (arith, at_most_1 first, count_at_most (suc first) n)

  -- one is missing
  pub count_missing : (first n b : ℕ) → first ≤ b → b < first + n → there b ≡ 0 → count there first n < n
  unfolding count
  count_missing first zero b l u e = absurd (omega arith)
  count_missing first (suc n) b l u e = go (dec_lt first b) (λ h. count_missing (suc first) n b h (omega arith) e)
    where
      go : Dec (first < b) → (first < b → count there (suc first) n < n) → there first + count there (suc first) n < suc n
      go (yes h) later = omega (arith, at_most_1 first, later h)
      go (no h) later =
          let same : first ≡ b = omega arith in
          omega (arith, subst (λ (k : ℕ). there k ≡ 0) (sym same) e, count_at_most (suc first) n)
