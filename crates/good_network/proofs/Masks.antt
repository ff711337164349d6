-- A mask of `p` ones and then `k` zeros: its ones and its leading ones are `p`, and no other mask has as many of both. What `and` with it
-- leaves of an address.
use Prim.Native.Nat.{ℕ, ◌+◌, ◌-◌, ◌*◌, ◌/◌, ◌%◌, ◌^◌, ◌≤◌, ◌<◌}
use mathlib.Core.Path.{◌≡◌, refl, sym, ap, subst, ◌∙◌}
use native.Mathlib.Nat.{add-zero}
use native.Mathlib.Omega.{arith}
use lib.Arith.{bin_ind}
use lib.Bits.{bit_and, and_mask, and_high}
use lib.Count.{ones, ones_step, ones_cat, ones-ones, count_leading_zeros, leading_length, leading_unique}
use lib.Pow.{pow_pos, pow_mono, ones_lt, high_ones, shr_mod, shl-shr}
use Rattle.good_network.specs.Good.{size, Between}

-- no digit is set in 0 alone
no_ones : (n : ℕ) → ones n ≡ 0 → n ≡ 0
no_ones = bin_ind (λ (n : ℕ). ones n ≡ 0 → n ≡ 0) (λ _. refl) (λ n rest e.
    let s = ones_step n in
    let half = rest (omega arith) in omega arith)

module _ (p k : ℕ) (whole : p + k ≡ 32) where
  abbrev mask : ℕ
  mask = 2 ^ 32 - 2 ^ k

  split : mask ≡ (2 ^ p - 1) * 2 ^ k
  split = ap (λ (n : ℕ). 2 ^ n - 2 ^ k) (sym whole) ∙ high_ones p k

  -- so many ones, of the whole mask and at its front
  count : ones mask ≡ p
  unfolding ones
  count = ap ones (split ∙ sym (add-zero _)) ∙ ones_cat k (2 ^ p - 1) 0 (pow_pos k) ∙ omega (arith, ones-ones p)

  rest : 2 ^ 32 - 1 - mask ≡ 2 ^ k - 1
  rest = omega (arith, pow_mono {i = k} {j = 32} (omega arith), pow_pos k)

  leading : count_leading_zeros 32 (2 ^ k - 1) ≡ p
  leading = sym (leading_unique 32 (2 ^ k - 1) p k whole (ones_lt k) (omega (arith, pow_pos k)))

  network : (a : ℕ) → a < 2 ^ 32 → bit_and a mask ≡ a / 2 ^ k * 2 ^ k
  network a h = ap (λ (n : ℕ). bit_and a (2 ^ n - 2 ^ k)) (sym whole) ∙ and_high a p k
      ∙ ap (λ (n : ℕ). n * 2 ^ k) (shr_mod p k (subst (λ (n : ℕ). a < 2 ^ n) (sym whole) h))

  -- no other number has these leading ones and as many ones
  alone : (m : ℕ) → 2 ^ 32 - 1 - m < 2 ^ k → m < 2 ^ 32 → ones m ≡ p → m ≡ mask
  alone m h fits e =
      let few = pow_mono {i = k} {j = 32} (omega arith) in
      let parts : m ≡ (2 ^ p - 1) * 2 ^ k + (m - mask) = omega (arith, split) in
      let none = no_ones (m - mask) (omega (arith, ap ones parts ∙ ones_cat k (2 ^ p - 1) (m - mask) (omega arith), ones-ones p)) in
      omega arith

-- as many leading ones as ones: the mask is these ones, and then zeros
pub found : (m : ℕ) → m < 2 ^ 32 → ones m ≡ count_leading_zeros 32 (2 ^ 32 - 1 - m) → m ≡ 2 ^ 32 - size (ones m)
found m h e =
    let s = leading_length 32 (2 ^ 32 - 1 - m) (omega arith) in
    alone (ones m) s.0 (ap (λ (n : ℕ). n + s.0) e ∙ s.1) m s.2 h refl ∙ ap (λ (k : ℕ). 2 ^ 32 - 2 ^ k) (omega (arith, e, s.1))

-- of a mask that is so: what the tests find
module _ {m p : ℕ} (e : m ≡ 2 ^ 32 - size p) (most : p ≤ 30) where
  whole : p + (32 - p) ≡ 32
  whole = omega arith

  pub ones_are : ones m ≡ p
  ones_are = ap ones e ∙ count p (32 - p) whole

  highest_is : 2 ^ 32 - 1 - m ≡ size p - 1
  highest_is = ap (λ (n : ℕ). 2 ^ 32 - 1 - n) e ∙ rest p (32 - p) whole

  pub leading_are : count_leading_zeros 32 (2 ^ 32 - 1 - m) ≡ p
  leading_are = ap (count_leading_zeros 32) highest_is ∙ leading p (32 - p) whole

  network_is : (a : ℕ) → a < 2 ^ 32 → bit_and a m ≡ a / size p * size p
  network_is a h = ap (bit_and a) e ∙ network p (32 - p) whole a h

  pub share_to : {a b : ℕ} → a < 2 ^ 32 → b < 2 ^ 32 → a / size p ≡ b / size p → bit_and a m ≡ bit_and b m
  share_to {a} {b} ha hb s = network_is a ha ∙ ap (λ (n : ℕ). n * size p) s ∙ sym (network_is b hb)

  pub share_of : {a b : ℕ} → a < 2 ^ 32 → b < 2 ^ 32 → bit_and a m ≡ bit_and b m → a / size p ≡ b / size p
  share_of {a} {b} ha hb s =
      sym (shl-shr (a / size p) (32 - p))
      ∙ ap (λ (n : ℕ). n / size p) (sym (network_is a ha) ∙ s ∙ network_is b hb)
      ∙ shl-shr (b / size p) (32 - p)

  place_is : (a : ℕ) → bit_and a (2 ^ 32 - 1 - m) ≡ a % size p
  place_is a = ap (bit_and a) highest_is ∙ and_mask a (32 - p)

  pub between_to : (a : ℕ) → Between (a % size p) (size p - 1) → Between (bit_and a (2 ^ 32 - 1 - m)) (2 ^ 32 - 1 - m)
  between_to a b = record { not_lowest = λ q. b.not_lowest (sym (place_is a) ∙ q); not_highest = λ q. b.not_highest (sym (place_is a) ∙ q ∙ highest_is) }

  pub between_of : (a : ℕ) → Between (bit_and a (2 ^ 32 - 1 - m)) (2 ^ 32 - 1 - m) → Between (a % size p) (size p - 1)
  between_of a b = record { not_lowest = λ q. b.not_lowest (place_is a ∙ q); not_highest = λ q. b.not_highest (place_is a ∙ q ∙ sym highest_is) }
