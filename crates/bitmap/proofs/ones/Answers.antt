-- `ones` meets its contract: the mask leaves the remainder by 2 ^ n, and its ones are those of the low digits.
use Prim.Native.Nat.{ℕ, ◌-◌, ◌%◌, ◌^◌, ◌≤◌}
use mathlib.Core.Path.{◌≡◌, sym, ap, subst, ◌∙◌}
use native.Mathlib.Nat.{mod-lt}
use native.Mathlib.Omega.{arith}
use lib.Bits.{bit_and, and_mask}
use lib.Count.{ones, ones_in, ones-le}
use lib.Pow.{pow_pos}
use Rattle.bitmap.proofs.Digits.{ones_of_lowest}
use Rattle.bitmap.proofs.ones.Goals as goal

module _ (word n : ℕ) {mask : ℕ} (e : mask ≡ 2 ^ n - 1) where
  masked : bit_and word mask ≡ word % 2 ^ n
  masked = ap (bit_and word) e ∙ and_mask word n

  counted : ones (bit_and word mask) ≡ ones_in n word
  counted = ap ones masked ∙ ones_of_lowest n word

  few : ones (bit_and word mask) ≤ n
  few = subst (λ (x : ℕ). ones x ≤ n) (sym masked) (ones-le n (word % 2 ^ n) (mod-lt word (pow_pos n)))

pub overflow_cast-result : goal.overflow_cast-result
overflow_cast-result c = record { fits = omega (arith, few c.args.word c.args.n c.lowest.ensures) }

pub returns : goal.returns
returns c = (counted c.args.word c.args.n c.lowest.ensures, few c.args.word c.args.n c.lowest.ensures)
