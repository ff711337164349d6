-- Worked cases: document 01's network is good, and so are one of prefix 8 and one of 30; 255.0.255.0 is no mask, and prefixes of 7 and 31 are none.
use Prim.Native.Nat.{ℕ, ◌-◌, ◌^◌}
use mathlib.Core.Bool.{false}
use mathlib.Core.Path.{◌≡◌, refl, sym, ap, ◌∙◌}
use mathlib.Core.List.{[], ◌∷◌}
use native.Mathlib.Omega.{arith}
use borrow.Author.Tests.{eqb-false}
use lib.Count.{count_leading_zeros}
use lib.Dec.{eqb}
use Rattle.record.specs.Network.{document01, number}
use Rattle.good_network.specs.Good.{Between, Good, size}
use Rattle.making.specs.Making.{GoodNetwork}
use Rattle.good_network.proofs.Masks.{leading_are}

-- a place that is neither, by computation
between : (place highest : ℕ) → eqb place 0 ≡ false → eqb place highest ≡ false → Between place highest
between place highest low high = record { not_lowest = eqb-false place 0 low; not_highest = eqb-false place highest high }

pub document01_good : GoodNetwork document01.gateway document01.guest document01.mask
document01_good =
    record { prefix = 24; contiguous = refl; least = omega arith; most = omega arith; differ = eqb-false _ _ refl; share = refl; gateway_between = between _ _ refl refl; guest_between = between _ _ refl refl }

-- 10.0.0.1 and 10.255.255.254, the outermost under 255.0.0.0
pub prefix_8_good : GoodNetwork (10 ∷ 0 ∷ 0 ∷ 1 ∷ []) (10 ∷ 255 ∷ 255 ∷ 254 ∷ []) (255 ∷ 0 ∷ 0 ∷ 0 ∷ [])
prefix_8_good =
    record { prefix = 8; contiguous = refl; least = omega arith; most = omega arith; differ = eqb-false _ _ refl; share = refl; gateway_between = between _ _ refl refl; guest_between = between _ _ refl refl }

-- 192.0.2.2 and 192.0.2.1, the only two under 255.255.255.252
pub prefix_30_good : GoodNetwork (192 ∷ 0 ∷ 2 ∷ 2 ∷ []) (192 ∷ 0 ∷ 2 ∷ 1 ∷ []) (255 ∷ 255 ∷ 255 ∷ 252 ∷ [])
prefix_30_good =
    record { prefix = 30; contiguous = refl; least = omega arith; most = omega arith; differ = eqb-false _ _ refl; share = refl; gateway_between = between _ _ refl refl; guest_between = between _ _ refl refl }

module _ (gateway guest : ℕ) where
  -- 16 ones, of which 8 lead
  pub hole_is_bad : Good gateway guest (number (255 ∷ 0 ∷ 255 ∷ 0 ∷ [])) → ⊥
  unfolding count_leading_zeros
  hole_is_bad g =
      let eight : 8 ≡ g.prefix = leading_are g.contiguous g.most in
      eqb-false _ _ refl (g.contiguous ∙ ap (λ (p : ℕ). 2 ^ 32 - size p) (sym eight))

  pub prefix_31_is_bad : Good gateway guest (number (255 ∷ 255 ∷ 255 ∷ 254 ∷ [])) → ⊥
  unfolding count_leading_zeros
  prefix_31_is_bad g = omega (arith, leading_are g.contiguous g.most)

  pub prefix_7_is_bad : Good gateway guest (number (254 ∷ 0 ∷ 0 ∷ 0 ∷ [])) → ⊥
  unfolding count_leading_zeros
  prefix_7_is_bad g = omega (arith, leading_are g.contiguous g.most)
