-- The broadcast address of a good network is its highest: under the prefix's bits of the guest's address all bits are set.
use Prim.Native.Nat.{ℕ, ◌+◌, ◌-◌, ◌*◌, ◌/◌, ◌^◌}
use mathlib.Core.Path.{◌≡◌, ap, subst, ◌∙◌}
use native.Mathlib.Omega.{arith}
use lib.Bits.{bit_or, or_add_and, and_mask, mask_lt}
use lib.Pow.{pow_pos, pow_mono, ones_lt, split, high}
use Rattle.base.specs.Bytes.{be32}
use Rattle.record.specs.Network.{broadcast, broadcast_of, number}
use Rattle.record.specs.declared.network.Network.{Network}
use Rattle.good_network.specs.Good.{size, Good, Highest}
use Rattle.making.specs.Making.{GoodNetwork}

-- `a` with its last k bits set
module _ (a k : ℕ) where
  set_bits : bit_or a (2 ^ k - 1) ≡ a / 2 ^ k * 2 ^ k + (2 ^ k - 1)
  set_bits = omega (arith, or_add_and a (2 ^ k - 1), and_mask a k, split a k)

-- a number, back from its four bytes
number_back : (n : ℕ) → n ≡ number (be32 n)
number_back n = omega arith

module _ {gateway guest mask : ℕ} (g : Good gateway guest mask) where
  pub broadcast_is : broadcast guest mask ≡ guest / size g.prefix * size g.prefix + (size g.prefix - 1)
  broadcast_is =
      ap (bit_or guest) (omega (arith, g.contiguous, pow_pos (32 - g.prefix), pow_mono {i = 32 - g.prefix} {j = 32} (omega arith)))
      ∙ set_bits guest (32 - g.prefix)

  pub broadcast_highest : Highest g.prefix guest (broadcast guest mask)
  broadcast_highest =
      let s = 32 - g.prefix in
      record {
        of_network = ap (λ (n : ℕ). n / size g.prefix) broadcast_is ∙ high (guest / size g.prefix) s (ones_lt s);
        none_higher = λ address e. omega (arith, broadcast_is, split address s, mask_lt address s, and_mask address s, ap (λ (n : ℕ). n * size g.prefix) e);
      }

-- The address that stands in a reply: where a record's network is good, its broadcast address is its highest.
pub broadcast_of_highest : (net : Network) (g : GoodNetwork net.gateway net.guest net.mask) → Highest g.prefix (number net.guest) (number (broadcast_of net))
broadcast_of_highest net g = subst (Highest g.prefix (number net.guest)) (number_back (broadcast (number net.guest) (number net.mask))) (broadcast_highest g)
