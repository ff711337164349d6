-- What a stored fragment leaves in the store: its blocks are there, and the others are as they were.
use Prim.Native.Nat.{ℕ, ◌≤◌, ◌<◌}
use mathlib.Core.Path.{◌≡◌}
use native.Mathlib.Omega.{arith}
use Rattle.bitmap.specs.Bitmap.{having}
use Rattle.bitmap.proofs.Blocks.{inside, below, above, Where, before, within, behind, where_is}

module _ (there : ℕ → ℕ) (first stop b : ℕ) where
  -- a block of those that have come, or another
  pub data Block : Type 0 where
    of_it : first ≤ b → b < stop → having there first stop b ≡ 1 → Block
    other : (first ≤ b → stop ≤ b) → having there first stop b ≡ there b → Block

  -- every block is one of the two
  pub block : Block
  block = go (where_is first stop b)
    where
      go : Where first stop b → Block
      go (before h) = other (λ l. absurd (omega arith)) (below there first stop b h)
      go (within l u) = of_it l u (inside there first stop b l u)
      go (behind l u) = other (λ h. u) (above there first stop b u)

  -- it is there or not, then as before
  pub having_at_most_1 : there b ≤ 1 → having there first stop b ≤ 1
  having_at_most_1 h = go block
    where
      go : Block → having there first stop b ≤ 1
      go (of_it l u e) = omega arith
      go (other out e) = omega arith
