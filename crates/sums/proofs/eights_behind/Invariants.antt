-- `eights_behind` meets its contract. The invariant: there is a sum of the lower halves, which the sum of all tells; 256 times the sums so far and the
-- sum of what is left fold as the whole; and each is as large as as many halves can be at most, the lower ones with what was there before.
use Rattle.std.proofs.Common.{◌≡◌, ℕ, ◌+◌, ◌-◌, ◌*◌, ◌%◌, ◌^◌, ◌≤◌, List, length, drop, flat_map}
use Rattle.sums.specs.Folding.{most_behind, most_upper}
use Rattle.sums.specs.Rfc1071.{total, fold}
use Rattle.sums.proofs.eights_behind.Given as goal

pub record Halves (so_far : ℕ) (eights : List (List ℕ)) (all upper k : ℕ) : Type 0 where
  pub lower : ℕ
  pub tells : all ≡ (lower + upper * 2 ^ 32) % 2 ^ 64
  pub folds : fold ((lower + upper) * 256 + total (flat_map (λ eight. eight) (drop k eights))) ≡ fold (so_far * 256 + total (flat_map (λ eight. eight) eights))
  pub lower-le : lower ≤ most_behind k
  pub upper-le : upper ≤ most_upper k

abbrev pub invariant-loop-eight : goal.invariant-loop-eight
invariant-loop-eight l = Halves l.so_far l.eights l.all l.upper l.eight-index

-- at the start it is the number of turns
abbrev pub decreases-loop-eight : goal.decreases-loop-eight
decreases-loop-eight l = length l.eights - l.eight-index
