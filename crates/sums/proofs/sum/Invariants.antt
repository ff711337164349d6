-- `sums::sum` meets its contract. The invariant: 256 times what is folded so far and the sum of what is left fold as the whole.
use Rattle.std.proofs.Common.{◌≡◌, ◌+◌, ◌-◌, ◌*◌, ◌/◌, length}
use Rattle.sums.specs.Folding.{longest_piece}
use Rattle.sums.specs.Rfc1071.{total, fold}
use Rattle.sums.proofs.sum.Given as goal

abbrev pub invariant-loop-rest : goal.invariant-loop-rest
invariant-loop-rest l = fold (l.so_far * 256 + total l.rest) ≡ fold (l.start + total l.input)

-- at the start it is the number of turns
abbrev pub decreases-loop-rest : goal.decreases-loop-rest
decreases-loop-rest l = (length l.rest - 1) / longest_piece
