-- `plain` meets its contract. The invariant: what is folded so far and the sum of the words that are left fold as the whole.
use Rattle.std.proofs.Common.{◌≡◌, ◌+◌, ◌-◌, ◌/◌, ◌≤◌, length, drop, flat_map}
use Rattle.sums.specs.Rfc1071.{total, fold}
use Rattle.sums.proofs.plain.Given as goal

abbrev pub invariant-loop-word : goal.invariant-loop-word
invariant-loop-word l =
    (fold (l.so_far + total (flat_map (λ word. word) (drop l.word-index l.words))) ≡ fold (l.start + total (flat_map (λ word. word) l.words)))
    × (l.so_far ≤ 65535)

-- at the start it is the number of turns
abbrev pub decreases-loop-word : goal.decreases-loop-word
decreases-loop-word l = length l.input / 2 - l.word-index
