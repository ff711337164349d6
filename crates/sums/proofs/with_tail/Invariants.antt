-- `with_tail` meets its contract. The invariant: 256 times the running total and the sum of the words that are left fold as the whole, and it has grown
-- by 65,535 a word at most.
use Rattle.std.proofs.Common.{◌≡◌, ◌+◌, ◌-◌, ◌*◌, ◌/◌, ◌≤◌, length, drop, flat_map}
use Rattle.sums.specs.Rfc1071.{total, fold}
use Rattle.sums.proofs.with_tail.Given as goal

abbrev pub invariant-loop-word : goal.invariant-loop-word
invariant-loop-word l =
    (fold (l.running * 256 + total (flat_map (λ word. word) (drop l.word-index l.words))) ≡ fold (l.so_far * 256 + total (flat_map (λ word. word) l.words)))
    × (l.running ≤ l.so_far + 65535 * l.word-index)

-- at the start it is the number of turns
abbrev pub decreases-loop-word : goal.decreases-loop-word
decreases-loop-word l = length l.rest / 2 - l.word-index
