-- `mark` meets its contract. The invariant: the blocks before `at` are marked, and no other bit is changed.
use Prim.Native.Nat.{ℕ, ◌+◌, ◌-◌, ◌*◌, ◌≤◌}
use mathlib.Core.Path.{◌≡◌}
use lib.ListN.{length}
use Rattle.bitmap.specs.Bitmap.{bit, having}
use Rattle.bitmap.proofs.WordsLeft.{words_left}
use Rattle.bitmap.proofs.mark.Given as goal

abbrev pub invariant-loop-at : goal.invariant-loop-at
invariant-loop-at l =
    ((b : ℕ) → bit l.bits b ≡ having (bit l.initial.bits) l.first l.at b)
    × (length l.bits ≡ length l.initial.bits) × (l.first ≤ l.at) × (l.at ≤ l.stop + (l.first - l.stop)) × (l.stop ≤ length l.initial.bits * 64)

-- at the start it is the number of turns
abbrev pub decreases-loop-at : goal.decreases-loop-at
decreases-loop-at l = words_left l.at l.stop
