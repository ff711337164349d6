-- `count` meets its contract. The invariant: what is found, and what is left to count, are the whole.
use Prim.Native.Nat.{◌+◌, ◌-◌, ◌≤◌}
use mathlib.Core.Path.{◌≡◌}
use Rattle.bitmap.specs.Bitmap.{bit, count}
use Rattle.bitmap.proofs.WordsLeft.{words_left}
use Rattle.bitmap.proofs.count.Given as goal

abbrev pub invariant-loop-at : goal.invariant-loop-at
invariant-loop-at l = (l.found + count (bit l.bits) l.at (l.stop - l.at) ≡ count (bit l.bits) l.first (l.stop - l.first)) × (l.found ≤ l.at)

-- at the start it is the number of turns
abbrev pub decreases-loop-at : goal.decreases-loop-at
decreases-loop-at l = words_left l.at l.stop
