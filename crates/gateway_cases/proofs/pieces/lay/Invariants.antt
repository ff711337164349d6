-- `pieces::lay` is safe and ends: each piece read leaves fewer, and what is laid is within the room.
use Rattle.std.proofs.Common.{◌≤◌, ◌≡◌, length}
use Rattle.gateway_cases.proofs.pieces.lay.Given as goal

abbrev pub invariant-loop-left : goal.invariant-loop-left
invariant-loop-left l = (l.len ≤ length l.out) × (length l.out ≡ length l.initial.out)

abbrev pub decreases-loop-left : goal.decreases-loop-left
decreases-loop-left l = length l.left
