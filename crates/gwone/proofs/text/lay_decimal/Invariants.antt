-- The digits of `rest` and those that are laid, from `start` on, are the number's.
use Rattle.std.proofs.Common.{◌≡◌, ◌^◌, ◌<◌, ◌≤◌, ◌++◌, drop}
use Rattle.gwone.specs.Text.{decimal}
use Rattle.gwone.proofs.text.lay_decimal.Given as goal

abbrev pub invariant-loop-rest : goal.invariant-loop-rest
invariant-loop-rest l = (1 ≤ l.start) × (l.start ≤ 20) × (l.rest < 10 ^ l.start) × (decimal l.number ≡ decimal l.rest ++ drop l.start l.digits)

abbrev pub decreases-loop-rest : goal.decreases-loop-rest
decreases-loop-rest l = l.rest
