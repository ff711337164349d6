-- `driver::replay` is safe and ends: each line starts behind the one before it.
use Rattle.std.proofs.Common.{◌-◌, length}
use Rattle.vectors.proofs.driver.replay.Given as goal

abbrev pub decreases-loop-at : goal.decreases-loop-at
decreases-loop-at g l = length l.text - l.at
