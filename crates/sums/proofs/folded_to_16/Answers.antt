-- `folded_to_16` meets its contract: two folds of a 32-bit total are the fold.
use Rattle.std.proofs.Common.{arith}
use Rattle.sums.proofs.Folding.{folded_twice}
use Rattle.sums.proofs.folded_to_16.Goals as goal

pub returns : goal.returns
returns c = folded_twice c.args.total (omega arith)
