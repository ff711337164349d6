-- `added` meets its contract: two words have one carry at most.
use Rattle.std.proofs.Common.{◌+◌, arith}
use Rattle.sums.proofs.Folding.{folded_once}
use Rattle.sums.proofs.added.Goals as goal

pub returns : goal.returns
returns c = rw (c.from.ensures, c.from-2.ensures) (folded_once (c.args.a + c.args.b) (omega arith))
