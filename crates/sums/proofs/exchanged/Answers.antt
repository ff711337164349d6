-- `exchanged` meets its contract: the two bytes of a word exchanged are 256 times it, folded.
use Rattle.std.proofs.Common.{◌∙◌, arith}
use Rattle.sums.proofs.Laws.{fold_exchanged}
use Rattle.sums.proofs.exchanged.Goals as goal

pub returns : goal.returns
returns c = omega arith ∙ fold_exchanged c.args.n (omega arith)
