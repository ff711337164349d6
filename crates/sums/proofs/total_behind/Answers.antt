-- `total_behind` meets its contract: the eights first, and behind them the tail.
use Rattle.std.proofs.Common.{◌*◌, ◌/◌, length, ap, ◌∙◌, arith}
use Rattle.sums.specs.Rfc1071.{total, fold}
use Rattle.sums.proofs.Chunks.{total_chunks}
use Rattle.sums.proofs.Laws.{fold_with}
use Rattle.sums.proofs.total_behind.Goals as goal

pub returns-clause-result_value : goal.returns-clause-result_value
returns-clause-result_value c =
    let eights = c.eights_behind in
    let s = c.args.piece.now in
    let cut = c.as_chunks.ensures in
    c.with_tail.ensures.result_value
    ∙ fold_with (eights.result * 256) _ (total c.as_chunks.result.1.now) eights.ensures.value
    ∙ rw (cut.front, cut.back) (ap fold (omega (arith, c.from.ensures, total_chunks 8 4 (length s / 8) s (omega arith) (omega arith))))
