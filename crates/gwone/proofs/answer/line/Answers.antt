-- `answer::line`: after i turns the word and the first i numbers are there.
use Rattle.std.proofs.Common.{arith, append_assoc}
use Rattle.gwone.proofs.Adding.{spaced_more}
use Rattle.gwone.proofs.answer.line.Goals as goal

pub loop-number-preserved : goal.loop-number-preserved
loop-number-preserved c =
    let l = c.loop-number in
    let added = c.push_number.ensures in (
      rw (spaced_more c.args.numbers.now l.number-index (omega arith), added.number, l.invariant.0) (simp append_assoc),
      omega (arith, added.upper_bound),
    )
