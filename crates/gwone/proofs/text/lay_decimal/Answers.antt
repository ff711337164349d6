-- `text::lay_decimal` lays the number's digits, a digit at a time from the last.
use Rattle.std.proofs.Common.{rules, arith}
use Rattle.gwone.proofs.Decimal.{more_laid, all_laid, one_fewer}
use Rattle.gwone.proofs.text.lay_decimal.Goals as goal

pub loop-rest-preserved : goal.loop-rest-preserved
loop-rest-preserved c =
    let l = c.loop-rest in
    let fewer = one_fewer l.rest l.start l.invariant.2 (omega arith) in (
      omega (arith, fewer.0),
      omega arith,
      fewer.1,
      rw c.glyph.ensures (more_laid c.args.number l.rest l.start l.digits (search rules) l.invariant.3 (omega arith) (omega arith)),
    )

pub returns-clause-digits : goal.returns-clause-digits
returns-clause-digits c =
    let l = c.loop-rest in
    rw c.glyph-2.ensures (all_laid c.args.number l.rest l.start l.digits (search rules) l.invariant.3 (omega arith) (omega arith))
