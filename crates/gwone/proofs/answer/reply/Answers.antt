-- `answer::reply`: the digits are two for each of at most 2,048 bytes.
use Rattle.std.proofs.Common.{arith, length-append}
use Rattle.gwone.proofs.Adding.{length_hex}
use Rattle.gwone.proofs.answer.reply.Goals as goal

pub push-requires : goal.push-requires
push-requires c = rw (c.push_hex.ensures, length-append, length_hex) (omega (arith, c.line.ensures.upper_bound))
