-- `answer::new_guest`: document 01's network is good, so its record is made.
use Rattle.std.proofs.Common.{arith}
use Rattle.making.proofs.Exactly.{good_is_made}
use Rattle.making.proofs.Worked.{document01_good}
use Rattle.gwone.proofs.answer.new_guest.Goals as goal

pub unwrap-requires : goal.unwrap-requires
unwrap-requires c = grind (arith, good_is_made c.make.ensures document01_good)
