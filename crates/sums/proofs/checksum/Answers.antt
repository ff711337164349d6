-- `checksum` meets its contract: a sum that starts at 0 is the sum of the bytes alone.
use Rattle.std.proofs.Common.{ℕ, ◌-◌, ap, ◌∙◌, zero-add}
use Rattle.sums.specs.Rfc1071.{checksum, fold}
use Rattle.sums.proofs.checksum.Goals as goal

pub returns : goal.returns
unfolding checksum
returns c = ap (λ (n : ℕ). 65535 - n) (c.sum.ensures ∙ ap fold (zero-add _))
