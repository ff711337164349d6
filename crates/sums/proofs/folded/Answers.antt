-- `folded` meets its contract: no fold to 32 bits changes RFC 1071's fold.
use Rattle.std.proofs.Common.{ap, ◌∙◌}
use Rattle.sums.specs.Folding.{fold_to32}
use Rattle.sums.specs.Rfc1071.{fold}
use Rattle.sums.proofs.Folding.{fold_to_32}
use Rattle.sums.proofs.folded.Goals as goal

pub returns : goal.returns
returns c =
    let total = c.args.total in
    c.folded_to_16.ensures ∙ ap fold c.folded_to_32.ensures ∙ fold_to_32 (fold_to32 total) ∙ fold_to_32 total
