-- `options::message_type` meets its contract. The invariant: the walk at the place that the scan has come to is the whole walk.
use mathlib.Core.Path.{refl}
use native.Mathlib.Omega.{arith}
use Rattle.options.specs.Rfc2132.{walk_or}
use Rattle.options.proofs.Sentences.{another_code, no_value}
use Rattle.options.proofs.Places.{past_end, at_255, at_0, at_last, at_other, at_type, at_cut}
use Rattle.options.proofs.OneAnswer.{both}
use Rattle.options.proofs.message_type.Goals.{else-code-eq-MESSAGE_TYPE-via-then-code-eq-MESSAGE_TYPE+else-len-ge1, else-code-eq-MESSAGE_TYPE-via-else-code-eq-MESSAGE_TYPE}
use Rattle.options.proofs.message_type.Goals as goal

pub scan-init : goal.scan-init
unfolding walk_or
scan-init c = λ none. refl

pub scan-preserved-then-code-eq-PAD : goal.scan-preserved-then-code-eq-PAD
scan-preserved-then-code-eq-PAD c = λ none. grind (arith, at_0, c.scan.invariant none)

pub scan-preserved : goal.scan-preserved
scan-preserved c =
    λ none. grind (arith, at_other, another_code, no_value, c.scan.invariant none)

pub returns-then-data-at : goal.returns-then-data-at
returns-then-data-at c = both _ _ (λ none. grind (arith, past_end, c.scan.invariant none))

pub returns-then-code : goal.returns-then-code
returns-then-code c = both _ _ (λ none. grind (arith, at_255, c.scan.invariant none))

pub returns-then-data-at-2 : goal.returns-then-data-at-2
returns-then-data-at-2 c = both _ _ (λ none. grind (arith, at_last, c.scan.invariant none))

pub returns-then-data-at-3 : goal.returns-then-data-at-3
returns-then-data-at-3 c = both _ _ (λ none. grind (arith, at_cut, c.scan.invariant none))

pub returns-else-data-at-3 : goal.returns-else-data-at-3
returns-else-data-at-3 c = both _ _ (λ none. grind (arith, at_type, c.scan.invariant none))
