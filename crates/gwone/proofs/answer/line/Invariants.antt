-- `answer::line`: after i turns the word and the first i numbers are there.
use Rattle.std.proofs.Common.{◌+◌, ◌*◌, ◌≡◌, ◌≤◌, ◌++◌, length, take}
use Rattle.gwone.specs.Printed.{spaced}
use Rattle.gwone.proofs.answer.line.Given as goal

abbrev pub invariant-loop-number : goal.invariant-loop-number
invariant-loop-number l =
    (l.text ≡ l.word ++ spaced (take l.number-index l.numbers)) × (length l.text ≤ 15 + 21 * l.number-index)
