-- `answer::printed` writes one text for an input that is too long, and else the text of what the gateway promises.
use mathlib.Core.Path.{refl, ◌∙◌}
use borrow.Author.Tests.{lt-ltb, le-ltb}
use Rattle.gwone.specs.Printed.{printed}
use Rattle.gwone.proofs.Called.{call_text}
use Rattle.gwone.proofs.answer.printed.Goals as goal

pub returns-then-input-gt-FRAME_LIMIT : goal.returns-then-input-gt-FRAME_LIMIT
unfolding printed
returns-then-input-gt-FRAME_LIMIT c = rw (lt-ltb _ _ c.if-input-gt-FRAME_LIMIT.true) c.line.ensures.line

pub returns : goal.returns
unfolding printed
returns c =
    rw (le-ltb _ _ c.if-input-gt-FRAME_LIMIT.false)
    (c.answered.ensures ∙ call_text _ _ _ _ _ c.new_guest.ensures refl c.handle-answer.ensures)
