-- What a call on a store answers, in document 02's terms (request 4/13): "The call answers passed, stored or complete"; a release is told
-- as such; "Refusals, in this order: 10 .. 11 .. 12 .. 13".
use Rattle.std.specs.Prelude.{ℕ, Result, Ok, Err}
use Rattle.fragment_rules.specs.declared.answer.Answer.{Answer}
use Rattle.fragment_rules.specs.declared.answer.Refusal.{Refusal}

-- the document's words, and its numbers
pub data Said : Type 0 where
  passed : Said
  stored : Said
  complete : Said
  released : Said
  refused : (number : ℕ) → Said

-- what the document says for an answer
unfoldable pub said_for : Result Answer Refusal → Said
said_for (Ok Answer.Passed) = passed
said_for (Ok Answer.Stored) = stored
said_for (Ok Answer.Complete) = complete
said_for (Ok Answer.Released) = released
said_for (Err Refusal.Unfit) = refused 10
said_for (Err Refusal.Held) = refused 11
said_for (Err Refusal.Overlap) = refused 12
said_for (Err Refusal.WrongEnd) = refused 13
