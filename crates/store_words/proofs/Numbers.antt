-- The numbers that C gets: different answers have different ones, and those below 21 come without a new state.
use Prim.Native.Nat.{◌<◌}
use mathlib.Core.Bool.{false}
use mathlib.Core.Path.{◌≡◌}
use native.Mathlib.Omega.{arith}
use Rattle.std.proofs.lemmas.Grind.{common_steps}
use Rattle.fragments.specs.Answer.{said_for}
use Rattle.fragment_rules.specs.declared.answer.Answer.{Answer}
use Rattle.fragment_rules.specs.declared.answer.Refusal.{Refusal}
use Rattle.std.specs.Prelude.{Result}
use Rattle.store_words.specs.Reports.{number_of, changes}

pub numbers_one_to_one : (a b : Result Answer Refusal) → number_of (said_for a) ≡ number_of (said_for b) → a ≡ b
unfolding number_of said_for
numbers_one_to_one a b e = grind (arith, common_steps)

-- the numbers below 21 are those of the answers without a new state
pub low_number : (a : Result Answer Refusal) → number_of (said_for a) < 21 → changes (said_for a) ≡ false
unfolding number_of changes said_for
low_number a l = grind (arith, common_steps)
