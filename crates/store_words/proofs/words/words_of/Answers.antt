-- `words_of` meets its contract: the words are the state's, and read as it.
use mathlib.Core.List.{List}
use mathlib.Core.Path.{◌≡◌, refl, ap, ◌∙◌}
use Prim.Native.Nat.{ℕ}
use Rattle.std.specs.Prelude.{Some, None}
use Rattle.fragment_rules.specs.declared.answer.State.{State}
use Rattle.fragment_rules.specs.declared.answer.State.TheVariants.{Empty, Filling, Complete}
use Rattle.store_words.proofs.Back.{state_back}
use Rattle.store_words.specs.Words.{state_of, words_of, filling_words}
use Rattle.store_words.specs.helpers.Range.{InRange}
use Rattle.store_words.proofs.words.words_of.Goals as goal

both : (words : List ℕ) (state : State) → words ≡ words_of state → InRange state → (words ≡ words_of state) × (state_of words ≡ state)
both words state e fit = (e, ap state_of e ∙ state_back state fit)

pub returns-in-Empty : goal.returns-in-Empty
unfolding words_of
returns-in-Empty c = rw c.in-Empty.is (both _ Empty refl tt)

pub returns-in-None : goal.returns-in-None
unfolding words_of filling_words
returns-in-None c = rw (c.in-Filling.is, c.in-None.is) (both _ (Filling _ None) c.lay.ensures.0 (c.lay.ensures.1, tt))

pub returns-in-Some : goal.returns-in-Some
unfolding words_of filling_words
returns-in-Some c =
    let laid = c.lay-in-Some.ensures in
    rw (c.in-Filling.is, c.in-Some.is) (both _ (Filling _ (Some _)) laid.0 (laid.1, laid.2))

pub returns-in-Complete : goal.returns-in-Complete
unfolding words_of
returns-in-Complete c =
    let laid = c.lay-in-Complete.ensures in
    rw c.in-Complete.is (both _ (Complete _ _) laid.0 (laid.1, laid.2))
