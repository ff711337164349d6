-- Each exported call is a call of the core, on the store that the words, bytes and bits are: so what holds of the core's calls holds of C's.
use mathlib.Core.Path.{◌≡◌, refl, ap, sym, subst, ◌∙◌}
use mathlib.Core.List.{List, [], ◌∷◌}
use Rattle.fragment_laws.specs.Calls.{Store, Asked, taking, releasing, Call, after, Promised, Runs, leaves, asks}
use Rattle.fragment_laws.specs.Trains.{StoredThenComplete}
use Rattle.fragments.specs.Answer.{Said, stored, complete, said_for}
use Rattle.fragments.specs.declared.answer.Taken.{Taken}
use Rattle.host_laws.specs.Made.{Lent, store_of, Made, PromisedIt, KeepsIt, Makes, last_lent, asks_of, Told21Then22}
use Rattle.store_words.specs.Reports.{number_of}
use Rattle.store_words.specs.Words.{state_of}

-- what the core answered in a call
abbrev pub taken_of : (asked : Asked) (lent : Lent) (made : Made) → PromisedIt asked lent made → Taken
taken_of (taking frame) lent made k = k.0.taken
taken_of releasing lent made k = k.0.taken

-- the number is its answer's
pub number_of_lem : (asked : Asked) (lent : Lent) (made : Made) (k : PromisedIt asked lent made) → made.number ≡ number_of (said_for (taken_of asked lent made k).answer)
number_of_lem (taking frame) lent made k = k.0.tells.numbered
number_of_lem releasing lent made k = k.0.tells.numbered

-- the words are read as its state
pub state_of_lem : (asked : Asked) (lent : Lent) (made : Made) (k : PromisedIt asked lent made) → state_of made.left.words ≡ (taken_of asked lent made k).state
state_of_lem (taking frame) lent made k = k.0.next
state_of_lem releasing lent made k = k.0.next

-- the call, as the core's
abbrev pub core_call : (lent : Lent) (made : Made) → KeepsIt lent made → Call
core_call lent made k = record { who = 0; asked = made.asked; taken = taken_of made.asked lent made k; bytes = made.left.bytes; bits = made.left.bits }

abbrev pub core_calls : (lent : Lent) (made : List Made) → Makes lent made → List Call
core_calls lent [] m = []
core_calls lent (made ∷ rest) m = core_call lent made m.0 ∷ core_calls made.left rest m.1

pub same_store : (lent : Lent) (made : Made) (k : KeepsIt lent made) → store_of made.left ≡ after (core_call lent made k)
same_store lent made k = λ i. record { state = state_of_lem made.asked lent made k i; bytes = made.left.bytes; bits = made.left.bits }

-- what was promised to C was promised by the core
pub keeps : (asked : Asked) (lent : Lent) (made : Made) (k : PromisedIt asked lent made)
    → Promised asked (store_of lent) (record { state = (taken_of asked lent made k).state; bytes = made.left.bytes; bits = made.left.bits }) (taken_of asked lent made k)
keeps (taking frame) lent made k = (k.0.takes, k.1)
keeps releasing lent made k = (k.0.releases, k.1, k.2)

-- call by call
pub as_core : (lent : Lent) (made : List Made) (m : Makes lent made) → Runs (store_of lent) (core_calls lent made m)
as_core lent [] m = tt
as_core lent (made ∷ rest) m =
    (keeps made.asked lent made m.0, subst (λ (store : Store). Runs store (core_calls made.left rest m.1)) (same_store lent made m.0) (as_core made.left rest m.1))

pub same_asked : (lent : Lent) (made : List Made) (m : Makes lent made) → asks (core_calls lent made m) ≡ asks_of made
same_asked lent [] m = refl
same_asked lent (made ∷ rest) m = ap (λ (l : List Asked). made.asked ∷ l) (same_asked made.left rest m.1)

-- and they leave the store that C's memory is
pub same_left : (lent : Lent) (made : List Made) (m : Makes lent made) → leaves (store_of lent) (core_calls lent made m) ≡ store_of (last_lent lent made)
same_left lent [] m = refl
same_left lent (made ∷ rest) m =
    ap (λ (store : Store). leaves store (core_calls made.left rest m.1)) (sym (same_store lent made m.0)) ∙ same_left made.left rest m.1

-- the numbers are those of the answers
stored_is_21 : (s : Said) → s ≡ stored → number_of s ≡ 21
unfolding number_of
stored_is_21 s e = ap number_of e

complete_is_22 : (s : Said) → s ≡ complete → number_of s ≡ 22
unfolding number_of
complete_is_22 s e = ap number_of e

pub numbers_told : (lent : Lent) (made : List Made) (m : Makes lent made) → StoredThenComplete (core_calls lent made m) → Told21Then22 made
numbers_told lent [] m a = a
numbers_told lent (made ∷ []) m a = number_of_lem made.asked lent made m.0 ∙ complete_is_22 _ a
numbers_told lent (made ∷ next ∷ rest) m a =
    (number_of_lem made.asked lent made m.0 ∙ stored_is_21 _ a.0, numbers_told made.left (next ∷ rest) m.1 a.1)
