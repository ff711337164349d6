-- What C is told of a call on a store: a number, the words that it keeps, and where the payload stands.
use Rattle.std.specs.Prelude.{ℕ, ◌+◌, Bool, true, false, cond, Option, Some, None, Result, List, [], ◌∷◌, ◌≡◌}
use Rattle.wire.specs.Rfc791.{header_length_lem}
use Rattle.wire.specs.Rfc894.{body}
use Rattle.fragments.specs.Handing.{site_of_lem, stored_length_lem}
use Rattle.fragments.specs.Answer.{Said, passed, stored, complete, released, refused, said_for}
use Rattle.fragment_packets.specs.Packets.{payload_length}
use Rattle.fragment_rules.specs.declared.answer.Answer.{Answer}
use Rattle.fragment_rules.specs.declared.answer.Refusal.{Refusal}
use Rattle.fragments.specs.declared.answer.Site.{Site}
use Rattle.fragment_rules.specs.declared.answer.State.{State}
use Rattle.fragments.specs.declared.answer.Taken.{Taken}
use Rattle.store_words.specs.Words.{state_of, words_of}

-- the refusals are document 02's numbers; the four others are ours, past all of its
unfoldable pub number_of : Said → ℕ
number_of passed = 20
number_of stored = 21
number_of complete = 22
number_of released = 23
number_of (refused number) = number

-- the answers that come with a new state
unfoldable pub changes : Said → Bool
changes passed = false
changes stored = true
changes complete = true
changes released = true
changes (refused number) = false

-- The promise of reporting what came of a call: its number; the words of the new state, or else the words exactly as they were; and that they are read as it.
pub record Reports (words words' : List ℕ) (taken : Taken) (number : ℕ) : Type 0 where
  pub numbered : number ≡ number_of (said_for taken.answer)
  pub written : words' ≡ cond (changes (said_for taken.answer)) (words_of taken.state) words
  pub read : state_of words' ≡ cond (changes (said_for taken.answer)) taken.state (state_of words)

-- Where the payload starts and its length: in the frame on passed, in the store's bytes on complete; 0 and 0 on every other answer.
unfoldable pub place_at : Option Site → State → (frame : List ℕ) (lent : ℕ) → List ℕ
place_at (Some Site.Frame) state frame lent = (14 + header_length_lem (body frame)) ∷ payload_length (body frame) ∷ []
place_at (Some Site.Store) state frame lent = 0 ∷ stored_length_lem state lent ∷ []
place_at None state frame lent = 0 ∷ 0 ∷ []

abbrev pub place_of : Result Answer Refusal → State → (frame : List ℕ) (lent : ℕ) → List ℕ
place_of answer state frame lent = place_at (site_of_lem answer) state frame lent

-- what the place is counted in
unfoldable pub counted_in : Option Site → (frame bytes : List ℕ) → List ℕ
counted_in (Some Site.Frame) frame bytes = frame
counted_in (Some Site.Store) frame bytes = bytes
counted_in None frame bytes = bytes

abbrev pub placed_in : Result Answer Refusal → (frame bytes : List ℕ) → List ℕ
placed_in answer frame bytes = counted_in (site_of_lem answer) frame bytes
