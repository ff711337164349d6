-- What the exported calls on a store promise: the core's promise, of the state that the six words are; and what C is told of it.
use Rattle.std.specs.Prelude.{ℕ, ◌≡◌, List, length, get_or}
use Rattle.base.specs.Bytes.{part}
use Rattle.fragments.specs.Handing.{payload_of}
use Rattle.fragments.specs.Promises.{Takes, Releases}
use Rattle.fragments.specs.declared.answer.Taken.{Taken}
use Rattle.store_words.specs.Reports.{Reports, place_of, placed_in}
use Rattle.store_words.specs.Words.{state_of}

-- The promise of a call that takes a frame: it is `take`'s, on every byte and bit; the words are left or those of the new state, and are read as the
-- state that the store is in; and the payload that the core hands out stands at the place that is told.
pub record Took (words frame bytes bits words' bytes' bits' place : List ℕ) (number : ℕ) : Type 0 where
  pub taken : Taken
  pub takes : Takes (state_of words) frame bytes bits bytes' bits' taken
  pub tells : Reports words words' taken number
  pub next : state_of words' ≡ taken.state
  pub placed : place ≡ place_of taken.answer taken.state frame (length bytes')
  pub payload : part (placed_in taken.answer frame bytes') (get_or place 0 0) (get_or place 1 0) ≡ payload_of taken.answer taken.state frame bytes'

-- The promise of a call that empties the store: it is `release`'s.
pub record Freed (words bytes bits words' bits' : List ℕ) (number : ℕ) : Type 0 where
  pub taken : Taken
  pub releases : Releases (state_of words) bytes bits bits' taken
  pub tells : Reports words words' taken number
  pub next : state_of words' ≡ taken.state
