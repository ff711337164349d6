-- No reader has to believe this: what the readers of a list of options answer. `read_message`'s promise (`MessageRead`) is proved from it.
use Rattle.std.specs.Prelude.{ℕ, ◌+◌, ◌≤◌, ◌≡◌, List, [], ◌∷◌, drop, Option, Some, None}
use Rattle.base.specs.Bytes.{u8_at}
use Rattle.grammar.specs.Grammar.{ItemList, option, options53, IsList}

-- The type `type` by a list, where an option 53 before the list said `seen`.
pub data Gives (frame : List ℕ) (seen : Option ℕ) (items : ItemList) (type : ℕ) : Type 0 where
  before : seen ≡ Some type → options53 items ≡ [] → Gives frame seen items type
  within : seen ≡ None → (place : ℕ) → options53 items ≡ option place 53 1 ∷ [] → type ≡ u8_at frame (place + 2) → 1 ≤ type → type ≤ 8
      → Gives frame seen items type

-- a list that gives this type, from the place `at` to the frame's end
unfoldable pub ListGives : (frame : List ℕ) (at : ℕ) (seen : Option ℕ) (type : ℕ) → Type 0
ListGives frame at seen type =
    (items : ItemList) × IsList at (drop at frame) items × Gives frame seen items type

-- what the list reader answers
unfoldable pub Listed : (frame : List ℕ) (at : ℕ) (seen answer : Option ℕ) → Type 0
Listed frame at seen None = (type : ℕ) → ListGives frame at seen type → ⊥
Listed frame at seen (Some type) = ListGives frame at seen type
