-- What the reader of a DHCP message answers: its type, or none where it is outside the grammar.
use Rattle.std.specs.Prelude.{ℕ, ◌≡◌, List, [], ◌∷◌, Option, Some, None}
use Rattle.grammar.specs.Grammar.{ItemList, options53, DHCP}
use Rattle.grammar.specs.Report.{values}

-- of the message that runs from the place `at` to the frame's end
unfoldable pub MessageRead : (frame : List ℕ) (at : ℕ) (answer : Option ℕ) → Type 0
MessageRead frame at None = (items : ItemList) → DHCP frame at items → ⊥
MessageRead frame at (Some type) =
    (items : ItemList)
    × DHCP frame at items
    × (values frame (options53 items) ≡ type ∷ [])
