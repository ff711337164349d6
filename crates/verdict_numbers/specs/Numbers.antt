-- A verdict for a host that has no enums: document 01's number, and two values behind it.
use Rattle.std.specs.Prelude.{ℕ, List, [], ◌∷◌, ◌++◌, take}

-- document 01's number of a verdict and two values, 0 where it has fewer
unfoldable pub padded : List ℕ → List ℕ
padded numbers = take 3 (numbers ++ 0 ∷ 0 ∷ [])
