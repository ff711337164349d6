-- No reader has to believe this: what `zeros` tells. That a list ends as the grammar has it, with END and then zeros, is proved from it.
use Rattle.std.specs.Prelude.{ℕ, ◌≡◌, List, All}

-- bytes that are all 0
abbrev pub AllZero : List ℕ → Type 0
AllZero bytes = All (λ byte. byte ≡ 0) bytes
