-- Room that a call is lent.
use Rattle.std.specs.Prelude.{◌≡◌, ℕ, ◌<◌, List, length, slice_index}

-- every byte is the mark
abbrev pub Marked : List ℕ → Type 0
Marked s = (k : ℕ) → k < length s → slice_index s k ≡ 165
