-- Two and four bytes as a number, the first the lowest: so the machine loads them.
use Rattle.std.specs.Prelude.{ℕ, ◌+◌, ◌*◌, List, slice_index}

abbrev pub two : List ℕ → ℕ → ℕ
two s i = slice_index s i + slice_index s (i + 1) * 256

abbrev pub four : List ℕ → ℕ → ℕ
four s i = slice_index s i + slice_index s (i + 1) * 256 + slice_index s (i + 2) * 65536 + slice_index s (i + 3) * 16777216
