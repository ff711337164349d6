-- Numbers that count on from a start, in 16 bits: behind 65,535 comes 0.
use Rattle.std.specs.Prelude.{ℕ, ◌+◌, ◌-◌, ◌%◌, ◌<◌, ◌≤◌, ◌≡◌, List, length, get_or}
use Rattle.base.specs.Bytes.{part}

-- no two of them are the same
abbrev pub AllDifferent : List ℕ → Type 0
AllDifferent numbers = (i j : ℕ) → i < j → j < length numbers → get_or numbers i 0 ≡ get_or numbers j 0 → ⊥

-- What is said of them: number k, counted from 0, is the start plus k, modulo 65,536; any 65,536 in a row are different; and two are the same
-- exactly where a multiple of 65,536 lies between their places.
pub record CountsOn (start : ℕ) (numbers : List ℕ) : Type 0 where
  pub number : (k : ℕ) → k < length numbers → get_or numbers k 0 ≡ (start + k) % 65536
  pub different_in_a_row : (i : ℕ) → AllDifferent (part numbers i 65536)
  pub same_are_apart : (i j : ℕ) → i ≤ j → j < length numbers → get_or numbers i 0 ≡ get_or numbers j 0 → (j - i) % 65536 ≡ 0
  pub apart_are_same : (i j : ℕ) → i ≤ j → j < length numbers → (j - i) % 65536 ≡ 0 → get_or numbers i 0 ≡ get_or numbers j 0
