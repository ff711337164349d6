-- As many numbers in a row as a counter has values are all different, where each is the first one's and its distance.
use Prim.Native.Nat.{ℕ, ◌+◌, ◌%◌, ◌<◌, ◌≤◌}
use mathlib.Core.Path.{◌≡◌, ◌∙◌}
use mathlib.Core.List.{List}
use native.Mathlib.Omega.{arith}
use lib.ListN.{length, get_or, drop, length-take, length-drop}
use lib.Seq.{get_or-take, get_or-drop}
use Rattle.base.specs.Bytes.{part}

-- as many as a counter of 16 bits has values
abbrev pub row : ℕ
row = 65536

module _ (start : ℕ) (numbers : List ℕ) (is : (k : ℕ) → k < length numbers → get_or numbers k 0 ≡ (start + k) % 65536) where
  pub in_a_row : (size i j k : ℕ) → j < k → k < length (part numbers i size) → get_or (part numbers i size) j 0 ≡ get_or (part numbers i size) k 0 → size ≤ 65536 → ⊥
  in_a_row size i j k less there same most =
      let long = length-take size (drop i numbers) in
      let behind = length-drop i numbers in
      let near : k < size = omega (arith, long) in
      let first : get_or (part numbers i size) j 0 ≡ (start + (i + j)) % 65536 =
      get_or-take size (drop i numbers) j 0 (omega arith) ∙ get_or-drop i numbers j 0 ∙ is (i + j) (omega (arith, long, behind)) in
      let second : get_or (part numbers i size) k 0 ≡ (start + (i + k)) % 65536 =
      get_or-take size (drop i numbers) k 0 near ∙ get_or-drop i numbers k 0 ∙ is (i + k) (omega (arith, long, behind)) in
      omega (arith, first, second, same)
