-- Document 01's sentences on the option walk, an equation each: together they say what the walk comes to on every list.
use Prim.Native.Nat.{ℕ, zero, suc, ◌+◌, ◌≤◌, ◌<◌}
use mathlib.Core.Bool.{Bool, false, ◌&&◌, and-false}
use mathlib.Core.Path.{◌≡◌, refl, ap, ◌∙◌}
use mathlib.Core.List.{List, [], ◌∷◌}
use native.Mathlib.Omega.{arith}
use borrow.Author.Tests.{le-leb, lt-leb, ne_eqb}
use lib.ListN.{drop}
use lib.Dec.{eqb}
use Rattle.options.specs.Rfc2132.{typed, cut, decides, walk_from}

-- bytes stepped over are dropped
pub stepped_over : (none over place : ℕ) (rest : List ℕ) → walk_from none place over rest ≡ walk_from none (place + over) 0 (drop over rest)
unfolding walk_from
stepped_over none zero place rest = ap (λ (p : ℕ). walk_from none p 0 rest) (omega arith)
stepped_over none (suc over) place [] = refl
stepped_over none (suc over) place (byte ∷ rest) =
    stepped_over none over (place + 1) rest ∙ ap (λ (p : ℕ). walk_from none p 0 (drop over rest)) (omega arith)

-- an option that isn't 53 is stepped over
pub another_code : (code len : ℕ) → (code ≡ 53 → ⊥) → decides code len ≡ false
another_code code len h = simp (ne_eqb code 53 h)

-- and so is one of length 0
pub no_value : (code len : ℕ) → len < 1 → decides code len ≡ false
no_value code len h = ap (λ (t : Bool). eqb code 53 && t) (lt-leb 1 len h) ∙ and-false (eqb code 53)

module _ (none place : ℕ) where
  -- "the end of data .. ends it"
  pub end_of_data : walk_from none place 0 [] ≡ typed none
  unfolding walk_from
  end_of_data = refl

  -- "Code 255 .. ends it"
  pub code_255 : (rest : List ℕ) → walk_from none place 0 (255 ∷ rest) ≡ typed none
  unfolding walk_from
  code_255 [] = refl
  code_255 (byte ∷ rest) = refl

  -- "a code that is the last byte ends it"
  pub code_last : (code : ℕ) → walk_from none place 0 (code ∷ []) ≡ typed none
  unfolding walk_from
  code_last code = refl

  -- "Code 0 is one byte"
  pub code_0 : (rest : List ℕ) → walk_from none place 0 (0 ∷ rest) ≡ walk_from none (place + 1) 0 rest
  unfolding walk_from
  code_0 [] = refl
  code_0 (byte ∷ rest) = refl

  -- "the first option 53 whose length is one or more: its type is the next byte, even if the stated length runs past the data"
  pub type_there : (len type : ℕ) (rest : List ℕ) → 1 ≤ len → walk_from none place 0 (53 ∷ len ∷ type ∷ rest) ≡ typed type
  unfolding walk_from
  type_there len type rest h = simp (le-leb 1 len h)

  -- "if that next byte isn't there: 7", with its place
  pub type_cut : (len : ℕ) → 1 ≤ len → walk_from none place 0 (53 ∷ len ∷ []) ≡ cut place
  unfolding walk_from
  type_cut len h = simp (le-leb 1 len h)

  -- "Every other option is stepped over by its length"
  pub every_other : (code len : ℕ) (rest : List ℕ) → (code ≡ 255 → ⊥) → (code ≡ 0 → ⊥) → decides code len ≡ false
      → walk_from none place 0 (code ∷ len ∷ rest) ≡ walk_from none (place + 2 + len) 0 (drop len rest)
  unfolding walk_from
  every_other code len rest not_end not-pad other = simp (ne_eqb code 255 not_end, ne_eqb code 0 not-pad, other) (stepped_over none len (place + 2) rest)
