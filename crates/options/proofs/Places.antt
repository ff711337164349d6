-- The sentences at a place of a message, as the scan meets them there.
use Prim.Native.Nat.{ℕ, suc, ◌+◌, ◌≤◌, ◌<◌}
use mathlib.Core.Bool.{false}
use mathlib.Core.Path.{◌≡◌, ap, ap₂, ◌∙◌}
use mathlib.Core.List.{List, ◌∷◌}
use native.Mathlib.Omega.{arith}
use lib.ListN.{length, drop, drop_of_length-le}
use lib.Seq.{drop-cons, drop-drop}
use Rattle.base.specs.Bytes.{u8_at}
use Rattle.options.specs.Rfc2132.{Walked, typed, cut, decides, walk_from}
use Rattle.options.proofs.Sentences.{end_of_data, code_255, code_last, code_0, type_there, type_cut, every_other}

-- the walk at place `at` of a message
abbrev pub walk_at : (none : ℕ) → List ℕ → ℕ → Walked
walk_at none s at = walk_from none at 0 (drop at s)

-- a byte of a message, and what lies behind it
byte_there : (s : List ℕ) (at : ℕ) → at < length s → drop at s ≡ u8_at s at ∷ drop (at + 1) s
byte_there s at there =
    let next : suc at ≡ at + 1 = omega arith in
    drop-cons s at 0 there ∙ ap (λ (n : ℕ). u8_at s at ∷ drop n s) next

module _ (none : ℕ) (s : List ℕ) (at : ℕ) where
  pub past_end : length s ≤ at → walk_at none s at ≡ typed none
  past_end h = ap (walk_from none at 0) (drop_of_length-le s {i = at} h) ∙ end_of_data none at

  module _ (there : at < length s) where
    pub at_255 : u8_at s at ≡ 255 → walk_at none s at ≡ typed none
    at_255 e = ap (walk_from none at 0) (byte_there s at there ∙ ap (λ (code : ℕ). code ∷ drop (at + 1) s) e) ∙ code_255 none at _

    pub at_0 : u8_at s at ≡ 0 → walk_at none s at ≡ walk_at none s (at + 1)
    at_0 e = ap (walk_from none at 0) (byte_there s at there ∙ ap (λ (code : ℕ). code ∷ drop (at + 1) s) e) ∙ code_0 none at _

    pub at_last : length s ≤ at + 1 → walk_at none s at ≡ typed none
    at_last h =
        ap (walk_from none at 0) (byte_there s at there ∙ ap (λ (rest : List ℕ). u8_at s at ∷ rest) (drop_of_length-le s {i = at + 1} h))
        ∙ code_last none at _

  module _ (there : at + 1 < length s) where
    -- code and length, and what lies behind them
    two : drop at s ≡ u8_at s at ∷ u8_at s (at + 1) ∷ drop (at + 2) s
    two =
        let third : at + 1 + 1 ≡ at + 2 = omega arith in
        byte_there s at (omega arith)
        ∙ ap (λ (rest : List ℕ). u8_at s at ∷ rest) (byte_there s (at + 1) there ∙ ap (λ (n : ℕ). u8_at s (at + 1) ∷ drop n s) third)

    pub at_other : (u8_at s at ≡ 255 → ⊥) → (u8_at s at ≡ 0 → ⊥) → decides (u8_at s at) (u8_at s (at + 1)) ≡ false
        → walk_at none s at ≡ walk_at none s (at + (2 + u8_at s (at + 1)))
    at_other not_end not-pad other =
        let over : at + 2 + u8_at s (at + 1) ≡ at + (2 + u8_at s (at + 1)) = omega arith in
        ap (walk_from none at 0) two
        ∙ every_other none at _ _ _ not_end not-pad other
        ∙ ap (walk_from none (at + 2 + u8_at s (at + 1)) 0) (drop-drop (u8_at s (at + 1)) (at + 2) s)
        ∙ ap (λ (n : ℕ). walk_at none s n) over

    module _ (is-53 : u8_at s at ≡ 53) (some : 1 ≤ u8_at s (at + 1)) where
      -- an option 53 with a length of one or more, and what lies behind its length
      decider : (value : List ℕ) → drop (at + 2) s ≡ value → walk_at none s at ≡ walk_from none at 0 (53 ∷ u8_at s (at + 1) ∷ value)
      decider value e = ap (walk_from none at 0) (two ∙ ap₂ (λ (code : ℕ) (rest : List ℕ). code ∷ u8_at s (at + 1) ∷ rest) is-53 e)

      pub at_type : at + 2 < length s → walk_at none s at ≡ typed (u8_at s (at + 2))
      at_type h = decider _ (byte_there s (at + 2) h) ∙ type_there none at _ _ _ some

      pub at_cut : length s ≤ at + 2 → walk_at none s at ≡ cut at
      at_cut h = decider _ (drop_of_length-le s {i = at + 2} h) ∙ type_cut none at _ some
