-- What a sum tells that a test compares.
use Rattle.std.proofs.Common.{◌≡◌, ℕ, ◌+◌, eqb, List, sym, ap, ◌∙◌, zero-add}
use Rattle.sums.specs.Rfc1071.{total, fold, SumsRight}
use Rattle.base.specs.Tells.{Tells}
use Rattle.base.proofs.Telling.{tells_eq}

-- a sum from 0 on, compared with 65,535, tells whether its bytes sum right
pub tells_sums : {A : Type 0} (r : ℕ) (s : List ℕ) → r ≡ fold (0 + total s) → (SumsRight s → A) → (A → SumsRight s) → Tells (eqb r 65535) A
unfolding SumsRight
tells_sums {A} r s e to from =
    let plain : r ≡ fold (total s) = e ∙ ap fold (zero-add (total s)) in
    tells_eq r 65535 (λ x. to (sym plain ∙ x)) (λ a. plain ∙ from a)
