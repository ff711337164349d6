-- The call over a record that stands already: what it says and leaves is what `make` answers, and the contract leaves one answer.
use Rattle.std.proofs.Common.{Result, Ok, Err, Option, arith}
use Rattle.std.specs.Result.{IsErr}
use Prim.Native.Nat.{ℕ}
use mathlib.Core.Path.{◌≡◌, refl, sym, ◌∙◌}
use mathlib.Core.List.{List}
use Rattle.record.specs.Guest.{fresh}
use Rattle.record.specs.declared.guest.Guest.{Guest}
use Rattle.making.specs.Making.{GoodNetwork, Makes, made, refused, network_of, number_of}
use Rattle.making.specs.Over.{MadeOver, made as made_over, refused as refused_over}
use Rattle.making.specs.declared.call.BadRecord.{BadRecord}

-- an error is told as 9
error_is_9 : {A : Type 0} (r : Result A BadRecord) → IsErr r → number_of r ≡ 9
error_is_9 (Ok x) e = cc
error_is_9 (Err x) e = refl

module _ {old : Guest} {mac gateway guest mask : List ℕ} {lease : Option ℕ} where
  over_if_good : {n : ℕ} {g : Guest} → MadeOver old mac gateway guest mask lease n g → GoodNetwork gateway guest mask
      → (n ≡ 24) × (g ≡ fresh mac (network_of gateway guest mask lease))
  over_if_good (made_over h n s) g = (n, s)
  over_if_good (refused_over b n s) g = absurd (b g)

  over_if_bad : {n : ℕ} {g : Guest} → MadeOver old mac gateway guest mask lease n g → (GoodNetwork gateway guest mask → ⊥) → (n ≡ 9) × (g ≡ old)
  over_if_bad (made_over h n s) b = absurd (b h)
  over_if_bad (refused_over c n s) b = (n, s)

  pub stored_new : {g : Guest} → Makes mac gateway guest mask lease (Ok g) → MadeOver old mac gateway guest mask lease 24 g
  stored_new (made h e) = made_over h refl (grind arith)
  stored_new (refused b e) = grind arith

  pub left_old : {x : BadRecord} (r : Result (Unit {0}) BadRecord) → Makes mac gateway guest mask lease (Err x) → IsErr r → MadeOver old mac gateway guest mask lease (number_of r) old
  left_old r (made h e) i = grind arith
  left_old r (refused b e) i = refused_over b (error_is_9 r i) refl

  -- two answers to the same call are the same, the memory with them
  pub make_over_answers_once : {n n' : ℕ} {g g' : Guest} → MadeOver old mac gateway guest mask lease n g → MadeOver old mac gateway guest mask lease n' g' → (n ≡ n') × (g ≡ g')
  make_over_answers_once (made_over h n s) m = let e = over_if_good m h in (n ∙ sym e.0, s ∙ sym e.1)
  make_over_answers_once (refused_over b n s) m = let e = over_if_bad m b in (n ∙ sym e.0, s ∙ sym e.1)

-- what the function answers is told by its number
pub number_of_one_to_one : (r s : Result (Unit {0}) BadRecord) → number_of r ≡ number_of s → r ≡ s
number_of_one_to_one (Ok x) (Ok y) e = refl
number_of_one_to_one (Ok x) (Err y) e = cc
number_of_one_to_one (Err x) (Ok y) e = cc
number_of_one_to_one (Err x) (Err y) e = refl

-- the same of what the function itself answers
pub make_over_results_once : {old g g' : Guest} {mac gateway guest mask : List ℕ} {lease : Option ℕ} (r s : Result (Unit {0}) BadRecord)
    → MadeOver old mac gateway guest mask lease (number_of r) g → MadeOver old mac gateway guest mask lease (number_of s) g' → (r ≡ s) × (g ≡ g')
make_over_results_once r s p q = let same = make_over_answers_once p q in (number_of_one_to_one r s same.0, same.1)
