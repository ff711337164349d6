-- A record is made exactly where its network is good, and 9 is answered exactly elsewhere; the contract leaves one answer.
use Rattle.std.proofs.Common.{Result, Ok, Err, Option}
use mathlib.Core.Path.{◌≡◌, refl, ap, sym, ◌∙◌}
use mathlib.Core.Logic.{◌↔◌}
use Prim.Native.Nat.{ℕ}
use mathlib.Core.List.{List, [], ◌∷◌}
use native.Mathlib.Omega.{arith}
use lib.ListN.{get_or}
use Rattle.record.specs.Guest.{fresh}
use Rattle.record.specs.declared.guest.Guest.{Guest}
use Rattle.making.specs.Making.{GoodNetwork, Makes, made, refused, network_of, bad_record, paper}
use Rattle.making.specs.declared.call.BadRecord.{BadRecord}

-- 9 is not 24
different : ◌≡◌ {A = List ℕ} (9 ∷ []) (24 ∷ []) → ⊥
different e = let n : ◌≡◌ {A = ℕ} 9 24 = ap (λ (l : List ℕ). get_or l 0 0) e in omega (arith, n)

-- the two answers have different numbers
pub paper_one_to_one : (a b : Result (Unit {0}) BadRecord) → paper a ≡ paper b → a ≡ b
paper_one_to_one (Ok x) (Ok y) e = refl
paper_one_to_one (Err x) (Err y) e = refl
paper_one_to_one (Ok x) (Err y) e = absurd (different (sym e))
paper_one_to_one (Err x) (Ok y) e = absurd (different e)

module _ {mac gateway guest mask : List ℕ} {lease : Option ℕ} where
  -- a good network gets its record, and a bad one 9 and none
  pub good_is_made : {r : Result Guest BadRecord} → Makes mac gateway guest mask lease r → GoodNetwork gateway guest mask
      → r ≡ Ok (fresh mac (network_of gateway guest mask lease))
  good_is_made (made g e) h = e
  good_is_made (refused b e) h = absurd (b h)

  pub bad_is_refused : {r : Result Guest BadRecord} → Makes mac gateway guest mask lease r → (GoodNetwork gateway guest mask → ⊥) → r ≡ Err bad_record
  bad_is_refused (made g e) h = absurd (h g)
  bad_is_refused (refused b e) h = e

  -- and the other way round
  made_is_good : {r : Result Guest BadRecord} → Makes mac gateway guest mask lease r → paper r ≡ 24 ∷ [] → GoodNetwork gateway guest mask
  made_is_good (made g e) m = g
  made_is_good (refused b e) m = absurd (different (sym (ap (λ (r : Result Guest BadRecord). paper r) e) ∙ m))

  refused_is_bad : {r : Result Guest BadRecord} → Makes mac gateway guest mask lease r → paper r ≡ 9 ∷ [] → GoodNetwork gateway guest mask → ⊥
  refused_is_bad (made g e) m = absurd (different (sym m ∙ ap (λ (r : Result Guest BadRecord). paper r) e))
  refused_is_bad (refused b e) m = b

  -- 24 exactly where the network is good
  pub made_exactly : {r : Result Guest BadRecord} → Makes mac gateway guest mask lease r → ((paper r ≡ 24 ∷ []) ↔ GoodNetwork gateway guest mask)
  made_exactly m = (made_is_good m, (λ g. ap (λ (r : Result Guest BadRecord). paper r) (good_is_made m g)))

  -- 9 exactly elsewhere
  pub nine_exactly : {r : Result Guest BadRecord} → Makes mac gateway guest mask lease r → ((paper r ≡ 9 ∷ []) ↔ (GoodNetwork gateway guest mask → ⊥))
  nine_exactly m = (refused_is_bad m, (λ n. ap (λ (r : Result Guest BadRecord). paper r) (bad_is_refused m n)))

  -- two answers to the same call are the same
  pub make_answers_once : {r s : Result Guest BadRecord} → Makes mac gateway guest mask lease r → Makes mac gateway guest mask lease s → r ≡ s
  make_answers_once (made g e) m = e ∙ sym (good_is_made m g)
  make_answers_once (refused b e) m = e ∙ sym (bad_is_refused m b)
