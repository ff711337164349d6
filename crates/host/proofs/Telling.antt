-- From what a call of ours promises to what an exported call tells.
use Prim.Native.Nat.{ℕ}
use mathlib.Core.Bool.{Bool, true, false, cond}
use mathlib.Core.List.{List, [], ◌∷◌}
use mathlib.Core.Path.{◌≡◌, refl, sym, ap, ◌∙◌}
use lib.Dec.{ltb}
use lib.ListN.{get_or}
use Rattle.record.specs.Answer.{Meets, Writing, Wrote, paper, spending}
use Rattle.record.specs.Guest.{spent, with_id}
use Rattle.record.specs.declared.answer.Answer.{Answer}
use Rattle.record.specs.declared.guest.Guest.{Guest}
use Rattle.record.specs.declared.answer.Verdict.{Verdict}
use Rattle.record.specs.declared.answer.Refusal.{Refusal}
use Rattle.host.specs.Exported.{Built, Told}
use Rattle.verdict_numbers.specs.Numbers.{padded}
use Rattle.std.proofs.Common.{Result}

-- the number and the first value, from what is told
pub told_number : (numbers : List ℕ) → get_or (padded numbers) 0 0 ≡ get_or numbers 0 0
unfolding padded
told_number [] = refl
told_number (n ∷ ns) = refl

pub told_value : (numbers : List ℕ) → get_or (padded numbers) 1 0 ≡ get_or numbers 1 0
unfolding padded
told_value [] = refl
told_value (n ∷ []) = refl
told_value (n ∷ v ∷ vs) = refl

pub told_of : {w : Writing} {before after : List ℕ} {v : Result Verdict Refusal} {number : ℕ} {values : List ℕ}
    → Wrote w before after v → number ∷ values ≡ padded (paper v) → Told w before after number values
told_of wrote e = record { numbers = e ∙ ap padded wrote.numbers; bytes = wrote.bytes }

-- the id afterwards goes by the id before
id_after : (b d : Bool) (g h : Guest) → h.id ≡ g.id → (cond b g (cond d g (spent g))).id ≡ (cond b h (cond d h (spent h))).id
id_after true d g h e = sym e
id_after false true g h e = sym e
id_after false false g h e = ap (λ (i : ℕ). (spent (with_id i g)).id) (sym e)

-- A builder looks at nothing of the record but the id: what it does with one record is what it does with every record of the same id.
pub built_of : (limit len need room : ℕ) (image : ℕ → List ℕ) (used : Guest) (lent : ℕ) {before after : List ℕ} {a : Answer} {number : ℕ} {values : List ℕ} {stored : ℕ}
    → used.id ≡ lent → Meets (spending used limit len need room (image used.id)) before after a → number ∷ values ≡ padded (paper a.verdict) → stored ≡ a.guest.id
    → Built lent (λ (guest : Guest). spending guest limit len need room (image guest.id)) before after number values stored
unfolding spending
built_of limit len need room image used lent e meets told stored =
    record {
      told = λ guest same. rw (same ∙ sym e) (told_of meets.wrote told);
      id = λ guest same. stored ∙ ap (λ (g : Guest). g.id) meets.guest ∙ id_after (ltb limit len) (ltb room need) used guest (same ∙ sym e);
    }
