-- The contracts of the calls on a store leave one answer: number, words, bytes, bits and place.
use Prim.Native.Nat.{ℕ}
use mathlib.Core.List.{List}
use mathlib.Core.Path.{◌≡◌, ap, ap₂, sym, ◌∙◌}
use lib.ListN.{length}
use Rattle.bitmap.specs.Bitmap.{bit}
use mathlib.Core.Bool.{cond}
use Rattle.fragments.specs.Answer.{said_for}
use Rattle.fragment_rules.specs.Rules.{ruling}
use Rattle.fragments.specs.declared.answer.Taken.{Taken}
use Rattle.host.specs.Reassembly.{Took, Freed}
use Rattle.fragments.proofs.OneAnswer.{one_taken, one_released, one_effect}
use Rattle.store_words.specs.Reports.{Reports, number_of, changes, place_of}
use Rattle.store_words.specs.Words.{state_of, words_of}

-- what is told of one answer
same_telling : {words words₁ words₂ : List ℕ} {n₁ n₂ : ℕ} {t u : Taken} → t ≡ u → Reports words words₁ t n₁ → Reports words words₂ u n₂ → (n₁ ≡ n₂) × (words₁ ≡ words₂)
same_telling {words} e s r = (
  s.numbered ∙ ap (λ (x : Taken). number_of (said_for x.answer)) e ∙ sym r.numbered,
  s.written ∙ ap (λ (x : Taken). cond (changes (said_for x.answer)) (words_of x.state) words) e ∙ sym r.written,
)

pub one_taking : (words frame bytes bits words₁ bytes₁ bits₁ place₁ words₂ bytes₂ bits₂ place₂ : List ℕ) (n₁ n₂ : ℕ)
    → Took words frame bytes bits words₁ bytes₁ bits₁ place₁ n₁ → Took words frame bytes bits words₂ bytes₂ bits₂ place₂ n₂
    → ((n₁ ≡ n₂) × (words₁ ≡ words₂)) × ((bytes₁ ≡ bytes₂) × ((b : ℕ) → bit bits₁ b ≡ bit bits₂ b)) × (place₁ ≡ place₂)
one_taking words frame bytes bits words₁ bytes₁ bits₁ place₁ words₂ bytes₂ bits₂ place₂ n₁ n₂ t u =
    let e = one_taken t.takes u.takes in
    let store = one_effect (ruling (state_of words) frame (length bytes) bits) frame bytes bits bytes₁ bits₁ bytes₂ bits₂ t.takes.store u.takes.store in (
      same_telling e t.tells u.tells,
      store,
      t.placed ∙ ap₂ (λ (x : Taken) (b : List ℕ). place_of x.answer x.state frame (length b)) e store.0 ∙ sym u.placed,
    )

pub one_release : (words bytes bits words₁ bits₁ words₂ bits₂ : List ℕ) (n₁ n₂ : ℕ)
    → Freed words bytes bits words₁ bits₁ n₁ → Freed words bytes bits words₂ bits₂ n₂
    → ((n₁ ≡ n₂) × (words₁ ≡ words₂)) × (bits₁ ≡ bits₂)
one_release words bytes bits words₁ bits₁ words₂ bits₂ n₁ n₂ f g =
    (same_telling (one_released f.releases g.releases) f.tells g.tells, f.releases.cleared ∙ sym g.releases.cleared)
