-- The promises leave one answer: `said_for` is one-to-one, and what a ruling does to a store is fixed byte by byte and bit by bit.
use Prim.Native.Nat.{ℕ}
use mathlib.Core.List.{List}
use mathlib.Core.Path.{◌≡◌, ap, sym, ◌∙◌}
use lib.ListN.{length}
use native.Mathlib.Omega.{arith}
use Rattle.std.proofs.lemmas.Grind.{common_steps}
use Rattle.bitmap.specs.Bitmap.{bit}
use Rattle.fragments.specs.Answer.{said_for}
use Rattle.fragments.specs.Promises.{Effect, Does, Releases}
use Rattle.fragment_rules.specs.declared.answer.Answer.{Answer}
use Rattle.fragment_rules.specs.declared.answer.Refusal.{Refusal}
use Rattle.std.specs.Prelude.{Result, Ok, Err}
use Rattle.fragment_rules.specs.declared.answer.State.{State}
use Rattle.fragments.specs.declared.answer.Taken.{Taken}
use Rattle.fragment_rules.specs.declared.ruling.Ruling.{Ruling}
use Rattle.fragment_rules.specs.declared.ruling.Ruling.TheVariants.{Pass, Write}

-- different answers are said differently
pub said_one_to_one : (a b : Result Answer Refusal) → said_for a ≡ said_for b → a ≡ b
unfolding said_for
said_one_to_one a b e = grind (arith, common_steps)

-- so the same said and the same state are one answer
same_taken : (t u : Taken) → said_for t.answer ≡ said_for u.answer → t.state ≡ u.state → t ≡ u
same_taken t u said state = let answer = said_one_to_one t.answer u.answer said in λ i. record { answer = answer i; state = state i }

pub one_taken : {r : Result Ruling Refusal} {state : State} {frame bytes bits bytes₁ bits₁ bytes₂ bits₂ : List ℕ} {t u : Taken}
    → Does r state frame bytes bits bytes₁ bits₁ t → Does r state frame bytes bits bytes₂ bits₂ u → t ≡ u
one_taken d e = same_taken _ _ (d.answers ∙ sym e.answers) (d.next ∙ sym e.next)

pub one_released : {state : State} {bytes bits bits₁ bits₂ : List ℕ} {t u : Taken} → Releases state bytes bits bits₁ t → Releases state bytes bits bits₂ u → t ≡ u
one_released r s = same_taken _ _ (r.answers ∙ sym s.answers) (r.next ∙ sym s.next)

-- and what a ruling does to a store is one thing
pub one_effect : (r : Result Ruling Refusal) (frame bytes bits bytes₁ bits₁ bytes₂ bits₂ : List ℕ) → Effect r frame bytes bits bytes₁ bits₁ → Effect r frame bytes bits bytes₂ bits₂
    → (bytes₁ ≡ bytes₂) × ((b : ℕ) → bit bits₁ b ≡ bit bits₂ b)
one_effect (Err a) frame bytes bits bytes₁ bits₁ bytes₂ bits₂ e f =
    (e.kept_bytes ∙ sym f.kept_bytes, λ b. ap (λ (w : List ℕ). bit w b) (e.kept_bits ∙ sym f.kept_bits))
one_effect (Ok Pass) frame bytes bits bytes₁ bits₁ bytes₂ bits₂ e f =
    (e.kept_bytes ∙ sym f.kept_bytes, λ b. ap (λ (w : List ℕ). bit w b) (e.kept_bits ∙ sym f.kept_bits))
one_effect (Ok (Write p end)) frame bytes bits bytes₁ bits₁ bytes₂ bits₂ e f = (e.0 ∙ sym f.0, λ b. e.1.bits b ∙ sym (f.1.bits b))

-- its bitmap stays as long
pub as_many_bits : (r : Result Ruling Refusal) (frame bytes bits bytes' bits' : List ℕ) → Effect r frame bytes bits bytes' bits' → length bits' ≡ length bits
as_many_bits (Err a) frame bytes bits bytes' bits' e = ap length e.kept_bits
as_many_bits (Ok Pass) frame bytes bits bytes' bits' e = ap length e.kept_bits
as_many_bits (Ok (Write p end)) frame bytes bits bytes' bits' e = e.1.as_long
