-- A message that was cut short: it has the type of the whole, or none, or it is cut at its very end; it never has another type.
-- By the walk over both, with any number for a message without a type: that tells none from every type, 0 among them.
use Prim.Native.Nat.{ℕ, zero, suc, ◌+◌, ◌-◌}
use mathlib.Core.Bool.{Bool, true, false, cond}
use mathlib.Core.Path.{◌≡◌, refl, ap, sym, ◌∙◌, subst}
use mathlib.Core.List.{List, [], ◌∷◌}
use native.Mathlib.Omega.{arith}
use native.Mathlib.Nat.{zero-add}
use lib.ListN.{take, drop, length-take, drop_of_length-le}
use borrow.Author.Tests.{leb-true, leb-false}
use lib.Dec.{eqb, leb}
use Rattle.options.specs.Rfc2132.{Walked, typed, cut, decides, type_at, walk, walk_or, walk_from}
use Rattle.std.specs.Prelude.{Option, Some, None, Result, Ok, Err}
use Rattle.options.specs.Found.{walked_or}
use Rattle.options.specs.declared.CutAt.{CutAt}
use Rattle.options.proofs.Sentences.{end_of_data}
use Rattle.base.proofs.Choice.{by_test}

-- what the walk over the first bytes comes to, beside the walk over all: the same, no type, or a cut where two bytes are left
pub data Shortened (none : ℕ) (whole part : Walked) (ended : ℕ) : Type 0 where
  same : part ≡ whole → Shortened none whole part ended
  no_type : part ≡ typed none → Shortened none whole part ended
  cut_off : (place : ℕ) → place + 2 ≡ ended → part ≡ cut place → Shortened none whole part ended

-- both go the same way at a test
both : (t : Bool) {none : ℕ} {a a' b b' : Walked} {ended : ℕ} → Shortened none a a' ended → Shortened none b b' ended → Shortened none (cond t a b) (cond t a' b') ended
both true s r = s
both false s r = r

-- the type that is there is the same, and else the option is cut
value_cut : {none : ℕ} (place k : ℕ) (value : List ℕ) → Shortened none (type_at place value) (type_at place (take k value)) (place + 2 + k)
value_cut place zero value = cut_off place (omega arith) refl
value_cut place (suc k) [] = same refl
value_cut place (suc k) (type ∷ rest) = same refl

ended_at : {none : ℕ} {whole part : Walked} {m n : ℕ} → m ≡ n → Shortened none whole part m → Shortened none whole part n
ended_at {none} {whole} {part} e s = subst (Shortened none whole part) e s

shortened : (none : ℕ) (rest : List ℕ) (place over k : ℕ) → Shortened none (walk_from none place over rest) (walk_from none place over (take k rest)) (place + k)
unfolding walk_from
shortened none rest place over zero = no_type refl
shortened none [] place over (suc k) = same refl
shortened none (byte ∷ rest) place (suc over) (suc k) = ended_at (omega arith) (shortened none rest (place + 1) over k)
shortened none (code ∷ []) place zero (suc zero) = same refl
shortened none (code ∷ []) place zero (suc (suc k)) = same refl
shortened none (code ∷ len ∷ rest) place zero (suc zero) = no_type refl
shortened none (code ∷ len ∷ rest) place zero (suc (suc k)) =
    both (eqb code 255) (same refl)
    (both (eqb code 0) (ended_at (omega arith) (shortened none (len ∷ rest) (place + 1) 0 (suc k)))
    (both (decides code len) (ended_at (omega arith) (value_cut place k rest)) (ended_at (omega arith) (shortened none rest (place + 2) len k))))

take_of_nil : (n : ℕ) → take {A = ℕ} n [] ≡ []
take_of_nil zero = refl
take_of_nil (suc n) = refl

-- what is dropped of the first bytes
drop-take : (n k : ℕ) (s : List ℕ) → drop n (take (n + k) s) ≡ take k (drop n s)
drop-take zero k s = ap (λ (m : ℕ). take m s) (zero-add k)
drop-take (suc n) k [] = ap (drop (suc n)) (take_of_nil (suc n + k)) ∙ sym (take_of_nil k)
drop-take (suc n) k (x ∷ s) =
    let next : suc n + k ≡ suc (n + k) = omega arith in
    ap (λ (m : ℕ). drop (suc n) (take m (x ∷ s))) next ∙ drop-take n k s

-- the first `k` bytes of a message, beside the whole of it, with any number for a message without a type
pub cut_short_or : (none : ℕ) (message : List ℕ) (k : ℕ) → Shortened none (walk_or none message) (walk_or none (take k message)) k
unfolding walk_or
cut_short_or none message k =
    by_test (leb k 240)
    (λ e. no_type (ap (walk_from none 240 0) (drop_of_length-le (take k message) {i = 240} (simp length-take (omega (arith, leb-true k 240 e)))) ∙ end_of_data none 240))
    (λ e.
    let long : k ≡ 240 + (k - 240) = omega (arith, leb-false k 240 e) in
    ended_at (sym long)
    (subst (λ (s : List ℕ). Shortened none (walk_from none 240 0 (drop 240 message)) (walk_from none 240 0 s) (240 + (k - 240)))
    (sym (ap (λ (n : ℕ). drop 240 (take n message)) long ∙ drop-take 240 (k - 240) message))
    (shortened none (drop 240 message) 240 0 (k - 240))))

-- with document 01's number for it, 0
pub cut_short : (message : List ℕ) (k : ℕ) → Shortened 0 (walk message) (walk (take k message)) k
unfolding walk walk_or
cut_short message k = cut_short_or 0 message k

-- what `message_type` answers on the first bytes, beside what it answers on all: the same, no type, or a cut where two bytes are left
pub data ShortAnswer (whole part : Result (Option ℕ) CutAt) (ended : ℕ) : Type 0 where
  same : part ≡ whole → ShortAnswer whole part ended
  no_type : part ≡ Ok None → ShortAnswer whole part ended
  cut_off : (at : CutAt) → at.0 + 2 ≡ ended → part ≡ Err at → ShortAnswer whole part ended

-- A type is no number for "none" that is one more than it.
type_told : (type k : ℕ) (whole : Result (Option ℕ) CutAt) → Shortened (suc type) (walked_or (suc type) whole) (typed type) k → ShortAnswer whole (Ok (Some type)) k
type_told type k (Ok (Some other)) (same e) = same cc
type_told type k (Ok None) (same e) = let no : type ≡ suc type = cc in absurd (omega arith)
type_told type k (Err at) (same e) = cc
type_told type k whole (no_type e) = let no : type ≡ suc type = cc in absurd (omega arith)
type_told type k whole (cut_off place ended e) = cc

cut_told : (at : CutAt) (k : ℕ) (whole : Result (Option ℕ) CutAt) → Shortened 0 (walked_or 0 whole) (cut at.0) k → ShortAnswer whole (Err at) k
cut_told at k (Ok (Some other)) (same e) = cc
cut_told at k (Ok None) (same e) = cc
cut_told at k (Err place) (same e) = let there : at.0 ≡ place.0 = cc in let refused : ℕ → Result (Option ℕ) CutAt = λ n. Err (record { 0 = n }) in same (ap refused there)
cut_told at k whole (no_type e) = cc
cut_told at k whole (cut_off place ended e) = let there : at.0 ≡ place = cc in cut_off at (omega (arith, there, ended)) refl

told : (k : ℕ) (whole part : Result (Option ℕ) CutAt) → ((none : ℕ) → Shortened none (walked_or none whole) (walked_or none part) k) → ShortAnswer whole part k
told k whole (Ok (Some type)) s = type_told type k whole (s (suc type))
told k whole (Ok None) s = no_type refl
told k whole (Err at) s = cut_told at k whole (s 0)

-- by what the two calls promise
pub cut_short_answers : (message : List ℕ) (k : ℕ) (whole part : Result (Option ℕ) CutAt)
    → ((none : ℕ) → walked_or none whole ≡ walk_or none message)
    → ((none : ℕ) → walked_or none part ≡ walk_or none (take k message)) → ShortAnswer whole part k
cut_short_answers message k whole part w p = told k whole part (λ none. rw (w none, p none) (cut_short_or none message k))
