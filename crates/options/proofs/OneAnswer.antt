-- The contract leaves one answer: whatever meets it twice on the same message has answered the same twice.
use Prim.Native.Nat.{ℕ, suc}
use mathlib.Core.Path.{◌≡◌, refl, ap, sym, ◌∙◌}
use mathlib.Core.List.{List}
use native.Mathlib.Omega.{arith}
use Rattle.std.specs.Prelude.{Option, Some, None, Result, Ok, Err}
use Rattle.std.specs.Option.{unwrap_or}
use Rattle.options.specs.Found.{walked_or, walked_as}
use Rattle.options.specs.Rfc2132.{Walked, walk, walk_or}
use Rattle.options.specs.declared.CutAt.{CutAt}

-- What the walk gives with every number for a message without a type, it gives with 0 too.
pub both : (ends : ℕ → Walked) (message : List ℕ) → ((none : ℕ) → ends none ≡ walk_or none message)
    → record { walked : ends 0 ≡ walk message; determined : (none : ℕ) → ends none ≡ walk_or none message }
unfolding walk walk_or
both ends message e = record { walked = e 0; determined = e }

-- A type is told from none by one more than it.
pub walked_one_to_one : (f g : Result (Option ℕ) CutAt) → ((none : ℕ) → walked_or none f ≡ walked_or none g) → f ≡ g
walked_one_to_one (Ok (Some type)) (Ok (Some other)) e = let same = e 0 in cc
walked_one_to_one (Ok (Some type)) (Ok None) e = let same = e (suc type) in let no : type ≡ suc type = cc in absurd (omega arith)
walked_one_to_one (Ok (Some type)) (Err at) e = let same = e 0 in cc
walked_one_to_one (Ok None) (Ok (Some other)) e = let same = e (suc other) in let no : suc other ≡ other = cc in absurd (omega arith)
walked_one_to_one (Ok None) (Ok None) e = refl
walked_one_to_one (Ok None) (Err at) e = let same = e 0 in cc
walked_one_to_one (Err at) (Ok (Some other)) e = let same = e 0 in cc
walked_one_to_one (Err at) (Ok None) e = let same = e 0 in cc
walked_one_to_one (Err at) (Err place) e = let same = e 0 in let there : at.0 ≡ place.0 = cc in let refused : ℕ → Result (Option ℕ) CutAt = λ n. Err (record { 0 = n }) in ap refused there

pub message_type_answers_once : (message : List ℕ) (f g : Result (Option ℕ) CutAt) → ((none : ℕ) → walked_or none f ≡ walk_or none message)
    → ((none : ℕ) → walked_or none g ≡ walk_or none message) → f ≡ g
message_type_answers_once message f g p q = walked_one_to_one f g (λ none. p none ∙ sym (q none))

-- The answer in document 01's numbers, where a message without a type and one of type 0 are one.
abbrev pub as_found : Result (Option ℕ) CutAt → Result ℕ CutAt
as_found (Ok found) = Ok (unwrap_or found 0)
as_found (Err at) = Err at

-- The clause in document 01's numbers leaves one answer in these numbers.
pub found_one_to_one : (f g : Result (Option ℕ) CutAt) → walked_as f ≡ walked_as g → as_found f ≡ as_found g
found_one_to_one (Ok (Some type)) (Ok (Some other)) e = cc
found_one_to_one (Ok (Some type)) (Ok None) e = cc
found_one_to_one (Ok (Some type)) (Err at) e = cc
found_one_to_one (Ok None) (Ok (Some other)) e = cc
found_one_to_one (Ok None) (Ok None) e = refl
found_one_to_one (Ok None) (Err at) e = cc
found_one_to_one (Err at) (Ok (Some other)) e = cc
found_one_to_one (Err at) (Ok None) e = cc
found_one_to_one (Err at) (Err place) e = let there : at.0 ≡ place.0 = cc in let refused : ℕ → Result ℕ CutAt = λ n. Err (record { 0 = n }) in ap refused there

pub found_answers_once : (message : List ℕ) (f g : Result (Option ℕ) CutAt) → walked_as f ≡ walk message → walked_as g ≡ walk message
    → as_found f ≡ as_found g
found_answers_once message f g p q = found_one_to_one f g (p ∙ sym q)
