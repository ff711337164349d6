-- What a cut place says: from there on the message is an option 53 with a length of one or more, and nothing behind it.
use Prim.Native.Nat.{ℕ, zero, suc, ◌+◌, ◌≤◌}
use mathlib.Core.Bool.{Bool, true, false, ◌&&◌, false≢true, cond}
use mathlib.Core.Path.{◌≡◌, refl, ap, sym, ◌∙◌}
use mathlib.Core.List.{List, [], ◌∷◌}
use native.Mathlib.Omega.{arith}
use borrow.Author.Tests.{eqb-true, leb-true}
use lib.ListN.{drop}
use lib.Seq.{drop-drop}
use lib.Dec.{eqb, leb}
use Rattle.options.specs.Rfc2132.{typed, cut, decides, type_at, walk, walk_from}

pub record LastOption (message : List ℕ) (place : ℕ) : Type 0 where
  pub behind_cookie : 240 ≤ place
  pub len : ℕ
  pub some : 1 ≤ len
  pub last_two : drop place message ≡ 53 ∷ len ∷ []

-- the same of `rest`, which starts at `from` and has `over` bytes before the option
record EndsCut (rest : List ℕ) (from place : ℕ) : Type 0 where
  pub over : ℕ
  pub there : place ≡ from + over
  pub len : ℕ
  pub some : 1 ≤ len
  pub last_two : drop over rest ≡ 53 ∷ len ∷ []

-- further on in the same bytes
further : {rest : List ℕ} {from place : ℕ} (n : ℕ) (all : List ℕ) → drop n all ≡ rest → EndsCut rest (from + n) place → EndsCut all from place
further {rest} {from} {place} n all e c =
    record {
      over = n + c.over;
      there = omega (arith, c.there);
      len = c.len;
      some = c.some;
      last_two = sym (drop-drop c.over n all) ∙ ap (drop c.over) e ∙ c.last_two;
    }

decides_true : (code len : ℕ) → decides code len ≡ true → (code ≡ 53) × (1 ≤ len)
decides_true code len e = go (eqb code 53) (leb 1 len) refl refl e
  where
    go : (s t : Bool) → eqb code 53 ≡ s → leb 1 len ≡ t → (s && t) ≡ true → (code ≡ 53) × (1 ≤ len)
    go true true p q r = (eqb-true code 53 p, leb-true 1 len q)
    go true false p q r = absurd (false≢true r)
    go false t p q r = absurd (false≢true r)

here : (code len from place : ℕ) (rest : List ℕ) → decides code len ≡ true → type_at from rest ≡ cut place → EndsCut (code ∷ len ∷ rest) from place
here code len from place [] d e =
    let c = decides_true code len d in
    record {
      over = 0;
      there = let same : from ≡ place = cc in omega arith;
      len = len;
      some = c.1;
      last_two = ap (λ (x : ℕ). x ∷ len ∷ []) c.0;
    }
here code len from place (type ∷ rest) d e = cc

ends_there : (rest : List ℕ) (from over place : ℕ) → walk_from 0 from over rest ≡ cut place → EndsCut rest from place
unfolding walk_from
ends_there [] from over place e = cc
ends_there (byte ∷ rest) from (suc over) place e = further 1 (byte ∷ rest) refl (ends_there rest (from + 1) over place e)
ends_there (code ∷ []) from zero place e = cc
ends_there (code ∷ len ∷ rest) from zero place e =
    go (eqb code 255) (eqb code 0) (decides code len) refl e (ends_there (len ∷ rest) (from + 1) 0 place) (ends_there rest (from + 2) len place)
  where
    go : (s t u : Bool) → decides code len ≡ u
        → cond s (typed 0) (cond t (walk_from 0 (from + 1) 0 (len ∷ rest)) (cond u (type_at from rest) (walk_from 0 (from + 2) len rest))) ≡ cut place
        → (walk_from 0 (from + 1) 0 (len ∷ rest) ≡ cut place → EndsCut (len ∷ rest) (from + 1) place)
        → (walk_from 0 (from + 2) len rest ≡ cut place → EndsCut rest (from + 2) place) → EndsCut (code ∷ len ∷ rest) from place
    go true t u d p pad other = cc
    go false true u d p pad other = further 1 (code ∷ len ∷ rest) refl (pad p)
    go false false true d p pad other = here code len from place rest d p
    go false false false d p pad other = further 2 (code ∷ len ∷ rest) refl (other p)

-- where the walk says that the message is cut at `place`, its last two bytes stand there
pub cut_place : (message : List ℕ) (place : ℕ) → walk message ≡ cut place → LastOption message place
unfolding walk
cut_place message place e =
    let c = ends_there (drop 240 message) 240 0 place e in
    record {
      behind_cookie = omega (arith, c.there);
      len = c.len;
      some = c.some;
      last_two = ap (λ (n : ℕ). drop n message) c.there ∙ sym (drop-drop c.over 240 message) ∙ c.last_two;
    }
