-- How a DHCP list starts: its first byte says which form it has, and with it where the rest goes on. So it is read in one way only.
use Prim.Native.Nat.{ℕ, suc, ◌+◌, ◌≤◌}
use mathlib.Core.Path.{◌≡◌, ap, sym, subst, ◌∙◌}
use mathlib.Core.List.{List, [], ◌∷◌, ◌++◌}
use native.Mathlib.Omega.{arith}
use lib.ListN.{length, drop, replicate, get_or, length-append}
use lib.Seq.{drop_at}
use Rattle.grammar.specs.Grammar.{pad, option, ItemList, END, item, IsList}

pub no_cons : {A : Type 0} (x : A) (l : List A) → ◌≡◌ {A = List A} [] (x ∷ l) → ⊥
no_cons {A} x l e = subst Empty e tt
  where
    Empty : List A → Type 0
    Empty [] = Unit
    Empty (y ∷ m) = ⊥

pub head_same : (x y : ℕ) (l m : List ℕ) → x ∷ l ≡ y ∷ m → x ≡ y
head_same x y l m e = ap (λ (s : List ℕ). get_or s 0 0) e

pub tail_same : {A : Type 0} (x y : A) (l m : List A) → ◌≡◌ {A = List A} (x ∷ l) (y ∷ m) → l ≡ m
tail_same x y l m e = ap (drop 1) e

-- A list whose bytes are `x` and then `l`, from the place `at` on.
pub data Starts (at x : ℕ) (l : List ℕ) : ItemList → Type 0 where
  ends : (zeros : ℕ) → x ≡ 255 → l ≡ replicate zeros 0 → Starts at x l (END at zeros)
  pads : (rest : ItemList) → x ≡ 0 → IsList (at + 1) l rest → Starts at x l (item (pad at) rest)
  opts : (len : ℕ) (m : List ℕ) (rest : ItemList) → 1 ≤ x → x ≤ 254 → l ≡ len ∷ m → len ≤ length m → IsList (at + 2 + len) (drop len m) rest
      → Starts at x l (item (option at x len) rest)

pub list_nil : (at : ℕ) (items : ItemList) → IsList at [] items → ⊥
unfolding IsList
list_nil at (END place zeros) h = no_cons 255 (replicate zeros 0) h.1
list_nil at (item (pad place) rest) (a, b, e, (p, f), more) = no_cons 0 b (e ∙ ap (λ (l : List ℕ). l ++ b) f)
list_nil at (item (option place code len) rest) (a, b, e, (value, p, least, most, size, f), more) = no_cons code (len ∷ value ++ b) (e ∙ ap (λ (l : List ℕ). l ++ b) f)

pub starts : (at x : ℕ) (l : List ℕ) (items : ItemList) → IsList at (x ∷ l) items → Starts at x l items
unfolding IsList
starts at x l (END place zeros) h =
    subst (λ (n : ℕ). Starts at x l (END n zeros)) (sym h.0)
    (ends zeros (head_same x 255 l (replicate zeros 0) h.1) (tail_same x 255 l (replicate zeros 0) h.1))
starts at x l (item (pad place) rest) (a, b, e, (p, f), more) =
    let whole : x ∷ l ≡ 0 ∷ b = e ∙ ap (λ (m : List ℕ). m ++ b) f in
    let next = subst (λ (m : List ℕ). IsList (at + length m) b rest) f more in
    subst (λ (n : ℕ). Starts at x l (item (pad n) rest)) (sym p)
    (pads rest (head_same x 0 l b whole) (subst (λ (m : List ℕ). IsList (at + 1) m rest) (sym (tail_same x 0 l b whole)) next))
starts at x l (item (option place code len) rest) (a, b, e, (value, p, least, most, size, f), more) =
    let whole : x ∷ l ≡ code ∷ len ∷ value ++ b = e ∙ ap (λ (m : List ℕ). m ++ b) f in
    let code_is : x ≡ code = head_same x code l (len ∷ value ++ b) whole in
    let there : at + suc (suc (length value)) ≡ at + 2 + len = omega (arith, size) in
    let next = subst (λ (m : List ℕ). IsList (at + length m) b rest) f more in
    let rest-is = subst (λ (n : ℕ). IsList n b rest) there next in
    subst (λ (n : ℕ). Starts at x l (item (option n code len) rest)) (sym p)
    (subst (λ (n : ℕ). Starts at x l (item (option at n len) rest)) code_is
    (opts len (value ++ b) rest (subst (λ (n : ℕ). 1 ≤ n) (sym code_is) least) (subst (λ (n : ℕ). n ≤ 254) (sym code_is) most) (tail_same x code l (len ∷ value ++ b) whole)
    (omega (arith, size, length-append value b))
    (subst (λ (m : List ℕ). IsList (at + 2 + len) m rest) (sym (drop_at value b len size)) rest-is)))
