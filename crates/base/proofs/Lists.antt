-- Lists of bytes: a list of known length is its elements, and what a buffer holds after pieces are put into it.
use Prim.Native.Nat.{ℕ, zero, suc, ◌+◌, ◌≤◌, ◌<◌, ◌-◌}
use mathlib.Core.Path.{◌≡◌, refl, ap, ap₂, sym, ◌∙◌}
use mathlib.Core.List.{List, ◌∷◌, ◌++◌, append_assoc, append-nil}
use native.Mathlib.Decide.{dec_lt}
use native.Mathlib.Omega.{arith}
use borrow.Author.Tests.{le-leb, lt-leb}
use lib.ListN.{length, get_or, take, drop, length-append, length-take, length-drop, drop_of_length-le, take-append-drop, get_or-append}
use native.Mathlib.Nat.{add_assoc, zero-add, le_of_eq}
use lib.Seq.{drop-cons, take_all, take-length, drop-drop, take_at, drop_at, length-take-le, take-append_seam, take-append-le, take-take, get_or-append-add, get_or-take, get_or-drop}
use Rattle.base.specs.Bytes.{part, bytes_at}
use Rattle.base.specs.Buffer.{put, put_if_fits}

-- a part that lies within the list is its bytes, one by one
pub part_bytes : (s : List ℕ) (n a : ℕ) → a + n ≤ length s → take n (drop a s) ≡ bytes_at s a n
part_bytes s zero a h = refl
part_bytes s (suc n) a h = rw (drop-cons s a 0 (omega arith)) (ap (λ (l : List ℕ). get_or s a 0 ∷ l) (part_bytes s n (suc a) (omega arith)))

-- a list of length `n` is its `n` elements
pub all_bytes_lem : (s : List ℕ) (n : ℕ) → length s ≡ n → s ≡ bytes_at s 0 n
all_bytes_lem s n h = sym (take_all n s (omega arith)) ∙ part_bytes s n 0 (omega arith)

-- a slice from `n` on, as the code takes it
pub from_on : (n : ℕ) (s : List ℕ) → take (length s - n) (drop n s) ≡ drop n s
from_on n s = take_all (length s - n) (drop n s) (omega (arith, length-drop n s))

module _ (at : ℕ) (s b : List ℕ) (fits : at + length s ≤ length b) where
  -- what lies in front of a piece's end
  length_front : length (take at b ++ s) ≡ at + length s
  length_front = simp (length-append, length-take) (omega arith)

  -- a buffer keeps its length
  pub length-put : length (put at s b) ≡ length b
  unfolding put
  length-put = simp (length-append, length-take, length-drop) (omega arith)

  -- what was put is there
  pub part-put : part (put at s b) at (length s) ≡ s
  unfolding put
  part-put = rw (append_assoc, drop_at (take at b) (s ++ drop (at + length s) b) at (length-take-le at b (omega arith))) (take-append_seam s _)

  -- behind it the buffer is as it was
  pub drop-put : drop (at + length s) (put at s b) ≡ drop (at + length s) b
  unfolding put
  drop-put = drop_at (take at b ++ s) _ _ length_front

  -- a byte of the piece
  pub byte_put : (place : ℕ) → at ≤ place → place < at + length s → get_or (put at s b) place 0 ≡ get_or s (place - at) 0
  unfolding put
  byte_put place l u =
      let here : place ≡ length (take at b) + (place - at) = omega (arith, length-take-le at b (omega arith)) in
      get_or-append (take at b ++ s) _ 0 place (omega (arith, length_front))
      ∙ ap (λ (k : ℕ). get_or (take at b ++ s) k 0) here
      ∙ get_or-append-add (take at b) s (place - at) 0

  -- a byte beside it
  pub byte_beside : (place : ℕ) → (at ≤ place → at + length s ≤ place) → get_or (put at s b) place 0 ≡ get_or b place 0
  unfolding put
  byte_beside place out = go (dec_lt place at)
    where
      go : Dec (place < at) → get_or (take at b ++ s ++ drop (at + length s) b) place 0 ≡ get_or b place 0
      go (yes h) =
          get_or-append (take at b ++ s) _ 0 place (omega (arith, length_front))
          ∙ get_or-append (take at b) s 0 place (omega (arith, length-take-le at b (omega arith)))
          ∙ get_or-take at b place 0 h
      go (no h) =
          let behind : at + length s ≤ place = out (omega arith) in
          let here : place ≡ length (take at b ++ s) + (place - (at + length s)) = omega (arith, length_front) in
          ap (λ (k : ℕ). get_or (take at b ++ s ++ drop (at + length s) b) k 0) here
          ∙ get_or-append-add (take at b ++ s) _ (place - (at + length s)) 0
          ∙ get_or-drop (at + length s) b (place - (at + length s)) 0
          ∙ ap (λ (k : ℕ). get_or b k 0) (omega arith)

-- what a copy into the rest of a buffer from `at` on leaves in the whole of it
pub copied : (at : ℕ) (s b rest : List ℕ) → at ≤ length b
    → rest ≡ take (length s) s ++ drop (length s) (take (length b - at) (drop at b))
    → take at b ++ (rest ++ drop (length b - at) (drop at b)) ≡ put at s b
unfolding put
copied at s b rest h e =
    rw (e, take-length s, take_all (length b - at) (drop at b) (le_of_eq (length-drop at b)), drop_of_length-le (drop at b) {i = length b - at} (le_of_eq (length-drop at b)))
    (simp (append-nil, append_assoc, drop-drop))

-- a piece that is put where it fits, and left where it does not
module _ (at : ℕ) (s b : List ℕ) where
  pub fits : at + length s ≤ length b → put_if_fits at s b ≡ put at s b
  unfolding put_if_fits
  fits h = simp (le-leb (at + length s) (length b) h)

  pub no_fit : length b < at + length s → put_if_fits at s b ≡ b
  unfolding put_if_fits
  no_fit h = simp (lt-leb (at + length s) (length b) h)

-- what is put at the front
pub put_front : (s b : List ℕ) → put 0 s b ≡ s ++ drop (length s) b
unfolding put
put_front s b = ap (λ (n : ℕ). s ++ drop n b) (zero-add (length s))

-- what is put over all of a buffer
pub put_over : (s b : List ℕ) → length b ≤ length s → put 0 s b ≡ s
put_over s b h = put_front s b ∙ ap (λ (rest : List ℕ). s ++ rest) (drop_of_length-le b h) ∙ append-nil s

-- a piece written at the front of what lies from `at` on, as the code hands a part of a buffer on
pub put_in_part : (at : ℕ) (s b rest after : List ℕ) → at + length s ≤ length b → rest ≡ put_if_fits 0 s (take (length b - at) (drop at b))
    → after ≡ take at b ++ (rest ++ drop (length b - at) (drop at b)) → after ≡ put at s b
put_in_part at s b rest after h r p =
    let part_of = take (length b - at) (drop at b) in
    let there : rest ≡ put 0 s part_of = r ∙ fits 0 s part_of (simp (length-take, length-drop) (omega arith)) in
    p ∙ copied at s b rest (omega arith) (there ∙ put_front s part_of ∙ ap (λ (l : List ℕ). l ++ drop (length s) part_of) (sym (take-length s)))

-- two pieces, the second right behind the first, are one piece
pub put-put : (at : ℕ) (s t b : List ℕ) → at + (length s + length t) ≤ length b → put (at + length s) t (put at s b) ≡ put at (s ++ t) b
unfolding put
put-put at s t b h = ap₂ (λ (x y : List ℕ). x ++ t ++ y) front behind ∙ regroup
  where
    there : at + length s ≤ length b
    there = omega arith

    front : take (at + length s) (put at s b) ≡ take at b ++ s
    front = take_at (take at b ++ s) _ _ (length_front at s b there)

    behind : drop (at + length s + length t) (put at s b) ≡ drop (at + length s + length t) b
    behind = sym (drop-drop (length t) (at + length s) _) ∙ ap (drop (length t)) (drop-put at s b there) ∙ drop-drop (length t) (at + length s) b

    regroup : take at b ++ s ++ t ++ drop (at + length s + length t) b ≡ put at (s ++ t) b
    regroup = simp (append_assoc, length-append, add_assoc)

-- two pieces, the second put first, and the first right in front of it
pub put_in_front : (at : ℕ) (s t b : List ℕ) → at + (length s + length t) ≤ length b → put at s (put (at + length s) t b) ≡ put at (s ++ t) b
unfolding put
put_in_front at s t b h = ap₂ (λ (x y : List ℕ). x ++ s ++ y) front behind ∙ regroup
  where
    long : length (take (at + length s) b) ≡ at + length s
    long = length-take-le (at + length s) b (omega arith)

    front : take at (take (at + length s) b ++ t ++ drop (at + length s + length t) b) ≡ take at b
    front =
        ap (take at) (append_assoc (take (at + length s) b) t _)
        ∙ take-append-le at (take (at + length s) b) (t ++ drop (at + length s + length t) b) (omega (arith, long))
        ∙ take-take at (at + length s) b (omega arith)

    behind : drop (at + length s) (take (at + length s) b ++ t ++ drop (at + length s + length t) b) ≡ t ++ drop (at + length s + length t) b
    behind = ap (drop (at + length s)) (append_assoc (take (at + length s) b) t _) ∙ drop_at (take (at + length s) b) (t ++ drop (at + length s + length t) b) (at + length s) long

    regroup : take at b ++ s ++ (t ++ drop (at + length s + length t) b) ≡ put at (s ++ t) b
    regroup = simp (append_assoc, length-append, add_assoc)

-- a header in front of `len` bytes that lie behind it already
pub put_before : (h b : List ℕ) (len : ℕ) → length h + len ≤ length b → put 0 h b ≡ (h ++ part b (length h) len) ++ drop (length h + len) b
put_before h b len fits = put_front h b ∙ ap (λ (l : List ℕ). h ++ l) (sym behind) ∙ sym (append_assoc h _ _)
  where
    behind : part b (length h) len ++ drop (length h + len) b ≡ drop (length h) b
    behind = rw (← drop-drop len (length h) b) (take-append-drop len (drop (length h) b))
