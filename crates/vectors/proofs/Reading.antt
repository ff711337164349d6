-- Reading a line's characters one by one: what was read and what is left make up the whole.
use Rattle.std.proofs.Common.{◌≡◌, ℕ, zero, suc, ◌+◌, ◌-◌, ◌*◌, ◌<◌, ◌≤◌, Bool, true, false, Option, Some, None, cond, eqb, List, [], ◌∷◌, ◌++◌, length, get_or, take, drop, set, refl, ◌∙◌, append_assoc, append-nil, add-one, arith, length-set, drop_of_length-le, length-take-le, drop-cons, take-suc-set, lt-ltb, eq-eqb, ne_eqb}
use native.Mathlib.Nat.{sub-zero}
use borrow.Author.Tests.{eqb-false}
use Rattle.vectors.specs.Lines.{digit, digits, pairs, are_bytes, bytes_of, read_of, ReadInto}

-- the first digit of a byte, where one waits for its second
unfoldable pub waiting : ℕ → List ℕ
waiting high = cond (eqb high 16) [] (high ∷ [])

-- the digits that are still to make bytes
unfoldable pub left : ℕ → List ℕ → List ℕ
left high signs = waiting high ++ digits signs

-- Halfway through a line: `len` bytes are read, `high` is the digit that waits, and the character `i` comes next.
pub record Halfway (signs : List ℕ) (room : ℕ) (line : List ℕ) (len high i : ℕ) : Type 0 where
  pub within : i ≤ length signs
  pub fits : len ≤ room
  pub same_room : length line ≡ room
  pub small : high ≤ 16
  pub valid : are_bytes room (digits signs) ≡ are_bytes (room - len) (left high (drop i signs))
  pub made : pairs (digits signs) ≡ take len line ++ pairs (left high (drop i signs))

pub starts : (signs line : List ℕ) → Halfway signs (length line) line 0 16 0
unfolding left waiting
starts signs line = record { within = omega arith; fits = omega arith; same_room = refl; small = omega arith; valid = simp sub-zero; made = refl }

-- Digits that are no bytes: one that is none, one too many, and half a byte.
no_digit : (n high : ℕ) (t : List ℕ) → high ≤ 16 → are_bytes n (waiting high ++ (16 ∷ t)) ≡ false
unfolding are_bytes waiting
no_digit n high t small = by (eqb high 16) refl
  where
    alone : (n : ℕ) (t : List ℕ) → are_bytes n (16 ∷ t) ≡ false
    alone n [] = refl
    alone zero (l ∷ t) = refl
    alone (suc n) (l ∷ t) = refl

    second : (n : ℕ) → high < 16 → are_bytes n (high ∷ 16 ∷ t) ≡ false
    second zero h = refl
    second (suc n) h = simp (lt-ltb high 16 h)

    by : (b : Bool) → eqb high 16 ≡ b → are_bytes n (waiting high ++ (16 ∷ t)) ≡ false
    by true e = simp e (alone n t)
    by false e = let d : (high ≡ 16 → ⊥) = eqb-false high 16 e in simp e (second n (omega arith))

no_room : (n high x : ℕ) (t : List ℕ) → n ≡ 0 → are_bytes n (waiting high ++ (x ∷ t)) ≡ false
unfolding are_bytes waiting
no_room n high x t e = rw e (by (eqb high 16) refl)
  where
    some : (x : ℕ) (t : List ℕ) → are_bytes 0 (x ∷ t) ≡ false
    some x [] = refl
    some x (l ∷ t) = refl

    by : (b : Bool) → eqb high 16 ≡ b → are_bytes 0 (waiting high ++ (x ∷ t)) ≡ false
    by true e = simp e (some x t)
    by false e = simp e (some high (x ∷ t))

half : (n high : ℕ) → (high ≡ 16 → ⊥) → are_bytes n (waiting high ++ []) ≡ false
unfolding are_bytes waiting
half n high d = simp (ne_eqb high 16 d)

-- two digits are a byte
two : (n h l : ℕ) (t : List ℕ) → h < 16 → l < 16 → are_bytes (suc n) (h ∷ l ∷ t) ≡ are_bytes n t
unfolding are_bytes
two n h l t hh hl = simp (lt-ltb h 16 hh, lt-ltb l 16 hl)

module _ {signs line : List ℕ} {room len high i : ℕ} (s : Halfway signs room line len high i) where
  module _ (more : i < length signs) where
    space : get_or signs i 0 ≡ 32 → digits (drop i signs) ≡ digits (drop (i + 1) signs)
    unfolding digits
    space e = rw (add-one, drop-cons signs i 0 more) (simp e)

    sign : (get_or signs i 0 ≡ 32 → ⊥) → (d : ℕ) → d ≡ digit (get_or signs i 0) → digits (drop i signs) ≡ d ∷ digits (drop (i + 1) signs)
    unfolding digits
    sign n d e = rw (e, add-one, drop-cons signs i 0 more) (simp (ne_eqb (get_or signs i 0) 32 n))

    pub past_space : get_or signs i 0 ≡ 32 → Halfway signs room line len high (i + 1)
    unfolding left
    past_space e =
        record {
          within = omega arith;
          fits = s.fits;
          same_room = s.same_room;
          small = s.small;
          valid = s.valid ∙ rw (space e) refl;
          made = s.made ∙ rw (space e) refl;
        }

    module _ (n : get_or signs i 0 ≡ 32 → ⊥) (d : ℕ) (e : d ≡ digit (get_or signs i 0)) where
      pub wrong : d ≡ 16 → are_bytes room (digits signs) ≡ false
      unfolding left
      wrong z = s.valid ∙ rw (sign n d e, z) (no_digit (room - len) high (digits (drop (i + 1) signs)) s.small)

      pub full : room ≤ len → are_bytes room (digits signs) ≡ false
      unfolding left
      full z = s.valid ∙ rw (sign n d e) (no_room (room - len) high d (digits (drop (i + 1) signs)) (omega arith))

      pub first : (d ≡ 16 → ⊥) → d ≤ 16 → high ≡ 16 → Halfway signs room line len d (i + 1)
      unfolding left waiting
      first f b w =
          record {
            within = omega arith;
            fits = s.fits;
            same_room = s.same_room;
            small = b;
            valid = s.valid ∙ rw (sign n d e) (simp (eq-eqb high 16 w, ne_eqb d 16 f));
            made = s.made ∙ rw (sign n d e) (simp (eq-eqb high 16 w, ne_eqb d 16 f));
          }

      pub second : d < 16 → high < 16 → len < room → Halfway signs room (set line len (high * 16 + d)) (len + 1) 16 (i + 1)
      unfolding left waiting pairs
      second hd hh hl =
          let t = digits (drop (i + 1) signs) in
          let n' : (high ≡ 16 → ⊥) = λ z. omega arith in
          let k : room - len ≡ suc (room - (len + 1)) = omega arith in
          record {
            within = omega arith;
            fits = omega arith;
            same_room = length-set line len (high * 16 + d) ∙ s.same_room;
            small = omega arith;
            valid = s.valid ∙ rw (sign n d e) (simp (ne_eqb high 16 n') (rw k (two (room - (len + 1)) high d t hh hd)));
            made = s.made ∙ rw (sign n d e) (simp (ne_eqb high 16 n') (rw (add-one len, take-suc-set line len (high * 16 + d) (omega arith), append_assoc) refl));
          }

  module _ (over : length signs ≤ i) where
    pub whole : high ≡ 16 → (are_bytes room (digits signs) ≡ true) × (pairs (digits signs) ≡ take len line)
    unfolding left waiting are_bytes pairs digits
    whole w = (s.valid ∙ rw (drop_of_length-le signs over) (simp (eq-eqb high 16 w)), s.made ∙ rw (drop_of_length-le signs over) (simp (eq-eqb high 16 w, append-nil)))

    pub broken : (high ≡ 16 → ⊥) → are_bytes room (digits signs) ≡ false
    unfolding left digits
    broken w = s.valid ∙ rw (drop_of_length-le signs over) (half (room - len) high w)

-- The answers: no bytes, or as many as the digits make.
module _ (room : ℕ) (signs line : List ℕ) (r : Option ℕ) where
  pub refused : r ≡ None → are_bytes room (digits signs) ≡ false → ReadInto room signs line r
  unfolding read_of bytes_of
  refused e v = rw e (record { says = simp v; bytes = simp v; fits = omega arith })

  pub taken : (len : ℕ) → len ≤ room → length line ≡ room → r ≡ Some len → (are_bytes room (digits signs) ≡ true) × (pairs (digits signs) ≡ take len line) → ReadInto room signs line r
  unfolding read_of bytes_of
  taken len h l e v = rw e (record { says = simp (v.0, v.1, length-take-le len line (omega arith)); bytes = simp (v.0, v.1); fits = h })
