-- The Rust's operations, by whether what they ask for is there.
use Prim.Native.Nat.{ℕ, zero, suc, ◌+◌, ◌-◌, ◌/◌, ◌%◌, ◌≤◌, ◌<◌}
use mathlib.Core.Path.{◌≡◌, refl, ap, sym, ◌∙◌}
use mathlib.Core.Bool.{Bool, true, false, ◌&&◌, cond}
use mathlib.Core.List.{List, [], ◌∷◌, ◌++◌, append_assoc, append-nil}
use native.Mathlib.Omega.{arith}
use borrow.Author.Tests.{lt-ltb, le-ltb, ltb-true, ltb-false, le-leb, lt-leb, eq-eqb}
use native.Mathlib.Nat.{add_assoc}
use lib.ListN.{length, get_or, take, drop, length-append, length-replicate, replicate-append-replicate}
use lib.Seq.{take_at, drop_at}
use lib.Dec.{ltb, leb}
use Rattle.base.specs.Bytes.{be16, be32, bytes_at}
use Rattle.equals_rust.specs.Types.{Bytes}
use Rattle.published.specs.Rust.{Run, gives, panics, cuts, unfinished, ◌>>=◌, Slice, len_of, index, range, array, zeros, store, copy, u32_to_be}

-- how a run ends, as a number: runs that end differently are not equal
abbrev pub ending : {A : Type 0} → Run A → ℕ
ending (gives value) = 0
ending panics = 1
ending cuts = 2
ending unfinished = 3

abbrev given : {A : Type 0} → A → Run A → A
given d (gives value) = value
given d panics = d
given d cuts = d
given d unfinished = d

pub gives_one : {A : Type 0} (a b : A) → gives a ≡ gives b → a ≡ b
gives_one a b e = ap (given a) e

-- the same run, and then the same with every value that it can give
pub same_next : {A B : Type 0} (m : Run A) (f g : A → Run B) → ((value : A) → f value ≡ g value) → (m >>= f) ≡ (m >>= g)
same_next m f g h = λ i. m >>= λ value. h value i

module _ (s : Slice) where
  pub index_in : (i : ℕ) → i < len_of s → index s i ≡ gives (get_or s.bytes i 0)
  unfolding index
  index_in i h = simp (lt-ltb i (len_of s) h)

  pub index_past : (i : ℕ) → len_of s ≤ i → index s i ≡ panics
  unfolding index
  index_past i h = simp (le-ltb i (len_of s) h)

  pub range_in : (a b : ℕ) → a ≤ b → b ≤ len_of s → range s a b ≡ gives (record { start = s.start + a; bytes = take (b - a) (drop a s.bytes) })
  unfolding range
  range_in a b h k = simp (le-leb a b h, le-leb b (len_of s) k)

  pub range_past : (a : ℕ) → len_of s < a → range s a (len_of s) ≡ panics
  unfolding range
  range_past a h = simp (lt-leb a (len_of s) h)

  pub array_of : (n : ℕ) → len_of s ≡ n → array n s ≡ gives s.bytes
  unfolding array
  array_of n h = simp (eq-eqb (len_of s) n h)

-- a copy over a part of a vector
pub copy_over : (front old back s : List ℕ) (a b : ℕ) → length front ≡ a → a + length old ≡ b → length s ≡ length old
    → copy (front ++ (old ++ back)) a b s ≡ gives (front ++ (s ++ back))
unfolding copy
copy_over front old back s a b e f g =
    rw (
      le-leb a b (omega arith),
      le-leb b (length (front ++ (old ++ back))) (omega (arith, length-append front (old ++ back), length-append old back)),
      eq-eqb (length s) (b - a) (omega arith),
      take_at front (old ++ back) a e,
      ← append_assoc front old back,
      drop_at (front ++ old) back b (omega (arith, length-append front old)),
      append_assoc front s back,
    )

-- a copy into zeros that end the vector: those before it, those behind it
pub copy_zeros : (front s : List ℕ) (gap k n a b : ℕ) → n ≡ gap + length s + k → length front + gap ≡ a → a + length s ≡ b
    → copy (front ++ zeros n) a b s ≡ gives (front ++ zeros gap ++ s ++ zeros k)
copy_zeros front s gap k n a b e f g =
    ap (λ (v : List ℕ). copy v a b s) split
    ∙ copy_over (front ++ zeros gap) (zeros (length s)) (zeros k) s a b
    (omega (arith, length-append front (zeros gap), length-replicate {A = ℕ} gap 0)) (omega (arith, length-replicate {A = ℕ} (length s) 0)) (sym (length-replicate {A = ℕ} (length s) 0))
    ∙ ap gives (sym (append_assoc (front ++ zeros gap) s (zeros k)))
  where
    split : front ++ zeros n ≡ front ++ zeros gap ++ (zeros (length s) ++ zeros k)
    split =
        rw (append_assoc front (zeros gap) (zeros (length s) ++ zeros k), replicate-append-replicate {A = ℕ} (length s) k 0, replicate-append-replicate {A = ℕ} gap (length s + k) 0)
        (ap (λ (m : ℕ). front ++ zeros m) (e ∙ add_assoc gap (length s) k))

-- a copy up to the end of such a vector
pub copy_end : (front s : List ℕ) (gap n a : ℕ) → n ≡ gap + length s → length front + gap ≡ a
    → copy (front ++ zeros n) a (length (front ++ zeros n)) s ≡ gives (front ++ zeros gap ++ s)
copy_end front s gap n a e f =
    copy_zeros front s gap 0 n a (length (front ++ zeros n)) (omega arith) f (omega (arith, length-append front (zeros n), length-replicate {A = ℕ} n 0))
    ∙ ap gives (append-nil (front ++ zeros gap ++ s))

-- the same with no zeros left before it
pub copy_rest : (front s : List ℕ) (n a : ℕ) → n ≡ length s → length front ≡ a → copy (front ++ zeros n) a (length (front ++ zeros n)) s ≡ gives (front ++ s)
copy_rest front s n a e f = copy_end front s 0 n a (omega arith) (omega arith) ∙ ap (λ (v : List ℕ). gives (v ++ s)) (append-nil front)

-- a byte stored is a copy of one byte
pub store_copies : (v : List ℕ) (i x : ℕ) → store v i x ≡ copy v i (i + 1) (x ∷ [])
unfolding store copy
store_copies v i x = rw (le-leb i (i + 1) (omega arith), eq-eqb 1 (i + 1 - i) (omega arith)) (go (ltb i (length v)) refl)
  where
    go : (t : Bool) → ltb i (length v) ≡ t → cond (ltb i (length v)) (gives (take i v ++ (x ∷ []) ++ drop (i + 1) v)) panics
        ≡ cond (leb (i + 1) (length v) && true) (gives (take i v ++ (x ∷ []) ++ drop (i + 1) v)) panics
    go true e = rw (e, le-leb (i + 1) (length v) (omega (arith, ltb-true i (length v) e)))
    go false e = rw (e, lt-leb (i + 1) (length v) (omega (arith, ltb-false i (length v) e)))

-- a byte stored into zeros that end the vector
pub store_zeros : (front : List ℕ) (x gap k n i : ℕ) → n ≡ gap + 1 + k → length front + gap ≡ i
    → store (front ++ zeros n) i x ≡ gives (front ++ zeros gap ++ (x ∷ []) ++ zeros k)
store_zeros front x gap k n i e f = store_copies (front ++ zeros n) i x ∙ copy_zeros front (x ∷ []) gap k n i (i + 1) e f refl

byte_at : (s : List ℕ) (at : ℕ) → Bytes s → get_or s at 0 < 256
byte_at [] at b = omega arith
byte_at (x ∷ s) zero b = b.0
byte_at (x ∷ s) (suc at) b = byte_at s at b.1

pub bytes_append : (s t : List ℕ) → Bytes s → Bytes t → Bytes (s ++ t)
bytes_append [] t p q = q
bytes_append (b ∷ s) t p q = (p.0, bytes_append s t p.1 q)

pub be16_bytes : (n : ℕ) → n < 65536 → Bytes (be16 n)
be16_bytes n h = (omega arith, (omega arith, tt))

-- four bytes of a 32-bit number, in the Rust's words and in ours
pub be32_same : (x : ℕ) → u32_to_be x ≡ be32 x
be32_same x = λ i. first i ∷ second i ∷ third i ∷ fourth i ∷ []
  where
    first : x / 16777216 ≡ x / 65536 / 256
    first = omega arith

    second : x / 65536 % 256 ≡ x / 65536 % 256
    second = refl

    third : x / 256 % 256 ≡ x % 65536 / 256
    third = omega arith

    fourth : x % 256 ≡ x % 65536 % 256
    fourth = omega arith

pub bytes_drop : (n : ℕ) (s : List ℕ) → Bytes s → Bytes (drop n s)
bytes_drop zero s b = b
bytes_drop (suc n) [] b = tt
bytes_drop (suc n) (x ∷ s) b = bytes_drop n s b.1

pub bytes_at_lem : (s : List ℕ) (at n : ℕ) → Bytes s → Bytes (bytes_at s at n)
bytes_at_lem s at zero b = tt
bytes_at_lem s at (suc n) b = (byte_at s at b, bytes_at_lem s (suc at) n b)
