-- What the operations of Rust mean that the published text uses, in a build without overflow checks: how a run ends, slices, arrays, vectors, numbers of a fixed width.
-- A byte, a number and a length are natural numbers; `[u8; n]` and `Vec<u8>` are lists, `&[u8]` is a `Slice`. A slice has at most `isize::MAX` bytes, so that no place comes near
-- the end of `usize`; that memory can run out is left out.
use Rattle.std.specs.Prelude.{ℕ, ◌+◌, ◌*◌, ◌-◌, ◌/◌, ◌%◌, Bool, true, false, ◌&&◌, cond, List, [], ◌∷◌, ◌++◌, ltb, leb, eqb, length, get_or, take, drop, replicate}

-- how a run ends
pub data Run (A : Type 0) : Type 0 where
  gives : (value : A) → Run A
  -- an index or a range past the end, a `copy_from_slice` between lengths that differ, an `unwrap` of what is no value; what was changed before is not said
  panics : Run A
  -- `as` cuts a length. The Rust goes on, with a wrong length; here the run is over
  cuts : Run A
  -- a loop wants more turns than its definition has; that none does is proved (crate `equals_rust`)
  unfinished : Run A

infixr 20 ◌>>=◌ ◌>>◌
-- A `do` block is a function's body: `x ← run` takes what the run gives, and ends with it where it gives nothing.
abbrev pub ◌>>=◌ : {A B : Type 0} → Run A → (A → Run B) → Run B
gives value >>= next = next value
panics >>= next = panics
cuts >>= next = cuts
unfinished >>= next = unfinished

-- `when test run` is `if test { run }` where that leaves the function or the turn of a loop: else it goes on below
abbrev pub when : {A : Type 0} → Bool → Run A → (Run A → Run A)
when test run = λ below. cond test run below

abbrev pub ◌>>◌ : {A : Type 0} → (Run A → Run A) → Run A → Run A
step >> below = step below

-- `&[u8]`: the place of its first byte in the bytes that it is a part of, and its bytes
pub record Slice : Type 0 where
  pub start : ℕ
  pub bytes : List ℕ

-- `&v` of a vector or an array
abbrev pub whole : List ℕ → Slice
whole v = record { start = 0; bytes = v }

-- `s.len()`
abbrev pub len_of : Slice → ℕ
len_of s = length s.bytes

-- `s[i]`
unfoldable pub index : Slice → (i : ℕ) → Run ℕ
index s i = cond (ltb i (len_of s)) (gives (get_or s.bytes i 0)) panics

-- `&s[a..b]`
unfoldable pub range : Slice → (a b : ℕ) → Run Slice
range s a b = cond (leb a b && leb b (len_of s)) (gives (record { start = s.start + a; bytes = take (b - a) (drop a s.bytes) })) panics

-- `&s[a..]`
abbrev pub range_from : Slice → (a : ℕ) → Run Slice
range_from s a = range s a (len_of s)

-- `s.try_into().unwrap()` as `[u8; n]`
unfoldable pub array : (n : ℕ) → Slice → Run (List ℕ)
array n s = cond (eqb (len_of s) n) (gives s.bytes) panics

-- `vec![0u8; n]`
abbrev pub zeros : (n : ℕ) → List ℕ
zeros n = replicate n 0

-- `v[i] = x`
unfoldable pub store : List ℕ → (i x : ℕ) → Run (List ℕ)
store v i x = cond (ltb i (length v)) (gives (take i v ++ (x ∷ []) ++ drop (i + 1) v)) panics

-- `v[a..b].copy_from_slice(s)`
unfoldable pub copy : List ℕ → (a b : ℕ) → (s : List ℕ) → Run (List ℕ)
copy v a b s = cond (leb a b && leb b (length v) && eqb (length s) (b - a)) (gives (take a v ++ s ++ drop b v)) panics

-- `v[a..].copy_from_slice(s)`
abbrev pub copy_from : List ℕ → (a : ℕ) → (s : List ℕ) → Run (List ℕ)
copy_from v a s = copy v a (length v) s

-- `a == b` of two arrays of one length
unfoldable pub same_array : List ℕ → List ℕ → Bool
same_array [] [] = true
same_array [] (b ∷ t) = false
same_array (a ∷ s) [] = false
same_array (a ∷ s) (b ∷ t) = eqb a b && same_array s t

-- `n as u16`, `n as u8` of a length
abbrev pub as_u16 : (n : ℕ) → Run ℕ
as_u16 n = cond (ltb n 65536) (gives n) cuts

abbrev pub as_u8 : (n : ℕ) → Run ℕ
as_u8 n = cond (ltb n 256) (gives n) cuts

-- `u16::from_be_bytes`, `u32::from_be_bytes`
abbrev pub u16_from_be : (a b : ℕ) → ℕ
u16_from_be a b = a * 256 + b

abbrev pub u32_from_be : List ℕ → ℕ
u32_from_be bytes = get_or bytes 0 0 * 16777216 + get_or bytes 1 0 * 65536 + get_or bytes 2 0 * 256 + get_or bytes 3 0

-- `x.to_be_bytes()` of a `u16`, of a `u32`
abbrev pub u16_to_be : ℕ → List ℕ
u16_to_be x = x / 256 ∷ x % 256 ∷ []

abbrev pub u32_to_be : ℕ → List ℕ
u32_to_be x = x / 16777216 ∷ x / 65536 % 256 ∷ x / 256 % 256 ∷ x % 256 ∷ []

-- `fetch_add` of an `AtomicU16`, which wraps in every build
abbrev pub wrapping_add_u16 : (a b : ℕ) → ℕ
wrapping_add_u16 a b = (a + b) % 65536

-- `a + b` of two `u32`; with overflow checks it would panic instead of wrapping
abbrev pub wrapping_add_u32 : (a b : ℕ) → ℕ
wrapping_add_u32 a b = (a + b) % 4294967296
