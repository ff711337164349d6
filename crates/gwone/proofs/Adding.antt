-- Text added piece by piece: a piece behind the bytes that were written, the digits of one byte more, one number more.
use Prim.Native.Nat.{ℕ, ◌+◌, ◌*◌, ◌/◌, ◌%◌, ◌≤◌, ◌<◌}
use mathlib.Core.Path.{◌≡◌, refl, ap, ◌∙◌}
use mathlib.Core.List.{List, [], ◌∷◌, ◌++◌, append-nil, append_assoc}
use native.Mathlib.Numerals.{add-one}
use native.Mathlib.Omega.{arith}
use lib.ListN.{length, take, get_or, length-append, length-take}
use lib.Seq.{take-suc, take-append_seam}
use Rattle.base.specs.Buffer.{put, put_if_fits}
use Rattle.base.proofs.Lists.{fits}
use Rattle.gwone.specs.Text.{ascii, decimal, glyph, hex}
use Rattle.gwone.specs.Printed.{spaced}

-- a piece put behind the first `at` bytes
pub put_behind : (at : ℕ) (s b : List ℕ) → at + length s ≤ length b → take (at + length s) (put_if_fits at s b) ≡ take at b ++ s
unfolding put
put_behind at s b h =
    let front : length (take at b ++ s) ≡ at + length s = simp (length-append, length-take) (omega arith) in
    rw (fits at s b h, ← front) (take-append_seam (take at b ++ s) _)

pub hex_append : (a b : List ℕ) → hex (a ++ b) ≡ hex a ++ hex b
unfolding hex
hex_append [] b = refl
hex_append (byte ∷ a) b = ap (λ (l : List ℕ). glyph (byte / 16) ∷ glyph (byte % 16) ∷ l) (hex_append a b)

pub length_hex : (bytes : List ℕ) → length (hex bytes) ≡ 2 * length bytes
unfolding hex
length_hex [] = refl
length_hex (byte ∷ bytes) = let rest : length (hex bytes) ≡ 2 * length bytes = length_hex bytes in omega arith

-- the digits of one byte more
pub hex_more : (bytes : List ℕ) (i : ℕ) → i < length bytes → hex (take (i + 1) bytes) ≡ hex (take i bytes) ++ hex (get_or bytes i 0 ∷ [])
hex_more bytes i h = rw (add-one, take-suc bytes i 0) (hex_append (take i bytes) (get_or bytes i 0 ∷ []))

pub spaced_append : (a b : List ℕ) → spaced (a ++ b) ≡ spaced a ++ spaced b
spaced_append [] b = refl
spaced_append (n ∷ a) b = ap (λ (l : List ℕ). ascii " " ++ decimal n ++ l) (spaced_append a b) ∙ simp append_assoc

-- one number more
pub spaced_more : (numbers : List ℕ) (i : ℕ) → i < length numbers → spaced (take (i + 1) numbers) ≡ spaced (take i numbers) ++ (ascii " " ++ decimal (get_or numbers i 0))
spaced_more numbers i h =
    rw (add-one, take-suc numbers i 0)
    (spaced_append (take i numbers) (get_or numbers i 0 ∷ []) ∙ ap (λ (l : List ℕ). spaced (take i numbers) ++ l) (simp append-nil))
