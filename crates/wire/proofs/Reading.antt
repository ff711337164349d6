-- Bytes read one by one: as code counts them, and past the end.
use Prim.Native.Nat.{ℕ, zero, suc, ◌+◌, ◌-◌, ◌≤◌}
use mathlib.Core.Path.{◌≡◌, refl, ap, ap₂, sym, ◌∙◌}
use mathlib.Core.List.{List, [], ◌∷◌, ◌++◌}
use Rattle.std.proofs.Common.{◌<◌}
use native.Mathlib.Decide.{dec_lt}
use native.Mathlib.Omega.{arith}
use lib.ListN.{length, get_or, take, drop, replicate, length-append, length-drop, get_or-append, get_or-eq_default}
use lib.Seq.{get_or-append-add, get_or-drop}
use Rattle.std.proofs.lemmas.List.{length-replicate, get_or-replicate}
use Rattle.base.specs.Bytes.{bytes_at, u8_at}

-- past the end a byte reads as 0
pub past_end : (s : List ℕ) (at : ℕ) → length s ≤ at → u8_at s at ≡ 0
past_end s at h = get_or-eq_default s 0 h

-- bytes read one by one are the bytes that stand there
pub one_by_one : (s bytes : List ℕ) (at n : ℕ) → length bytes ≡ n → ((k : ℕ) → k < n → get_or bytes k 0 ≡ u8_at s (at + k)) → bytes ≡ bytes_at s at n
one_by_one s [] at zero l h = refl
one_by_one s (b ∷ bytes) at (suc n) l h =
    ap₂ (λ (x : ℕ) (xs : List ℕ). x ∷ xs) (h 0 (omega arith) ∙ ap (u8_at s) (omega arith))
    (one_by_one s bytes (suc at) n (omega (arith, l)) (λ k small. h (suc k) (omega arith) ∙ ap (u8_at s) (omega arith)))
one_by_one s [] at (suc n) l h = absurd (omega (arith, l))
one_by_one s (b ∷ bytes) at zero l h = absurd (omega (arith, l))

-- past the end they are zeros
pub zeros_past_end : (s : List ℕ) (n at : ℕ) → length s ≤ at → bytes_at s at n ≡ replicate n 0
zeros_past_end s zero at h = refl
zeros_past_end s (suc n) at h = ap₂ (λ (b : ℕ) (l : List ℕ). b ∷ l) (past_end s at h) (zeros_past_end s n (suc at) (omega arith))

-- the first of bytes read one by one are fewer bytes read so
pub fewer : (s : List ℕ) (at n m : ℕ) → n ≤ m → take n (bytes_at s at m) ≡ bytes_at s at n
fewer s at zero m h = refl
fewer s at (suc n) (suc m) h = ap (λ (l : List ℕ). u8_at s at ∷ l) (fewer s (suc at) n m (omega arith))
fewer s at (suc n) zero h = absurd (omega arith)

-- bytes behind a place, read from a place on
pub read_behind : (s : List ℕ) (front at n : ℕ) → bytes_at (drop front s) at n ≡ bytes_at s (front + at) n
read_behind s front at zero = refl
read_behind s front at (suc n) =
    ap₂ (λ (b : ℕ) (l : List ℕ). b ∷ l) (get_or-drop front s at 0) (read_behind s front (suc at) n ∙ ap (λ (k : ℕ). bytes_at s k n) (omega arith))

-- all that is there with zeros behind it is what is read from the front
pub with_zeros : (s : List ℕ) (n : ℕ) → length s ≤ n → s ++ drop (length s) (replicate n 0) ≡ bytes_at s 0 n
with_zeros s n h = one_by_one s _ 0 n (simp (length-append, length-drop, length-replicate) (omega arith)) (λ k small. place k small (dec_lt k (length s)))
  where
    place : (k : ℕ) → k < n → Dec (k < length s) → get_or (s ++ drop (length s) (replicate n 0)) k 0 ≡ u8_at s (0 + k)
    place k small (yes there) = get_or-append s _ 0 k there ∙ ap (u8_at s) (omega arith)
    place k small (no past) =
        ap (λ (i : ℕ). get_or (s ++ drop (length s) (replicate n 0)) i 0) {x = k} {y = length s + (k - length s)} (omega arith)
        ∙ get_or-append-add s _ (k - length s) 0
        ∙ get_or-drop (length s) (replicate n 0) (k - length s) 0
        ∙ get_or-replicate n (length s + (k - length s)) 0 0 (omega arith)
        ∙ sym (past_end s (0 + k) (omega arith))
