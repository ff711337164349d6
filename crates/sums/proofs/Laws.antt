-- Laws of the RFC 1071 sum: what a fold is, by its remainder; inputs of even length are summed one after the other; two, four and eight bytes are added low byte first.
use Rattle.std.proofs.Common.{◌≡◌, ℕ, zero, suc, ◌+◌, ◌-◌, ◌*◌, ◌/◌, ◌%◌, ◌<◌, ◌≤◌, List, [], ◌∷◌, ◌++◌, length, get_or, drop, sym, refl, ap, ◌∙◌, append_assoc, add_assoc, zero-add, add-one, arith, drop_of_length-le, drop-cons}
use native.Mathlib.Numerals.{add-two}
use Rattle.sums.specs.helpers.LowFirst.{two, four}
use Rattle.sums.specs.Rfc1071.{words, sum, total, fold, checksum, SumsRight}

-- "0 if S is 0"
pub fold_zero : fold 0 ≡ 0
unfolding fold
fold_zero = refl

-- "else (S - 1) mod 65,535 + 1"
pub fold_pos : (s : ℕ) → 0 < s → fold s ≡ (s - 1) % 65535 + 1
unfolding fold
fold_pos zero h = absurd (omega arith)
fold_pos (suc s) h = omega arith

-- a fold that was already done changes nothing
pub fold_fold : (a b : ℕ) → fold (fold a + b) ≡ fold (a + b)
fold_fold zero b = rw fold_zero
fold_fold (suc a) b = rw (fold_pos (suc a) (omega arith), fold_pos ((suc a - 1) % 65535 + 1 + b) (omega arith), fold_pos (suc a + b) (omega arith)) (omega arith)

pub fold_small : (s : ℕ) → s ≤ 65535 → fold s ≡ s
fold_small zero h = fold_zero
fold_small (suc s) h = rw (fold_pos (suc s) (omega arith)) (omega arith)

-- what has the same fold has it with more added
pub fold_with : (a b more : ℕ) → fold a ≡ fold b → fold (a + more) ≡ fold (b + more)
fold_with a b more e = sym (fold_fold a more) ∙ ap (λ (n : ℕ). fold (n + more)) e ∙ fold_fold b more

-- a fold has 16 bits
pub fold_most : (s : ℕ) → fold s ≤ 65535
unfolding fold
fold_most zero = omega arith
fold_most (suc s) = omega arith

-- 65,535 more, `k` times, changes nothing where there is something to fold
fold_rounds : (s k : ℕ) → 0 < s → fold (s + 65535 * k) ≡ fold s
fold_rounds s k h = rw (fold_pos s h, fold_pos (s + 65535 * k) (omega arith)) (omega arith)

-- nor where there may be nothing, if then `k` is 0
pub fold_any_rounds : (s k : ℕ) → (s ≡ 0 → k ≡ 0) → fold (s + 65535 * k) ≡ fold s
fold_any_rounds zero k h = ap fold (omega (arith, h refl))
fold_any_rounds (suc s) k h = fold_rounds (suc s) k (omega arith)

pub fold_few_rounds : (s k : ℕ) → k ≤ s → fold (s + 65535 * k) ≡ fold s
fold_few_rounds s k h = fold_any_rounds s k (λ e. omega arith)

-- a fold that was already done changes nothing in 256 times it either
pub fold_scaled : (a b : ℕ) → fold (fold a * 256 + b) ≡ fold (a * 256 + b)
fold_scaled zero b = rw fold_zero
fold_scaled (suc a) b =
    rw (fold_pos (suc a) (omega arith)) (sym (fold_rounds (((suc a - 1) % 65535 + 1) * 256 + b) (a / 65535 * 256) (omega arith)) ∙ ap fold (omega arith))

-- RFC 1071, section 2 (B): the two bytes of a sum exchanged are 256 times it, folded
pub fold_exchanged : (n : ℕ) → n < 65536 → n % 256 * 256 + n / 256 ≡ fold (n * 256)
fold_exchanged n h =
    sym (fold_small (n % 256 * 256 + n / 256) (omega arith))
    ∙ sym (fold_few_rounds (n % 256 * 256 + n / 256) (n / 256) (omega arith))
    ∙ ap fold (omega arith)

-- a piece of even length is summed by itself
pub total_append : (k : ℕ) (s t : List ℕ) → length s ≡ k * 2 → total (s ++ t) ≡ total s + total t
unfolding total words sum
total_append zero [] t h = omega arith
total_append zero (_ ∷ _) t h = omega arith
total_append (suc k) [] t h = omega arith
total_append (suc k) (a ∷ []) t h = omega arith
total_append (suc k) (a ∷ b ∷ s) t h = rw (total_append k s t (omega arith)) (omega arith)

-- one word on: the sum of what is left from `i` on is a word and the sum of what is left from `i + 2` on
pub total_step : (s : List ℕ) (i : ℕ) → i + 1 < length s → total (drop i s) ≡ get_or s i 0 * 256 + get_or s (i + 1) 0 + total (drop (i + 2) s)
unfolding total words sum
total_step s i h = rw (drop-cons s i 0 (omega arith), drop-cons s (suc i) 0 (omega arith), add-one, add-two)

-- an odd last byte counts as the high half
pub total_last : (s : List ℕ) (i : ℕ) → i + 1 ≡ length s → total (drop i s) ≡ get_or s i 0 * 256
unfolding total words sum
total_last s i h = rw (drop-cons s i 0 (omega arith), drop_of_length-le s {i = suc i} (omega arith)) (omega arith)

-- nothing left
pub total_none : (s : List ℕ) (i : ℕ) → length s ≤ i → total (drop i s) ≡ 0
unfolding total words sum
total_none s i h = rw (drop_of_length-le s {i = i} h)

-- two bytes added low byte first: 256 times the sum and what is left fold to the same
pub fold_two : {sum-with : ℕ} (s : List ℕ) (i next so_far : ℕ) → next ≡ i + 2 → next ≤ length s → sum-with ≡ so_far + two s i
    → fold (sum-with * 256 + total (drop next s)) ≡ fold (so_far * 256 + total (drop i s))
fold_two s i next so_far e h f =
    let step = total_step s i (omega arith) in
    rw e (ap fold (omega arith) ∙ fold_few_rounds (so_far * 256 + total (drop i s)) (get_or s (i + 1) 0) (omega arith))

-- four bytes added low byte first: the same, since 65,536 and its powers fold to 1
pub fold_four : {n : ℕ} (s : List ℕ) (i next so_far : ℕ) → next ≡ i + 4 → next ≤ length s → n ≡ four s i
    → fold ((so_far + n) * 256 + total (drop next s)) ≡ fold (so_far * 256 + total (drop i s))
fold_four s i next so_far e h f =
    let first = total_step s i (omega arith) in
    let second = simp add_assoc at (total_step s (i + 2) (omega arith)) in
    rw e
    (ap fold (omega arith)
    ∙ fold_any_rounds (so_far * 256 + total (drop i s)) (get_or s (i + 1) 0 + get_or s (i + 2) 0 * 256 + get_or s (i + 3) 0 * 65537) (λ z. omega arith))

-- eight bytes, as two times four
pub fold_eight : {low high : ℕ} (s : List ℕ) (i next so_far : ℕ) → next ≡ i + 8 → next ≤ length s → low ≡ four s i → high ≡ four s (i + 4)
    → fold ((so_far + low + high) * 256 + total (drop next s)) ≡ fold (so_far * 256 + total (drop i s))
fold_eight {low = low} s i next so_far e h f g = fold_four s (i + 4) next (so_far + low) (omega arith) h g ∙ fold_four s i (i + 4) so_far refl (omega arith) f

-- a sum is continued over a second piece
pub fold_more : (start k : ℕ) (s t : List ℕ) → length s ≡ k * 2 → fold (fold (start + total s) + total t) ≡ fold (start + total (s ++ t))
fold_more start k s t h = fold_fold (start + total s) (total t) ∙ ap fold (omega (arith, total_append k s t h))

-- four pieces summed one after the other, with no copy that joins them
pub checksum_pieces : (p h o d : List ℕ) (i j k : ℕ) → length p ≡ i * 2 → length h ≡ j * 2 → length o ≡ k * 2
    → 65535 - fold (fold (fold (fold (0 + total p) + total h) + total o) + total d) ≡ checksum (p ++ (h ++ o ++ d))
unfolding checksum
checksum_pieces p h o d i j k ep eh eo =
    rw (
      zero-add,
      fold_fold (total p) (total h),
      fold_fold (total p + total h) (total o),
      fold_fold (total p + total h + total o) (total d),
      total_append i p (h ++ o ++ d) ep,
      append_assoc h o d,
      total_append j h (o ++ d) eh,
      total_append k o d eo,
    )
    (ap (λ (n : ℕ). 65535 - fold n) (omega arith))

fold_checksum : (s : ℕ) → fold (s + (65535 - fold s)) ≡ 65535
fold_checksum zero = rw fold_zero (fold_pos 65535 (omega arith))
fold_checksum (suc s) =
    let f = fold_pos (suc s) (omega arith) in
    fold_pos (suc s + (65535 - fold (suc s))) (omega arith) ∙ omega arith

-- bytes whose sum is that of others plus their checksum sum right
pub sums_right : (s t : List ℕ) → total s ≡ total t + checksum t → SumsRight s
unfolding SumsRight checksum
sums_right s t e = ap fold e ∙ fold_checksum (total t)
