-- Chunks of two and of eight bytes, as std cuts a slice and reads a number: what they add to the RFC 1071 sum, and that all of them and what is left
-- behind them are the whole.
use Rattle.std.proofs.Common.{◌≡◌, ℕ, w16, w64, zero, suc, ◌+◌, ◌*◌, ◌/◌, ◌<◌, ◌≤◌, List, [], ◌++◌, length, get_or, take, drop, flat_map, sym, refl, ap, ◌∙◌, arith, drop_of_length-le, drop-cons, take-append-drop, length-drop}
use lib.Seq.{take-add, length-take-le}
use Rattle.std.specs.Int.{from_be_bytes, from_le_bytes}
use Rattle.std.specs.Simd.{first_chunks}
use Rattle.sums.proofs.Laws.{fold_few_rounds, fold_any_rounds, total_append, total_step, total_none}
use Rattle.sums.specs.Rfc1071.{words, sum, total, fold}

-- Two bytes low byte first: 256 times the sum and what is left fold to the same, since 65,536 and its powers fold to 1;
pub fold_word : (word rest : List ℕ) (so_far : ℕ) → length word ≡ 2
    → fold ((so_far + from_le_bytes w16 word) * 256 + total rest) ≡ fold (so_far * 256 + total (word ++ rest))
fold_word word rest so_far two =
    let whole = total_append 1 word rest two in
    let first = total_step word 0 (omega arith) in
    let none = total_none word 2 (omega arith) in
    ap fold (omega arith) ∙ fold_few_rounds (so_far * 256 + total (word ++ rest)) (get_or word 1 0) (omega arith)

-- high byte first they are a word of the sum;
pub total_two : (word rest : List ℕ) → length word ≡ 2 → total (word ++ rest) ≡ from_be_bytes w16 word + total rest
total_two word rest two =
    let whole = total_append 1 word rest two in
    let first = total_step word 0 (omega arith) in
    let none = total_none word 2 (omega arith) in
    omega arith

-- eight low byte first.
pub fold_step : (eight rest : List ℕ) (so_far : ℕ) → length eight ≡ 8
    → fold ((so_far + from_le_bytes w64 eight) * 256 + total rest) ≡ fold (so_far * 256 + total (eight ++ rest))
fold_step eight rest so_far long =
    let whole = total_append 4 eight rest long in
    let first = total_step eight 0 (omega arith) in
    let second = total_step eight 2 (omega arith) in
    let third = total_step eight 4 (omega arith) in
    let last = total_step eight 6 (omega arith) in
    let none = total_none eight 8 (omega arith) in
    let rounds = get_or eight 1 0 + get_or eight 2 0 * 256 + get_or eight 3 0 * 65537 + get_or eight 4 0 * 16777472 + get_or eight 5 0 * 4295032833 + get_or eight 6 0 * 1099528405248 + get_or eight 7 0 * 281479271743489 in
    ap fold (omega arith) ∙ fold_any_rounds (so_far * 256 + total (eight ++ rest)) rounds (λ z. omega arith)

-- pieces joined, from one on
pub joined_from : (s : List (List ℕ)) (k : ℕ) → k < length s → flat_map (λ e. e) (drop k s) ≡ get_or s k [] ++ flat_map (λ e. e) (drop (k + 1) s)
joined_from s k h =
    ap (λ (left : List (List ℕ)). flat_map (λ (e : List ℕ). e) left) (drop-cons s k [] h)
    ∙ ap (λ (n : ℕ). get_or s k [] ++ flat_map (λ (e : List ℕ). e) (drop n s)) {x = suc k} {y = k + 1} (omega arith)

pub none_joined : (s : List (List ℕ)) (k : ℕ) → length s ≤ k → total (flat_map (λ e. e) (drop k s)) ≡ 0
unfolding total words sum
none_joined s k h = rw (drop_of_length-le s {i = k} h)

-- the first chunks of a list joined are its front
pub joined_chunks : (n k : ℕ) (s : List ℕ) → flat_map (λ e. e) (first_chunks n k s) ≡ take (k * n) s
joined_chunks n zero s = ap (λ (m : ℕ). take m s) {x = 0} {y = 0 * n} (omega arith)
joined_chunks n (suc k) s =
    ap (λ (l : List ℕ). take n s ++ l) (joined_chunks n k (drop n s)) ∙ sym (take-add n (k * n) s) ∙ ap (λ (m : ℕ). take m s) {x = n + k * n} {y = suc k * n} (omega arith)

-- each has that length
pub chunk_length : (n k i : ℕ) (s : List ℕ) → i < k → k * n ≤ length s → length (get_or (first_chunks n k s) i []) ≡ n
chunk_length n zero i s h fits = absurd (omega arith)
chunk_length n (suc k) zero s h fits = length-take-le n s (omega arith)
chunk_length n (suc k) (suc i) s h fits = chunk_length n k i (drop n s) (omega arith) (omega (arith, length-drop n s))

-- chunks of even length are summed one after the other, and behind them what is left
pub total_chunks : (n half k : ℕ) (s : List ℕ) → n ≡ half * 2 → k * n ≤ length s → total s ≡ total (flat_map (λ e. e) (first_chunks n k s)) + total (drop (k * n) s)
total_chunks n half k s even fits =
    rw (joined_chunks n k s)
    (ap total (sym (take-append-drop (k * n) s))
    ∙ total_append (k * half) (take (k * n) s) (drop (k * n) s) (length-take-le (k * n) s fits ∙ ap (λ (m : ℕ). k * m) even ∙ omega arith))

-- words, and behind them at most one byte
pub word_length : (s : List ℕ) (words : List (List ℕ)) (i : ℕ) → words ≡ first_chunks 2 (length s / 2) s → i < length s / 2 → length (get_or words i []) ≡ 2
word_length s words i e h = rw e (chunk_length 2 (length s / 2) i s h (omega arith))

pub total_words : (s : List ℕ) (words : List (List ℕ)) (odd : List ℕ) → words ≡ first_chunks 2 (length s / 2) s → odd ≡ drop (length s / 2 * 2) s
    → total s ≡ total (flat_map (λ word. word) words) + total odd
total_words s words odd e f = rw (e, f) (total_chunks 2 1 (length s / 2) s refl (omega arith))
