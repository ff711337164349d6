-- The Rust's checksum, on every input: RFC 1071's fold of the sum modulo 2^32; and so RFC 1071's checksum, where the sum stays below that.
use Prim.Native.Nat.{ℕ, zero, suc, ◌+◌, ◌*◌, ◌-◌, ◌/◌, ◌%◌, ◌≤◌, ◌<◌}
use mathlib.Core.Path.{◌≡◌, refl, ap, ◌∙◌}
use mathlib.Core.Bool.{Bool, true, false}
use mathlib.Core.List.{List, [], ◌∷◌}
use native.Mathlib.Omega.{arith}
use borrow.Author.Tests.{ltb-true, ltb-false, eq-eqb, ne_eqb}
use lib.Bits.{and_mask}
use lib.Dec.{ltb}
use lib.ListN.{length, get_or, drop, replicate}
use native.Mathlib.Nat.{zero-add}
use Rattle.published.specs.Rust.{gives, whole}
use Rattle.published.specs.Frames.{sum_from, folded, checksum as rustChecksum}
use Rattle.sums.specs.Rfc1071.{words, sum, total, fold, checksum}
use Rattle.sums.proofs.Laws.{fold_pos, fold_small, total_step, total_last, total_none}
use Rattle.equals_rust.specs.Types.{Bytes}
use Rattle.equals_rust.proofs.Operations.{index_in}
use Rattle.base.proofs.Choice.{by_test}

-- the loop over the words: what is summed so far and what is left, modulo 2^32
sum_from_lem : (turns : ℕ) (s : List ℕ) (i running : ℕ) → running < 4294967296 → i ≤ length s → length s < i + turns
    → sum_from turns (whole s) i running ≡ gives ((running + total (drop i s)) % 4294967296)
unfolding sum_from
sum_from_lem zero s i running r b t = absurd (omega arith)
sum_from_lem (suc turns) s i running r b t =
    go (λ running' r' b'. sum_from_lem turns s (i + 2) running' r' b' (omega arith)) (ltb (i + 1) (length s)) refl (ltb i (length s)) refl
  where
    go : ((running' : ℕ) → running' < 4294967296 → i + 2 ≤ length s → sum_from turns (whole s) (i + 2) running' ≡ gives ((running' + total (drop (i + 2) s)) % 4294967296))
        → (more : Bool) → ltb (i + 1) (length s) ≡ more → (odd : Bool) → ltb i (length s) ≡ odd
        → sum_from (suc turns) (whole s) i running ≡ gives ((running + total (drop i s)) % 4294967296)
    go next true e odd f =
        let more = ltb-true (i + 1) (length s) e in
        rw (e, index_in (whole s) i (omega (arith, more)), index_in (whole s) (i + 1) more, next ((running + (get_or s i 0 * 256 + get_or s (i + 1) 0)) % 4294967296) (omega arith) (omega (arith, more)), total_step s i more)
        (ap gives (omega arith))
    go next false e true f =
        let last = ltb-true i (length s) f in
        rw (e, f, index_in (whole s) i last, total_last s i (omega (arith, last, ltb-false (i + 1) (length s) e)))
    go next false e false f = rw (e, f, total_none s i (ltb-false i (length s) f)) (ap gives (omega arith))

fold_le : (s : ℕ) → fold s ≤ 65535
unfolding fold
fold_le zero = omega arith
fold_le (suc s) = omega arith

-- The loop that folds: a sum of 16 bits is done, another is 16 bits wide after one turn more, or two.
fold_done : (turns s : ℕ) → s < 65536 → folded (suc turns) s ≡ gives (fold s)
unfolding folded
fold_done turns s h = rw (eq-eqb (s / 65536) 0 (omega arith), fold_small s (omega arith))

fold_turn : (turns s : ℕ) → 65536 ≤ s → s < 4294967296 → folded (suc turns) s ≡ folded turns (s % 65536 + s / 65536)
unfolding folded
fold_turn turns s h r =
    rw (ne_eqb (s / 65536) 0 (λ e. omega (arith, e)), and_mask s 16) (ap (folded turns) (omega arith))

fold_once : (s : ℕ) → fold (s % 65536 + s / 65536) ≡ fold s
unfolding fold
fold_once zero = refl
fold_once (suc s) = rw (fold_pos (suc s % 65536 + suc s / 65536) (omega arith)) (omega arith)

fold_two_turns : (turns s : ℕ) → s < 131071 → folded (suc (suc turns)) s ≡ gives (fold s)
fold_two_turns turns s h =
    by_test (ltb s 65536)
    (λ e. fold_done (suc turns) s (ltb-true s 65536 e))
    (λ e.
    let big = ltb-false s 65536 e in
    fold_turn (suc turns) s big (omega arith) ∙ fold_done turns (s % 65536 + s / 65536) (omega (arith, big)) ∙ ap gives (fold_once s))

folds : (s : ℕ) → s < 4294967296 → folded 3 s ≡ gives (fold s)
folds s h =
    by_test (ltb s 65536)
    (λ e. fold_done 2 s (ltb-true s 65536 e))
    (λ e. let big = ltb-false s 65536 e in fold_turn 2 s big h ∙ fold_two_turns 0 (s % 65536 + s / 65536) (omega arith) ∙ ap gives (fold_once s))

-- on every input: RFC 1071's fold of the sum modulo 2^32
pub rust_sum : (s : List ℕ) → rustChecksum (whole s) ≡ gives (65535 - fold (total s % 4294967296))
unfolding rustChecksum
rust_sum s =
    rw (sum_from_lem (suc (length s)) s 0 0 (omega arith) (omega arith) (omega arith), zero-add (total s), folds (total s % 4294967296) (omega arith))
    (ap gives (omega (arith, fold_le (total s % 4294967296))))

-- a word has 16 bits
total_bound : (s : List ℕ) → Bytes s → total s ≤ 65535 * ((length s + 1) / 2)
unfolding total words sum
total_bound [] b = omega arith
total_bound (a ∷ []) b = omega (arith, b.0)
total_bound (a ∷ c ∷ s) b = let rest = total_bound s b.1.1 in omega (arith, b.0, b.1.0, rest)

-- "certain only to 131,074 bytes"
pub rust_checksum : (s : List ℕ) → Bytes s → length s ≤ 131074 → rustChecksum (whole s) ≡ gives (checksum s)
unfolding checksum
rust_checksum s b h =
    let bound = total_bound s b in
    rust_sum s ∙ ap (λ (n : ℕ). gives (65535 - fold n)) (omega arith)

-- One byte more, and it can be wrong: of 131,075 bytes of 0xff the Rust's checksum is 0x0100, and RFC 1071's 0x00ff.
total_ones : (pairs : ℕ) → total (replicate (pairs * 2 + 1) 255) ≡ pairs * 65535 + 65280
unfolding total words sum
total_ones zero = refl
total_ones (suc pairs) =
    let more : suc pairs * 2 + 1 ≡ suc (suc (pairs * 2 + 1)) = omega arith in
    let rest = total_ones pairs in
    ap (λ (n : ℕ). total (replicate n 255)) more ∙ omega arith

pub rust_sum_wraps : rustChecksum (whole (replicate 131075 255)) ≡ gives 0x0100
unfolding fold
rust_sum_wraps = rust_sum (replicate 131075 255) ∙ ap (λ (n : ℕ). gives (65535 - fold (n % 4294967296))) (total_ones 65537)

pub checksum_there : checksum (replicate 131075 255) ≡ 0x00ff
unfolding checksum fold
checksum_there = ap (λ (n : ℕ). 65535 - fold n) (total_ones 65537)
