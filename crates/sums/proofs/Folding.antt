-- Document 02, request 3/13, in its own words: a 32-bit total needs two folds and no more. Request 13/13 has totals of 64 bits: two folds lead from them to 32, and they stay inside 64.
use Rattle.std.proofs.Common.{◌≡◌, ℕ, zero, suc, ◌+◌, ◌*◌, ◌/◌, ◌<◌, ◌≤◌, [], ◌∷◌, sym, refl, ap, ◌∙◌, arith}
use Rattle.sums.specs.Rfc1071.{words, sum, total, fold}
use Rattle.sums.specs.Folding.{fold_to16, fold_to32, longest_piece, most_folded, most_behind}
use Rattle.sums.proofs.Laws.{fold_zero, fold_pos, fold_any_rounds}

-- "A 32-bit total needs two folds": they are RFC 1071's fold, of every such total,
pub folded_twice : (s : ℕ) → s < 4294967296 → fold_to16 (fold_to16 s) ≡ fold s
folded_twice zero h = sym fold_zero
folded_twice (suc s) h = rw (fold_pos (suc s) (omega arith)) (omega arith)

-- and have 16 bits;
pub folded_twice_below : (s : ℕ) → s < 4294967296 → fold_to16 (fold_to16 s) < 65536
folded_twice_below s h = omega arith

-- the first leaving 131,070 at most;
pub once_leaves : (s : ℕ) → s < 4294967296 → fold_to16 s ≤ 131070
once_leaves s h = omega arith

-- one is not always enough: of 131,071 it leaves 65,536, where the fold is 1. The words ffff, ffff and 0001 have this total,
pub one_is_not_enough : (fold_to16 131071 ≡ 65536) × (fold 131071 ≡ 1) × (total (255 ∷ 255 ∷ 255 ∷ 255 ∷ 0 ∷ 1 ∷ []) ≡ 131071)
unfolding fold total words sum
one_is_not_enough = (refl, refl, refl)

-- and no smaller total needs a second;
pub one_below : (s : ℕ) → s < 131071 → fold_to16 s < 65536
one_below s h = omega arith

-- so that of two words, which come to 131,070 at most, it is the fold;
pub folded_once : (s : ℕ) → s ≤ 131070 → fold_to16 s ≡ fold s
folded_once zero h = sym fold_zero
folded_once (suc s) h = rw (fold_pos (suc s) (omega arith)) (omega arith)

-- "and no more": a third changes nothing.
pub third_changes_nothing : (s : ℕ) → s < 4294967296 → fold_to16 (fold_to16 (fold_to16 s)) ≡ fold_to16 (fold_to16 s)
third_changes_nothing s h = let below = folded_twice_below s h in omega (arith, below)

-- A fold to 32 bits changes nothing in RFC 1071's fold, of any number, nor in that of 256 times it and more.
pub fold_to_32_scaled : (s u : ℕ) → fold (fold_to32 s * 256 + u) ≡ fold (s * 256 + u)
fold_to_32_scaled s u = sym (fold_any_rounds (fold_to32 s * 256 + u) (s / 4294967296 * 16777472) (λ e. omega arith)) ∙ ap fold (omega arith)

pub fold_to_32 : (s : ℕ) → fold (fold_to32 s) ≡ fold s
fold_to_32 s = sym (fold_any_rounds (fold_to32 s) (s / 4294967296 * 65537) (λ e. omega arith)) ∙ ap fold (omega arith)

-- Of two such folds of a 64-bit total the first leaves 8,589,934,590 at most;
pub to_32_once_leaves : (s : ℕ) → s < 18446744073709551616 → fold_to32 s ≤ 8589934590
to_32_once_leaves s h = omega arith

-- one is not always enough: of 8,589,934,591 it leaves 33 bits; no smaller total needs a second;
pub to_32_one_is_not_enough : fold_to32 8589934591 ≡ 4294967296
to_32_one_is_not_enough = refl

pub to_32_one_below : (s : ℕ) → s < 8589934591 → fold_to32 s < 4294967296
to_32_one_below s h = omega arith

-- so the second leaves 32 bits,
pub to_32_twice_below : (s : ℕ) → s < 18446744073709551616 → fold_to32 (fold_to32 s) < 4294967296
to_32_twice_below s h = to_32_one_below (fold_to32 s) (let leaves = to_32_once_leaves s h in omega (arith, leaves))

to_32_of_32_bits : (s : ℕ) → s < 4294967296 → fold_to32 s ≡ s
to_32_of_32_bits s h = omega arith

-- and a third changes nothing.
pub to_32_third_changes_nothing : (s : ℕ) → s < 18446744073709551616 → fold_to32 (fold_to32 (fold_to32 s)) ≡ fold_to32 (fold_to32 s)
to_32_third_changes_nothing s h = to_32_of_32_bits (fold_to32 (fold_to32 s)) (to_32_twice_below s h)

-- "Long input must be folded on the way so that the total stays inside" 64 bits: so it does before a step's fold, eight bytes being added to what is folded so far,
pub before_a_fold : (so_far next : ℕ) → so_far ≤ most_folded → next < 18446744073709551616 → so_far + fold_to32 next < 18446744073709551616
before_a_fold so_far next h k = omega arith

-- behind it, where the bound is met (the bytes 01 00 ff ff ff ff ff ff behind a total of 65,535 come to it),
pub folded_in_most : (so_far n : ℕ) → so_far ≤ most_folded → n ≤ 8589934590 → fold_to32 (so_far + n) ≤ most_folded
folded_in_most so_far n h k = omega arith

pub fold_bound_is_met : fold_to32 (65535 + fold_to32 18446744073709486081) ≡ most_folded
fold_bound_is_met = refl

-- and so does the most that it can be behind any part of a piece.
pub inside_64_bits : (n : ℕ) → n ≤ longest_piece → most_behind ((n + 3) / 4) < 18446744073709551616
inside_64_bits n h = omega arith

-- The code folds between two pieces, what `total_behind` promises of the first by `folded_to_32`: whatever total of 64 bits stands there, what is
-- carried on is at most 4,294,967,295,
pub carried_most : (s : ℕ) → s < 18446744073709551616 → fold_to32 (fold_to32 s) ≤ 4294967295
carried_most s h = let below = to_32_twice_below s h in omega (arith, below)

-- where the bound is met (a piece of bytes ff behind a total of 0 comes to it, and so does the largest total of 64 bits),
pub carried_bound_is_met : (fold_to32 (fold_to32 (4294967295 * (longest_piece / 4))) ≡ 4294967295) × (fold_to32 (fold_to32 18446744073709551615) ≡ 4294967295)
carried_bound_is_met = (refl, refl)

-- and with it the total behind any part of the next piece stays inside, each four of its bytes being at most 4,294,967,295;
pub inside_with_what_is_carried : (s n : ℕ) → s < 18446744073709551616 → n ≤ longest_piece → fold_to32 (fold_to32 s) + 4294967295 * ((n + 3) / 4) < 18446744073709551616
inside_with_what_is_carried s n h k = let most = carried_most s h in omega (arith, most)

-- so that from piece to piece every total that the contract of `total_behind` lets stand there stays inside, and what is carried has 32 bits.
pub between_pieces : (behind n : ℕ) → n ≤ longest_piece → behind ≤ most_behind ((n + 3) / 4)
    → (behind < 18446744073709551616) × (fold_to32 (fold_to32 behind) ≤ 4294967295)
between_pieces behind n k h =
    let inside = inside_64_bits n k in
    let below : behind < 18446744073709551616 = omega (arith, inside, h) in
    (below, carried_most behind below)

-- By this bound a piece might have 17,179,869,180 bytes, and not four more.
pub no_longer_piece : (most_behind (17179869180 / 4) < 18446744073709551616) × (18446744073709551616 ≤ most_behind (17179869180 / 4 + 1))
no_longer_piece = (omega arith, omega arith)
