-- How many turns a walk over a run of blocks takes: a turn for each word that they lie in.
use Prim.Native.Nat.{ℕ, ◌+◌, ◌-◌, ◌/◌, ◌%◌, ◌≤◌, ◌<◌}
use mathlib.Core.Bool.{cond}
use mathlib.Core.Path.{◌≡◌}
use native.Mathlib.Omega.{arith}
use borrow.Author.Tests.{ltb-true, ltb-false, lt-ltb}
use lib.Dec.{ltb}
use Rattle.base.proofs.Choice.{by_test}

-- the number of words in which the blocks from `at` up to `stop` lie
abbrev pub words_left : ℕ → ℕ → ℕ
words_left at stop = cond (ltb at stop) ((stop + 63) / 64 - at / 64) 0

-- a turn that takes `n` blocks, all that are left or all that the word has, leaves one word fewer
pub words_fall : (at n stop : ℕ) → at < stop → 0 < n → at % 64 + n ≤ 64 → n ≤ stop - at → (n < stop - at → at % 64 + n ≡ 64) → words_left (at + n) stop < words_left at stop
words_fall at n stop h some inside up_to_lem filled =
    by_test (ltb (at + n) stop)
    (λ e.
    let more = ltb-true (at + n) stop e in
    let full = filled (omega arith) in
    rw (lt-ltb at stop h, e) (omega arith))
    (λ e.
    let none = ltb-false (at + n) stop e in
    rw (lt-ltb at stop h, e) (omega arith))
