-- The contracts leave one answer: the same asked of the same store gets the same. A bitmap of numbers of 64 bits is told by its bits.
use Prim.Native.Nat.{ℕ, zero, suc, ◌+◌, ◌*◌, ◌/◌, ◌%◌, ◌^◌, ◌<◌}
use mathlib.Core.Path.{◌≡◌, sym, ◌∙◌}
use mathlib.Core.List.{List}
use native.Mathlib.Nat.{div-one}
use native.Mathlib.Omega.{arith}
use lib.ListN.{length, get_or}
use lib.Pow.{shr-shr}
use lib.Seq.{ext_get_or}
use Rattle.bitmap.specs.Bitmap.{bit}
use Rattle.fragments.proofs.OneAnswer.{one_taken, one_released, one_effect, as_many_bits}
use Rattle.fragment_rules.specs.Rules.{ruling}
use Rattle.fragments.specs.declared.answer.Taken.{Taken}
use Rattle.fragment_laws.specs.Calls.{Store, Asked, taking, releasing, Of64Bits, Promised}

-- a number of `k` bits is told by them
same_digits : (k x y : ℕ) → x < 2 ^ k → y < 2 ^ k → ((j : ℕ) → j < k → x / 2 ^ j % 2 ≡ y / 2 ^ j % 2) → x ≡ y
same_digits zero x y l m same = omega arith
same_digits (suc k) x y l m same =
    let lowest : x % 2 ≡ y % 2 = simp div-one at (same 0 (omega arith)) in
    let halves : x / 2 ≡ y / 2 = same_digits k (x / 2) (y / 2) (omega arith) (omega arith) (λ j h. rw (shr-shr x 1 j, shr-shr y 1 j) (same (1 + j) (omega arith))) in
    omega arith

-- so is a bitmap
pub same_bits : (v w : List ℕ) → length v ≡ length w → Of64Bits v → Of64Bits w → ((b : ℕ) → bit v b ≡ bit w b) → v ≡ w
unfolding bit
same_bits v w long small small' same = ext_get_or 0 v w long (λ i h. same_digits 64 (get_or v i 0) (get_or w i 0) (small i) (small' i) (digit i))
  where
    digit : (i j : ℕ) → j < 64 → get_or v i 0 / 2 ^ j % 2 ≡ get_or w i 0 / 2 ^ j % 2
    digit i j h =
        let word : (i * 64 + j) / 64 ≡ i = omega arith in
        let place : (i * 64 + j) % 64 ≡ j = omega arith in
        rw (word, place) at (same (i * 64 + j))

-- so the same asked of the same store gets the same answer, and leaves the same store
pub one_answer : (asked : Asked) (before after after' : Store) (taken taken' : Taken) → Promised asked before after taken → Promised asked before after' taken'
    → (taken ≡ taken') × (after.bytes ≡ after'.bytes) × (after.bits ≡ after'.bits)
one_answer (taking frame) before after after' taken taken' k l =
    let r = ruling before.state frame (length before.bytes) before.bits in
    let store = one_effect r frame before.bytes before.bits after.bytes after.bits after'.bytes after'.bits k.0.store l.0.store in
    let long = as_many_bits r frame before.bytes before.bits after.bytes after.bits k.0.store in
    let long' = as_many_bits r frame before.bytes before.bits after'.bytes after'.bits l.0.store in
    (one_taken k.0 l.0, store.0, same_bits after.bits after'.bits (long ∙ sym long') k.1 l.1 store.1)
one_answer releasing before after after' taken taken' k l = (one_released k.0 l.0, k.1 ∙ sym l.1, k.0.cleared ∙ sym l.0.cleared)
