-- `mark` meets its contract. The invariant: the blocks before `at` are marked, and no other bit is changed.
use Prim.Native.Nat.{ℕ, ◌*◌, ◌/◌, ◌%◌, ◌^◌}
use mathlib.Core.Path.{◌≡◌, refl, sym, ap, ◌∙◌}
use native.Mathlib.Nat.{le_refl}
use borrow.Author.Tests.{leb-true, le-leb}
use native.Mathlib.Omega.{arith}
use lib.Bits.{bit_or}
use lib.ListN.{length, get_or, set, length-set}
use lib.Pow.{shl_exact, ones_lt}
use Rattle.bitmap.specs.Bitmap.{bit}
use Rattle.bitmap.proofs.Digits.{run}
use Rattle.bitmap.proofs.Blocks.{having_none, marked_to, run_to}
use Rattle.bitmap.proofs.WordsLeft.{words_fall}
use Rattle.bitmap.proofs.mark.Goals as goal

pub returns-then-not-reaches : goal.returns-then-not-reaches
returns-then-not-reaches c =
    record {
      bits = λ b. simp (sym c.reaches.ensures, c.if-not-reaches.true);
      as_long = refl;
    }

pub loop-at-init : goal.loop-at-init
loop-at-init c =
    let a = c.args in (
      λ b. sym (having_none (bit a.bits.now) a.first a.first b (le_refl a.first)),
      refl,
      omega arith,
      omega arith,
      leb-true a.stop (length a.bits.now * 64) (sym c.reaches.ensures ∙ c.if-not-reaches.false),
    )

pub bounds-bits-word : goal.bounds-bits-word
bounds-bits-word c = omega arith

pub bounds-bits-word-in-loop-at : goal.bounds-bits-word-in-loop-at
bounds-bits-word-in-loop-at c = omega arith

pub loop-at-smaller : goal.loop-at-smaller
loop-at-smaller c =
    let a = c.args in
    let n = c.within-n in
    words_fall c.loop-at.at n.result a.stop (omega arith) (omega arith) (omega arith) (omega arith) n.ensures.3

pub loop-at-preserved : goal.loop-at-preserved
loop-at-preserved c =
    let a = c.args in
    let l = c.loop-at in
    let n = c.within-n.result in
    let shifted : (c.lowest.result * 2 ^ (l.at % 64)) % 2 ^ 64 ≡ run (l.at % 64) n =
    ap (λ (m : ℕ). (m * 2 ^ (l.at % 64)) % 2 ^ 64) c.lowest.ensures ∙ shl_exact n (l.at % 64) 64 (ones_lt n) (omega arith) in (
      λ b.
          ap (λ (m : ℕ). bit (set l.bits (l.at / 64) (bit_or (get_or l.bits (l.at / 64) 0) m)) b) shifted
          ∙ marked_to (bit a.bits.now) l.bits a.first l.at n (omega arith) l.invariant.2 (omega arith) l.invariant.0 b,
      length-set l.bits (l.at / 64) (bit_or (get_or l.bits (l.at / 64) 0) ((c.lowest.result * 2 ^ (l.at % 64)) % 2 ^ 64)) ∙ l.invariant.1,
      omega arith,
      omega arith,
      l.invariant.4,
    )

pub returns : goal.returns
returns c =
    let a = c.args in
    let l = c.loop-at in
    record {
      bits =
          λ b.
          l.invariant.0 b
          ∙ run_to (bit a.bits.now) a.first l.at a.stop b c.loop-at-test.false l.invariant.2 l.invariant.3
          ∙ simp (le-leb a.stop (length a.bits.now * 64) l.invariant.4);
      as_long = l.invariant.1;
    }
