-- `count` meets its contract. The invariant: what is found, and what is left to count, are the whole.
use Prim.Native.Nat.{ℕ, ◌-◌, ◌/◌, ◌%◌, ◌^◌}
use mathlib.Core.Path.{◌≡◌, ap, ◌∙◌}
use native.Mathlib.Omega.{arith}
use lib.Count.{ones_in}
use Rattle.bitmap.specs.Bitmap.{bit, count}
use Rattle.bitmap.proofs.Blocks.{count_in_word_of, count_rest}
use Rattle.bitmap.proofs.WordsLeft.{words_fall}
use Rattle.bitmap.proofs.count.Goals as goal

pub loop-at-smaller : goal.loop-at-smaller
loop-at-smaller c =
    let stop = c.args.stop in
    let n = c.within-n in
    words_fall c.loop-at.at n.result stop (omega arith) (omega arith) (omega arith) (omega arith) n.ensures.3

pub loop-at-preserved : goal.loop-at-preserved
loop-at-preserved c =
    let l = c.loop-at in
    let bits = c.args.bits.now in
    let stop = c.args.stop in
    let n = c.within-n.result in
    let e : c.ones-found.result ≡ count (bit bits) l.at n =
    c.ones-found.ensures.0
    ∙ ap (λ (w : ℕ). ones_in n (w / 2 ^ (l.at % 64))) c.word_at.ensures
    ∙ count_in_word_of bits l.at n (omega arith) in (
      omega (arith, e, l.invariant.0, count_rest (bit bits) l.at n stop (omega arith)),
      omega arith,
    )

pub returns : goal.returns
unfolding count
returns c =
    let a = c.args in
    let l = c.loop-at in
    let none : count (bit a.bits.now) l.at (a.stop - l.at) ≡ 0 = ap (count (bit a.bits.now) l.at) {x = a.stop - l.at} {y = 0} (omega arith) in
    omega (arith, none, l.invariant.0)
