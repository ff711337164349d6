-- `lines::read_bytes` meets its contract: in each turn what was read and what is left make up the whole.
use Rattle.std.proofs.Common.{◌<◌, refl, arith}
use Rattle.vectors.proofs.Reading.{starts, past_space, wrong, full, first, second, whole, broken, refused, taken}
use Rattle.vectors.proofs.lines.read_bytes.Goals as goal
use Rattle.vectors.proofs.lines.read_bytes.Goals.{in-Some+else-line-len, in-None}

pub loop-sign-init : goal.loop-sign-init
loop-sign-init c = (starts _ _, tt)

pub loop-sign-preserved-then-sign-eq32 : goal.loop-sign-preserved-then-sign-eq32
loop-sign-preserved-then-sign-eq32 c = (past_space c.loop-sign.invariant.0 c.loop-sign-test.true c.if-sign-eq32.true, c.loop-sign.invariant.1)

pub returns-in_err-low : goal.returns-in_err-low
returns-in_err-low c =
    refused _ _ _ _ c.from_residual.ensures (wrong c.loop-sign.invariant.0 c.loop-sign-test.true c.if-sign-eq32.false 16 c.in_err-low.ensures.value refl)

pub returns-then-line-len : goal.returns-then-line-len
returns-then-line-len c =
    refused _ _ _ _ refl (full c.loop-sign.invariant.0 c.loop-sign-test.true c.if-sign-eq32.false c.in_ok-low.low c.in_ok-low.ensures.value (omega arith))

pub loop-sign-preserved : goal.loop-sign-preserved
loop-sign-preserved c =
    let l = c.loop-sign in
    let low = c.in_ok-low in
    elim c.match-high.branch [
      | in-Some+else-line-len w ↦
          let half = rw w.in-Some.is at l.invariant.0 in
          let small : w.in-Some.first < 16 = rw w.in-Some.is at l.invariant.1 in
          rw (w.line-is, w.len-is, w.high-is)
          (second half c.loop-sign-test.true c.if-sign-eq32.false low.low low.ensures.value low.ensures.upper_bound small (omega arith), tt)
      | in-None w ↦
          let none = rw w.in-None.is at l.invariant.0 in
          rw (w.line-is, w.len-is, w.high-is)
          (first none c.loop-sign-test.true c.if-sign-eq32.false low.low low.ensures.value (λ e. omega (arith, low.ensures.upper_bound)) (omega (arith, low.ensures.upper_bound)) refl, low.ensures.upper_bound)
    ]

pub returns-in-None-high : goal.returns-in-None-high
returns-in-None-high c =
    let l = c.loop-sign in
    let none = rw c.in-None-high.is at l.invariant.0 in
    taken _ _ _ _ l.len none.fits none.same_room refl (whole none c.loop-sign-test.false refl)

pub returns-in-Some-high : goal.returns-in-Some-high
returns-in-Some-high c =
    let l = c.loop-sign in
    let half = rw c.in-Some-high.is at l.invariant.0 in
    let small = rw c.in-Some-high.is at l.invariant.1 in
    refused _ _ _ _ refl (broken half c.loop-sign-test.false (λ e. omega (arith, small)))
