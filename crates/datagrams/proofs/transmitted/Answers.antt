-- `transmitted` meets its contract: by whether the computed checksum is 0.
use Prim.Native.Nat.{ℕ, zero, suc}
use mathlib.Core.Path.{◌≡◌, refl}
use Rattle.wire.specs.Rfc768.{transmitted}
use Rattle.datagrams.proofs.transmitted.Goals as goal

all_ones : (n : ℕ) → n ≡ 0 → 65535 ≡ transmitted n
unfolding transmitted
all_ones n e = rw e

other : (n : ℕ) → (n ≡ 0 → ⊥) → n ≡ transmitted n
unfolding transmitted
other zero h = absurd (h refl)
other (suc n) h = refl

pub returns-then-computed-eq0 : goal.returns-then-computed-eq0
returns-then-computed-eq0 c = all_ones c.args.computed c.if-computed-eq0.true

pub returns : goal.returns
returns c = other c.args.computed c.if-computed-eq0.false
