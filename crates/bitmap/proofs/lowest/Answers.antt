-- `lowest` meets its contract: 64 ones less the highest leave `n`.
use Prim.Native.Nat.{ℕ, ◌-◌, ◌/◌, ◌^◌}
use mathlib.Core.Path.{ap, ◌∙◌}
use native.Mathlib.Omega.{arith}
use lib.Pow.{ones_split, ones_lt, high}
use Rattle.bitmap.proofs.lowest.Goals as goal

pub returns : goal.returns
returns c =
    ap (λ (k : ℕ). (2 ^ k - 1) / 2 ^ (64 - c.args.n)) {x = 64} (omega arith)
    ∙ ap (λ (x : ℕ). x / 2 ^ (64 - c.args.n)) (ones_split c.args.n (64 - c.args.n))
    ∙ high (2 ^ c.args.n - 1) (64 - c.args.n) (ones_lt (64 - c.args.n))
