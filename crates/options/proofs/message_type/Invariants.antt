-- `options::message_type` meets its contract. The invariant: the walk at the place that the scan has come to is the whole walk.
use Prim.Native.Nat.{ℕ, ◌-◌}
use mathlib.Core.Path.{◌≡◌}
use lib.ListN.{length}
use Rattle.options.specs.Rfc2132.{walk_or}
use Rattle.options.proofs.Places.{walk_at}
use Rattle.options.proofs.message_type.Given as goal

abbrev pub invariant-scan : goal.invariant-scan
invariant-scan l = (none : ℕ) → walk_at none l.data l.at ≡ walk_or none l.data

abbrev pub decreases-scan : goal.decreases-scan
decreases-scan l = length l.data - l.at
