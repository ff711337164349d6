-- `payload::lay_payload` meets its contract: each turn lays the byte at `i` and moves the rule on.
use Rattle.std.proofs.Common.{◌≡◌, ℕ, ◌<◌, length, get_or}
use Rattle.vectors.specs.Payload.{ruled_at, payload_byte_lem}
use Rattle.vectors.proofs.payload.lay_payload.Given as goal

abbrev pub invariant-loop-i : goal.invariant-loop-i
invariant-loop-i l =
    (length l.out ≡ length l.initial.out) × (l.ruled ≡ ruled_at l.seed l.i) × ((k : ℕ) → k < l.i → get_or l.out k 0 ≡ payload_byte_lem l.seed (get_or l.written k 0) (ruled_at l.seed k))
