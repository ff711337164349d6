-- A payload that a line writes out, or gives by a rule.
use Rattle.std.specs.Prelude.{◌≡◌, ℕ, ◌+◌, ◌*◌, ◌%◌, ◌<◌, cond, List, length, ◌==◌, slice_index}

-- the byte at `k` by the rule
abbrev pub ruled_at : ℕ → ℕ → ℕ
ruled_at seed k = (seed + 17 * k) % 251

-- a byte: the written one under seed 0, 255 under that, and else the one by the rule
abbrev pub payload_byte_lem : ℕ → ℕ → ℕ → ℕ
payload_byte_lem seed written ruled = cond (seed == 0) written (cond (seed == 255) 255 ruled)

-- The promise of `lay_payload`: it fills the buffer; behind what is written there are zeros.
pub record Laid (written : List ℕ) (seed : ℕ) (before after : List ℕ) : Type 0 where
  pub size : length after ≡ length before
  pub bytes : (k : ℕ) → k < length after → slice_index after k ≡ payload_byte_lem seed (slice_index written k) (ruled_at seed k)
