-- Parts of a line's bytes.
use Rattle.std.specs.Prelude.{ℕ, ◌+◌, cond, List, [], length, take, drop, nat_le}

-- the `n` bytes from `at` on; none where they run past the end
unfoldable pub whole_part : List ℕ → ℕ → ℕ → List ℕ
whole_part s at n = cond (nat_le (at + n) (length s)) (take n (drop at s)) []
