-- A lent buffer and what is written into it.
use Rattle.std.specs.Prelude.{ℕ, ◌+◌, List, ◌++◌, length, take, drop, leb, cond}

-- a buffer once `s` is written into it from `at` on
unfoldable pub put : ℕ → List ℕ → List ℕ → List ℕ
put at s buffer = take at buffer ++ s ++ drop (at + length s) buffer

-- the same where there is room for it; else the buffer as it was
unfoldable pub put_if_fits : ℕ → List ℕ → List ℕ → List ℕ
put_if_fits at s buffer = cond (leb (at + length s) (length buffer)) (put at s buffer) buffer
