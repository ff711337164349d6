-- Numbers on the wire. A value of the wire is a list of bytes; numbers are big-endian (RFC 791, appendix B).
use Rattle.std.specs.Prelude.{ℕ, zero, suc, ◌+◌, ◌*◌, ◌/◌, ◌%◌, List, [], ◌∷◌, ◌++◌, get_or, take, drop}

-- a 16-bit number as two bytes
abbrev pub be16 : ℕ → List ℕ
be16 n = n / 256 ∷ n % 256 ∷ []

-- a 32-bit number as four bytes
abbrev pub be32 : ℕ → List ℕ
be32 n = be16 (n / 65536) ++ be16 (n % 65536)

-- the byte at `at`; 0 past the end
abbrev pub u8_at : List ℕ → ℕ → ℕ
u8_at s at = get_or s at 0

-- the 16-bit number whose first byte stands at `at`
abbrev pub u16_at : List ℕ → ℕ → ℕ
u16_at s at = u8_at s at * 256 + u8_at s (at + 1)

-- the 32-bit number whose first byte stands at `at`
abbrev pub u32_at : List ℕ → ℕ → ℕ
u32_at s at = u16_at s at * 65536 + u16_at s (at + 2)

-- the `n` bytes from `at` on, one by one; 0 past the end
abbrev pub bytes_at : List ℕ → ℕ → ℕ → List ℕ
bytes_at s at zero = []
bytes_at s at (suc n) = u8_at s at ∷ bytes_at s (suc at) n

-- the `n` bytes from `at` on, as many as there are
abbrev pub part : List ℕ → ℕ → ℕ → List ℕ
part s at n = take n (drop at s)
