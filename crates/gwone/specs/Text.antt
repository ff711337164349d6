-- Text as bytes: ASCII, a number in decimal, bytes in hexadecimal.
use Rattle.std.specs.Prelude.{ℕ, zero, suc, ◌+◌, ◌/◌, ◌%◌, List, [], ◌∷◌, ◌++◌, ltb, cond}
use Prim.Native.Char.{code}
use Prim.Native.String.{String, [] as empty, ◌∷◌ as ◌then◌}

abbrev pub ascii : String → List ℕ
ascii empty = []
ascii (c then s) = code c ∷ ascii s

-- the ASCII code of a digit below 16: `0` to `9`, then `a` to `f`
abbrev pub glyph : (digit : ℕ) → ℕ
glyph digit = cond (ltb digit 10) (48 + digit) (87 + digit)

-- a number's decimal digits, with no zero in front; `most` only bounds the recursion, and n is bound enough for n
abbrev pub decimal_within : (most n : ℕ) → List ℕ
decimal_within zero n = glyph n ∷ []
decimal_within (suc most) n = cond (ltb n 10) (glyph n ∷ []) (decimal_within most (n / 10) ++ (glyph (n % 10) ∷ []))

unfoldable pub decimal : (n : ℕ) → List ℕ
decimal n = decimal_within n n

-- two digits, in lower case, for each byte
unfoldable pub hex : (bytes : List ℕ) → List ℕ
hex [] = []
hex (byte ∷ bytes) = glyph (byte / 16) ∷ glyph (byte % 16) ∷ hex bytes
