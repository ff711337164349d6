-- A line of text as bytes: two hexadecimal digits to a byte. Spaces count for nothing, and `#` starts a comment.
use Rattle.std.specs.Prelude.{◌≡◌, ℕ, zero, suc, ◌+◌, ◌-◌, ◌*◌, ◌≤◌, min, Bool, true, false, Option, Some, None, cond, ◌&&◌, List, [], ◌∷◌, length, take, drop, ◌==◌, nat_le, nat_lt}
use Rattle.std.specs.List.{position_or_len}
use Rattle.vectors.specs.declared.lines.Line.{Line}
use Rattle.std.specs.Option.{unwrap_or}

-- where the first `c` stands, or the length where there is none
abbrev pub index_of : ℕ → List ℕ → ℕ
index_of c s = position_or_len (λ x. x == c) s

-- all before the first `c`, or all where there is none
unfoldable pub up_to : ℕ → List ℕ → List ℕ
up_to c s = take (index_of c s) s

-- the characters of the line that starts at `at`: up to its end, which is 10, and up to `#`, which is 35
unfoldable pub signs_at : List ℕ → ℕ → List ℕ
signs_at text at = up_to 35 (up_to 10 (drop at text))

-- where the next line starts
unfoldable pub next_line : List ℕ → ℕ → ℕ
next_line text at = min (at + index_of 10 (drop at text) + 1) (length text)

-- the value of a digit, `0` to `9` or `a` to `f`; 16 for another character
unfoldable pub digit : ℕ → ℕ
digit c = cond (nat_le 48 c && nat_le c 57) (c - 48) (cond (nat_le 97 c && nat_le c 102) (c - 87) 16)

-- the values of characters, without spaces
unfoldable pub digits : List ℕ → List ℕ
digits [] = []
digits (c ∷ t) = cond (c == 32) (digits t) (digit c ∷ digits t)

-- the bytes of digits, two by two
unfoldable pub pairs : List ℕ → List ℕ
pairs [] = []
pairs (h ∷ []) = []
pairs (h ∷ l ∷ t) = (h * 16 + l) ∷ pairs t

-- digits make bytes, at most `room`: each is below 16, and none is left over
unfoldable pub are_bytes : ℕ → List ℕ → Bool
are_bytes room [] = true
are_bytes room (h ∷ []) = false
are_bytes zero (h ∷ l ∷ t) = false
are_bytes (suc room) (h ∷ l ∷ t) = nat_lt h 16 && (nat_lt l 16 && are_bytes room t)

-- the bytes of a line's characters: none where they are no bytes
unfoldable pub bytes_of : ℕ → List ℕ → List ℕ
bytes_of room signs = cond (are_bytes room (digits signs)) (pairs (digits signs)) []

-- what there is to say of a line's characters: how many bytes they make, or None where they are no bytes
unfoldable pub read_of : ℕ → List ℕ → Option ℕ
read_of room signs = cond (are_bytes room (digits signs)) (Some (length (bytes_of room signs))) None

-- what there is to say of the line that starts at `at`
unfoldable pub line_at : List ℕ → ℕ → ℕ → Line
line_at text at room = record { len = read_of room (signs_at text at); next = next_line text at }

-- how many bytes were read: none where it is not said
abbrev pub count_of : Option ℕ → ℕ
count_of len = unwrap_or len 0

-- The promise of reading a line's characters into a buffer.
pub record ReadInto (room : ℕ) (signs line : List ℕ) (r : Option ℕ) : Type 0 where
  pub says : r ≡ read_of room signs
  pub bytes : take (count_of r) line ≡ bytes_of room signs
  pub fits : count_of r ≤ room

-- The promise of `decode`: what it says of the line, and the line's bytes at the start of the buffer. The last three follow from them.
pub record Decoded (text : List ℕ) (at room : ℕ) (line : List ℕ) (r : Line) : Type 0 where
  pub says : r ≡ line_at text at room
  pub bytes : take (count_of r.len) line ≡ bytes_of room (signs_at text at)
  pub fits : count_of r.len ≤ room
  pub within : r.next ≤ length text
  pub moves : min (at + 1) (length text) ≤ r.next
