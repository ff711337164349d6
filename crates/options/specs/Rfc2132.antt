-- DHCP options: RFC 2132, section 2, walked as document 01 says ("The option walk starts at 240").
use Rattle.std.specs.Prelude.{ℕ, zero, suc, ◌+◌, Bool, ◌&&◌, cond, List, [], ◌∷◌, length, drop, eqb, leb}

-- section 2: an option is its code, the number of its value's bytes, and these
abbrev pub option : (code : ℕ) (value : List ℕ) → List ℕ
option code value = code ∷ length value ∷ value

-- what the walk comes to
pub data Walked : Type 0 where
  -- the message type; 0 where the walk ends without one
  typed : (type : ℕ) → Walked
  -- the place, counted from the message's first byte, of an option 53 whose type isn't there
  cut : (place : ℕ) → Walked

-- the option that the scan stops at: "the first option 53 whose length is one or more"
abbrev pub decides : (code len : ℕ) → Bool
decides code len = eqb code 53 && leb 1 len

-- "its type is the next byte, even if the stated length runs past the data; if that next byte isn't there: 7"
abbrev pub type_at : (place : ℕ) (value : List ℕ) → Walked
type_at place [] = cut place
type_at place (type ∷ rest) = typed type

-- The walk over the bytes from `place` on, of which the first `over` are still stepped over. Where it ends without a type, it gives `none`.
unfoldable pub walk_from : (none place over : ℕ) → List ℕ → Walked
-- "the end of data"
walk_from none place over [] = typed none
walk_from none place (suc over) (byte ∷ rest) = walk_from none (place + 1) over rest
-- "a code that is the last byte ends it"
walk_from none place zero (code ∷ []) = typed none
walk_from none place zero (code ∷ len ∷ rest) =
    cond (eqb code 255) (typed none)  -- "Code 255"
    (cond (eqb code 0) (walk_from none (place + 1) 0 (len ∷ rest))  -- "Code 0 is one byte"
    (cond (decides code len) (type_at place rest)  -- "The scan stops at the first option 53 whose length is one or more"
    (walk_from none (place + 2) len rest)))  -- "Every other option is stepped over by its length"

-- "The option walk starts at 240", and where it ends without a type, it does so "with type 0"
unfoldable pub walk : (message : List ℕ) → Walked
walk message = walk_from 0 240 0 (drop 240 message)

-- the same with any number in the place of that 0: this tells a message without a type from one whose type is 0
unfoldable pub walk_or : (none : ℕ) (message : List ℕ) → Walked
walk_or none message = walk_from none 240 0 (drop 240 message)
