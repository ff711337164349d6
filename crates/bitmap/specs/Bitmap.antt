-- The bitmap of a store: "128 words of 64 bits, one bit for each block of eight bytes" (document 02, request 4/13). It is read here at any
-- length: a block that the words do not reach is not there.
use Rattle.std.specs.Prelude.{ℕ, zero, suc, ◌+◌, ◌*◌, ◌/◌, ◌%◌, ◌^◌, ◌&&◌, cond, List, ◌≡◌, leb, ltb, length, get_or}

-- how many blocks of eight bytes the first `n` bytes touch
unfoldable pub blocks_of_lem : (n : ℕ) → ℕ
blocks_of_lem n = (n + 7) / 8

-- 1 where block `b` is there, else 0: 64 blocks to a word, the lowest bit first
unfoldable pub bit : (bits : List ℕ) (b : ℕ) → ℕ
bit bits b = get_or bits (b / 64) 0 / 2 ^ (b % 64) % 2

-- how many of the `n` blocks from `first` on are there, where `there` is 1 for a block that is and 0 for one that is not
unfoldable pub count : (there : ℕ → ℕ) (first n : ℕ) → ℕ
count there first zero = 0
count there first (suc n) = there first + count there (suc first) n

-- which blocks are there once those from `first` up to `stop` have come
unfoldable pub having : (there : ℕ → ℕ) (first stop : ℕ) → ℕ → ℕ
having there first stop b = cond (leb first b && ltb b stop) 1 (there b)

-- The promise of a call that marks blocks: bit by bit what is there afterwards, in as many words as before. Blocks that the words do not
-- reach can't be marked: then nothing is.
pub record Marked (first stop : ℕ) (before after : List ℕ) : Type 0 where
  pub bits : (b : ℕ) → bit after b ≡ cond (leb stop (length before * 64)) (having (bit before) first stop b) (bit before b)
  pub as_long : length after ≡ length before
