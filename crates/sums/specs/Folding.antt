-- Document 02, request 3/13: one fold of a total, and how large a total may become before the next; with 64 bits, as request 13/13 has them.
use Rattle.std.specs.Prelude.{ℕ, ◌+◌, ◌*◌, ◌/◌, ◌%◌}

-- RFC 1071, section 4.1, "Fold 32-bit sum to 16 bits": what lies above 16 bits is added to the 16 bits below
abbrev pub fold_to16 : ℕ → ℕ
fold_to16 s = s / 65536 + s % 65536

-- the same with twice as many bits
abbrev pub fold_to32 : ℕ → ℕ
fold_to32 s = s / 4294967296 + s % 4294967296

-- "Long input must be folded on the way": so many bytes are added up with no fold between
abbrev pub longest_piece : ℕ
longest_piece = 1073741824

-- the most that a total can be behind a step with a fold
abbrev pub most_folded : ℕ
most_folded = 4294967296

-- the most that it can be behind so many times four bytes more, added with no fold: each four are at most 4,294,967,295
abbrev pub most_behind : ℕ → ℕ
most_behind fours = most_folded + 4294967295 * fours

-- the most that the upper halves of so many times eight bytes come to
abbrev pub most_upper : ℕ → ℕ
most_upper eights = 4294967295 * eights
