-- A tally: in each of 32 rows how many cases agreed and how many did not.
use Rattle.std.specs.Prelude.{ℕ, ◌+◌, ◌%◌, ◌^◌, Bool, cond, List, replicate, nat_lt, slice_index, slice_set}
use Rattle.vectors.specs.declared.tally.Tally.{Tally}

abbrev pub empty : Tally
empty = record { right = replicate 32 0; wrong = replicate 32 0 }

-- one more in a row
unfoldable pub one_more_lem : List ℕ → ℕ → List ℕ
one_more_lem counts row = slice_set counts row ((slice_index counts row + 1) % 2 ^ 64)

-- past the last row nothing is counted
unfoldable pub counted_in : Tally → ℕ → Bool → Tally
counted_in t row agrees =
    cond (nat_lt row 32)
    (cond agrees (record { right = one_more_lem t.right row; wrong = t.wrong }) (record { right = t.right; wrong = one_more_lem t.wrong row }))
    t
