-- The kinds of the lines, and what is promised of a line that is judged.
use Rattle.std.specs.Prelude.{◌≡◌, ℕ, ◌%◌, Option, Some, None, cond, ◌&&◌, nat_le}
use Rattle.builder_cases.specs.declared.cases.Case.{Case}

-- the kind in a line's first byte: 1 to 3 or 5 to 12, and else 0
unfoldable pub kind_of : ℕ → ℕ
kind_of first = cond (nat_le 1 (first % 128) && nat_le (first % 128) 3) (first % 128) (cond (nat_le 5 (first % 128) && nat_le (first % 128) 12) (first % 128) 0)

-- the kind of a case; 0 where there is none
abbrev pub kind_in : Option Case → ℕ
kind_in None = 0
kind_in (Some case) = case.kind

-- The promise of `judge`: the kind, and that a line without one is no case, and so agrees with nothing.
pub record Judged (first : ℕ) (r : Option Case) : Type 0 where
  pub kind : kind_in r ≡ kind_of first
  pub without : kind_in r ≡ 0 → r ≡ None
