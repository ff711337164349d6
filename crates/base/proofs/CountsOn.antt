-- All that is said of numbers that count on follows from what each of them is.
use Prim.Native.Nat.{ℕ, ◌+◌, ◌%◌, ◌<◌}
use mathlib.Core.Path.{◌≡◌}
use mathlib.Core.List.{List}
use native.Mathlib.Omega.{arith}
use lib.ListN.{length, get_or}
use Rattle.base.specs.Counting.{CountsOn}
use Rattle.base.proofs.InARow.{row, in_a_row}

module _ (start : ℕ) (numbers : List ℕ) (is : (k : ℕ) → k < length numbers → get_or numbers k 0 ≡ (start + k) % 65536) where
  pub counts_on : CountsOn start numbers
  counts_on =
      record {
        number = is;
        different_in_a_row = λ i j k less there same. in_a_row start numbers is row i j k less there same (omega arith);
        same_are_apart = λ i j less there same. omega (arith, is i (omega arith), is j there, same);
        apart_are_same = λ i j less there apart. omega (arith, is i (omega arith), is j there, apart);
      }
