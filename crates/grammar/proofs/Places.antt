-- A layer by its three places.
use Prim.Native.Nat.{ℕ, ◌+◌}
use mathlib.Core.Path.{◌≡◌}
use mathlib.Core.List.{List}
use lib.ListN.{length}
use Rattle.grammar.specs.Grammar.{laid, layer}

pub placed : (at n : ℕ) (s : List ℕ) (start mid stop : ℕ) → start ≡ at → mid ≡ at + n → stop ≡ at + length s → laid start mid stop ≡ layer at n s
placed at n s start mid stop e f g = λ i. laid (e i) (f i) (g i)
