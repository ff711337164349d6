-- No reader has to believe this: what the tests of a payload hand on of a packet. Their promises (`Tells`) are proved from it.
use Rattle.std.specs.Prelude.{ℕ, ◌≤◌, ◌≡◌, List, length, Option, Some, None}
use Rattle.std.specs.Borrow.{Bor}
use Rattle.grammar.specs.Grammar.{header_length_lem, payload, protocol}

-- a packet of this protocol with a whole header
pub record Carried (packet : List ℕ) (named : ℕ) : Type 0 where
  pub carried : protocol packet ≡ named
  pub whole : header_length_lem packet ≤ length packet

-- its payload, or that it is no such packet
abbrev pub PayloadOf : (packet : List ℕ) (named : ℕ) → Option (Bor (List ℕ)) → Type 0
PayloadOf packet named None = Carried packet named → ⊥
PayloadOf packet named (Some part) = Carried packet named × (part.now ≡ payload packet)
