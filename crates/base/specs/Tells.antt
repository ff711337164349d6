-- What a test's answer says.
use Rattle.std.specs.Prelude.{Bool, true, false}

-- that this holds, or that it doesn't
abbrev pub Tells : Bool → Type 0 → Type 0
Tells true A = A
Tells false A = A → ⊥
