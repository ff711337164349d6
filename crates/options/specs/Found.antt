-- What `message_type` answers, in the words of the walk.
use Rattle.std.specs.Prelude.{ℕ, Option, Some, None, Result, Ok, Err}
use Rattle.options.specs.Rfc2132.{Walked, typed, cut}
use Rattle.options.specs.declared.CutAt.{CutAt}

-- with this number for a message that has no type
abbrev pub walked_or : (none : ℕ) → Result (Option ℕ) CutAt → Walked
walked_or none (Ok (Some type)) = typed type
walked_or none (Ok None) = typed none
walked_or none (Err at) = cut at.0

-- with document 01's number for it, 0
abbrev pub walked_as : Result (Option ℕ) CutAt → Walked
walked_as found = walked_or 0 found
