-- `lines::read_bytes` meets its contract: in each turn what was read and what is left make up the whole.
use Rattle.std.proofs.Common.{◌<◌, length, IfSome}
use Rattle.std.specs.Option.{unwrap_or}
use Rattle.vectors.proofs.Reading.{Halfway}
use Rattle.vectors.proofs.lines.read_bytes.Given as goal

abbrev pub invariant-loop-sign : goal.invariant-loop-sign
invariant-loop-sign l = Halfway l.signs (length l.initial.line) l.line l.len (unwrap_or l.high 16) l.sign-index × IfSome l.high (λ d. d < 16)
