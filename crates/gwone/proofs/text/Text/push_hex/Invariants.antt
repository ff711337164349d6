-- `Text::push_hex`: after i turns the digits of the first i bytes are added.
use Rattle.std.proofs.Common.{◌≡◌, ◌++◌, take}
use Rattle.gwone.specs.Text.{hex}
use Rattle.gwone.proofs.text.Text.push_hex.Given as goal

abbrev pub invariant-loop-byte : goal.invariant-loop-byte
invariant-loop-byte l = l.self ≡ l.fn.self ++ hex (take l.byte-index l.bytes)
