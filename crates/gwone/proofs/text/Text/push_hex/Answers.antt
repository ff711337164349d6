-- `Text::push_hex`: after i turns the digits of the first i bytes are added.
use Rattle.std.proofs.Common.{arith, append-nil, append_assoc, length-append, length-take-le}
use Rattle.gwone.specs.Text.{hex}
use Rattle.gwone.proofs.Adding.{length_hex, hex_more}
use Rattle.gwone.proofs.text.Text.push_hex.Goals as goal

pub loop-byte-init : goal.loop-byte-init
unfolding hex
loop-byte-init c = simp append-nil

pub push-requires : goal.push-requires
push-requires c =
    let l = c.loop-byte in
    rw (l.invariant, length-append, length_hex, length-take-le l.byte-index c.args.bytes.now (omega arith)) (omega arith)

pub loop-byte-preserved : goal.loop-byte-preserved
unfolding hex
loop-byte-preserved c =
    let l = c.loop-byte in
    rw (hex_more c.args.bytes.now l.byte-index (omega arith), c.push.ensures, l.invariant, c.glyph.ensures, c.glyph-in-loop-byte.ensures)
    (simp append_assoc)
