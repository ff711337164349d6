-- `Text::push` puts the piece behind the bytes that were written, where it fits.
use Rattle.std.proofs.Common.{rules}
use Rattle.gwone.proofs.Adding.{put_behind}
use Rattle.gwone.proofs.text.Text.push.Goals as goal

pub returns : goal.returns
returns c = rw (c.put.ensures, ← c.self.view_is) (put_behind c.self.inside.len c.args.piece.now c.self.inside.bytes (search rules))
