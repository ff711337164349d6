-- `lines::decode` meets its contract: the characters that it reads are those of the line, up to a comment.
use Rattle.std.proofs.Common.{arith, rules}
use Rattle.vectors.proofs.Decoding.{past_end, inside}
use Rattle.vectors.proofs.lines.decode.Goals as goal

pub returns-then-text-at : goal.returns-then-text-at
returns-then-text-at c = past_end _ _ _ _ c.if-text-at.true

pub returns : goal.returns
returns c =
    let left = c.rest-left.ensures in
    inside c.args.text.now c.args.at c.find-end.result c.find-stop.result
    (rw left at c.find-end.ensures.place) (rw left at c.find-stop.ensures.place)
    (omega (arith, c.if-text-at.false)) (search rules) _ _ _ _ (rw left at c.read_bytes.ensures) c.behind.ensures
