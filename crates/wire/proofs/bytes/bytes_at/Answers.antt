-- `bytes::bytes_at` meets its contract: the bytes that stand there, those that are left of them, or zeros past the end.
use Rattle.std.proofs.Common.{sym, ap, ◌∙◌, ℕ, List, add-zero, arith, take}
use Rattle.base.proofs.Lists.{from_on, part_bytes}
use Rattle.base.specs.Bytes.{bytes_at}
use Rattle.wire.proofs.Reading.{read_behind, zeros_past_end}
use Rattle.wire.proofs.bytes.bytes_at.Goals as goal

pub returns-in-Some-first_chunk : goal.returns-in-Some-first_chunk
returns-in-Some-first_chunk g c =
    let a = c.args in
    let part = c.in-Some.ensures.lookup.0 in
    let first = c.in-Some-first_chunk.ensures.cases in
    first.same ∙ ap (take g.row.N) (part.2 ∙ from_on a.at a.buf.now) ∙ part_bytes a.buf.now g.row.N a.at (omega (arith, part.0, first.enough))

pub returns-in-None-first_chunk : goal.returns-in-None-first_chunk
returns-in-None-first_chunk g c =
    let a = c.args in
    c.padded.ensures
    ∙ ap (λ (s : List ℕ). bytes_at s 0 g.row.N) (c.in-Some.ensures.lookup.0.2 ∙ from_on a.at a.buf.now)
    ∙ read_behind a.buf.now a.at 0 g.row.N
    ∙ ap (λ (k : ℕ). bytes_at a.buf.now k g.row.N) (add-zero a.at)

pub returns-in-None : goal.returns-in-None
returns-in-None g c = sym (zeros_past_end c.args.buf.now g.row.N c.args.at (omega (arith, c.in-None.ensures.lookup)))
