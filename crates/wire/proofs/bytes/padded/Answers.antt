-- `bytes::padded` meets its contract: the first of six bytes, or all that is left with zeros behind it.
use Rattle.std.proofs.Common.{ap, refl, ◌∙◌, ◌++◌, List, ℕ, take, drop, length, replicate, arith}
use Rattle.wire.proofs.Reading.{fewer, past_end, with_zeros}
use Rattle.wire.proofs.bytes.padded.Goals as goal

pub returns-in-Some : goal.returns-in-Some
returns-in-Some g c =
    let rest = c.args.rest.now in
    let first = c.in-Some.ensures.cases in
    first.same
    ∙ ap (take g.row.N) (rw (c.byte_at.ensures, c.byte_at-2.ensures, c.byte_at-3.ensures, c.byte_at-4.ensures, c.byte_at-5.ensures, past_end rest 5 (omega (arith, first.enough))) refl)
    ∙ fewer rest 0 g.row.N 6 first.enough

pub returns : goal.returns
returns g c =
    let rest = c.args.rest.now in
    ap (λ (s : List ℕ). s ++ drop (length rest) (replicate g.row.N 0)) c.copy_from_slice.ensures.after ∙ with_zeros rest g.row.N (omega arith)
