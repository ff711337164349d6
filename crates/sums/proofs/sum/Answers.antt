-- `sums::sum` meets its contract. The invariant: 256 times what is folded so far and the sum of what is left fold as the whole.
use Rattle.std.proofs.Common.{ℕ, ◌+◌, ◌*◌, take, drop, sym, ap, ◌∙◌, add-zero, arith, take-append-drop}
use lib.Seq.{length-take-le}
use Rattle.sums.specs.Folding.{fold_to32}
use Rattle.sums.specs.Rfc1071.{total, fold}
use Rattle.sums.proofs.Folding.{fold_to_32_scaled}
use Rattle.sums.proofs.Laws.{fold_scaled, fold_few_rounds, fold_with, total_append}
use Rattle.sums.proofs.sum.Goals as goal

pub loop-rest-init : goal.loop-rest-init
loop-rest-init c =
    let a = c.args in
    let t = total a.input.now in
    ap (λ (n : ℕ). fold (n * 256 + t)) (c.from-so_far.ensures ∙ c.exchanged.ensures)
    ∙ fold_scaled (a.start * 256) t
    ∙ ap fold (omega arith)
    ∙ fold_few_rounds (a.start + t) a.start (omega arith)

pub loop-rest-preserved : goal.loop-rest-preserved
loop-rest-preserved c =
    let l = c.loop-rest in
    let s = l.rest.now in
    let behind = c.total_behind in
    let left = total c.split_at.result.1.now in
    ap (λ (n : ℕ). fold (n * 256 + left)) c.folded_to_32-so_far.ensures
    ∙ fold_to_32_scaled (fold_to32 behind.result) left
    ∙ fold_to_32_scaled behind.result left
    ∙ fold_with (behind.result * 256) _ left behind.ensures.result_value
    ∙ rw (c.split_at.ensures.front, c.split_at.ensures.back) (ap fold (omega (arith, total_append 536870912 (take 1073741824 s) (drop 1073741824 s) (length-take-le 1073741824 s (omega arith)), ap total (take-append-drop 1073741824 s))))
    ∙ l.invariant

pub returns : goal.returns
returns c =
    let behind = c.total_behind-2 in
    c.exchanged-2.ensures
    ∙ ap (λ (n : ℕ). fold (n * 256)) c.folded.ensures
    ∙ ap fold (sym (add-zero _))
    ∙ fold_scaled behind.result 0
    ∙ ap fold (add-zero _)
    ∙ behind.ensures.result_value
    ∙ c.loop-rest.invariant
