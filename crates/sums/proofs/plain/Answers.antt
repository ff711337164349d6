-- `plain` meets its contract: the words first, and behind them an odd byte.
use Rattle.std.proofs.Common.{ℕ, ◌+◌, List, [], get_or, drop, flat_map, sym, ap, ◌∙◌, ltb-true, arith}
use Rattle.sums.specs.Rfc1071.{total, fold}
use Rattle.sums.proofs.Chunks.{joined_from, none_joined, total_two, total_words, word_length}
use Rattle.sums.proofs.Laws.{fold_fold, fold_small, fold_with, total_last, total_none}
use Rattle.sums.proofs.plain.Goals as goal

pub loop-word-preserved : goal.loop-word-preserved
loop-word-preserved c =
    let l = c.loop-word in
    let s = c.as_chunks.result.0.now in
    let word = get_or s l.word-index [] in
    let behind = flat_map (λ (e : List ℕ). e) (drop (l.word-index + 1) s) in
    let two = word_length c.args.input.now s l.word-index c.as_chunks.ensures.front (omega arith) in (
      ap (λ (n : ℕ). fold (n + total behind)) c.added-so_far.ensures
          ∙ fold_fold (l.so_far + c.from_be_bytes.result) (total behind)
          ∙ ap fold (omega (arith, c.from_be_bytes.ensures, total_two word behind two, ap total (joined_from s l.word-index (omega arith))))
          ∙ l.invariant.0,
      omega arith,
    )

pub returns-then-odd-lt1 : goal.returns-then-odd-lt1
returns-then-odd-lt1 c =
    let l = c.loop-word in
    let words = c.as_chunks.result.0.now in
    let odd = c.as_chunks.result.1.now in
    sym (fold_small l.so_far (omega arith))
    ∙ ap fold (omega (arith, none_joined words l.word-index (omega arith)))
    ∙ l.invariant.0
    ∙ ap fold (omega (arith, total_words c.args.input.now words odd c.as_chunks.ensures.front c.as_chunks.ensures.back, total_none odd 0 (omega (arith, ltb-true))))

pub returns-in-len1 : goal.returns-in-len1
returns-in-len1 c =
    let l = c.loop-word in
    let words = c.as_chunks.result.0.now in
    let odd = c.as_chunks.result.1.now in
    let last = c.from_be_bytes-in-len1.result in
    c.added-so_far-in-len1.ensures
    ∙ ap fold (omega (arith, none_joined words l.word-index (omega arith)))
    ∙ fold_with (l.so_far + total (flat_map (λ (e : List ℕ). e) (drop l.word-index words))) _ last l.invariant.0
    ∙ ap fold (omega (arith, c.from_be_bytes-in-len1.ensures, total_words c.args.input.now words odd c.as_chunks.ensures.front c.as_chunks.ensures.back, total_last odd 0 (omega arith)))
