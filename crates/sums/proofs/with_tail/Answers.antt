-- `with_tail` meets its contract: the words first, and behind them an odd byte.
use Rattle.std.proofs.Common.{ℕ, ◌+◌, ◌*◌, [], List, get_or, drop, flat_map, ap, ◌∙◌, arith, sym, ltb-true}
use Rattle.sums.specs.Rfc1071.{total, fold}
use Rattle.sums.proofs.Chunks.{fold_word, joined_from, none_joined, total_words, word_length}
use Rattle.sums.proofs.Laws.{fold_with, total_last, total_none}
use Rattle.sums.proofs.with_tail.Goals as goal

pub loop-word-preserved : goal.loop-word-preserved
loop-word-preserved c =
    let l = c.loop-word in
    let s = c.as_chunks.result.0.now in
    let word = get_or s l.word-index [] in
    let behind = flat_map (λ (e : List ℕ). e) (drop (l.word-index + 1) s) in (
      ap (λ (n : ℕ). fold (n * 256 + total behind)) c.with_word-running.ensures.value
          ∙ fold_word word behind l.running (word_length c.args.rest.now s l.word-index c.as_chunks.ensures.front (omega arith))
          ∙ ap (λ (left : List ℕ). fold (l.running * 256 + total left)) (sym (joined_from s l.word-index (omega arith)))
          ∙ l.invariant.0,
      omega arith,
    )

pub returns-then-odd-lt1-clause-result_value : goal.returns-then-odd-lt1-clause-result_value
returns-then-odd-lt1-clause-result_value c =
    let l = c.loop-word in
    let words = c.as_chunks.result.0.now in
    let odd = c.as_chunks.result.1.now in
    ap fold (omega (arith, none_joined words l.word-index (omega arith)))
    ∙ l.invariant.0
    ∙ ap fold (omega (arith, total_words c.args.rest.now words odd c.as_chunks.ensures.front c.as_chunks.ensures.back, total_none odd 0 (omega (arith, ltb-true))))

pub returns-in-len1-clause-result_value : goal.returns-in-len1-clause-result_value
returns-in-len1-clause-result_value c =
    let l = c.loop-word in
    let words = c.as_chunks.result.0.now in
    let odd = c.as_chunks.result.1.now in
    let last = c.from-running.result in
    ap fold (omega (arith, none_joined words l.word-index (omega arith)))
    ∙ fold_with (l.running * 256 + total (flat_map (λ (e : List ℕ). e) (drop l.word-index words))) _ (last * 256) l.invariant.0
    ∙ ap fold (omega (arith, c.from-running.ensures, total_words c.args.rest.now words odd c.as_chunks.ensures.front c.as_chunks.ensures.back, total_last odd 0 (omega arith)))
