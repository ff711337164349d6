-- `write::put` meets its contract: a copy into the part of the buffer, said of the whole, where there is room for it.
use Rattle.std.proofs.Common.{◌≡◌, ℕ, ◌+◌, List, ◌++◌, length, take, drop, append_assoc, arith, sym, ◌∙◌}
use lib.Seq.{drop-drop}
use Rattle.base.specs.Buffer.{put}
use Rattle.base.proofs.Lists.{fits, no_fit}
use Rattle.base.proofs.write.put.Goals as goal

-- the part of the buffer, written anew
written : (at n : ℕ) (s t b : List ℕ) → t ≡ s → n ≡ length s → take at b ++ (t ++ drop n (drop at b)) ≡ put at s b
unfolding put
written at n s t b e l = rw (e, l, drop-drop (length s) at b) (sym (append_assoc (take at b) s (drop (at + length s) b)))

pub returns-then-out-at : goal.returns-then-out-at
returns-then-out-at c = sym (no_fit _ _ _ (omega arith))

pub returns-then-out-at-2 : goal.returns-then-out-at-2
returns-then-out-at-2 c = sym (no_fit _ _ _ (omega arith))

pub returns : goal.returns
returns c =
    written c.args.at _ c.args.src.now c.copy_from_slice.new.self c.args.out.now c.copy_from_slice.ensures.after (omega arith)
    ∙ sym (fits _ _ _ (omega arith))
