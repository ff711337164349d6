-- `lines::find` meets its contract: where there is a place it is the first, and else the length stands.
use Rattle.std.proofs.Common.{◌≡◌, ℕ, ◌≤◌, Bool, true, false, cond, ◌==◌, length, ap, refl, ◌∙◌, Some, None, rules, arith}
use borrow.Author.Tests.{ltb-false}
use lib.Dec.{ltb}
use Rattle.std.specs.List.{position_or_len}
use Rattle.std.specs.Option.{unwrap_or}
use Rattle.std.proofs.lemmas.Iterator.{YieldsList-from_slice}
use Rattle.std.proofs.lemmas.Iterator.Search.{position_from_yields_List}
use Rattle.std.proofs.lemmas.List.Sums.{prefix_len-le-length}
use Rattle.vectors.proofs.lines.find.Goals as goal

place : (n len : ℕ) (b : Bool) → ltb n len ≡ b → n ≤ len → unwrap_or (cond b (Some n) None) len ≡ n
place n len true e h = refl
place n len false e h = let m = ltb-false n len e in omega arith

pub returns-clause-place : goal.returns-clause-place
returns-clause-place c =
    let s = c.args.s.now in
    let there = position_from_yields_List (λ x. x == c.args.byte) _ _ _ c.position.ensures.ran (YieldsList-from_slice s cc) (λ x b q k. search rules) in
    c.unwrap_or.ensures
    ∙ ap (λ o. unwrap_or o (length s)) there
    ∙ place (position_or_len (λ x. x == c.args.byte) s) (length s) _ refl (prefix_len-le-length _ s)
