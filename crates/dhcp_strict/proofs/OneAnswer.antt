-- Two answers of `read_message` to one message are equal: its list is read in one way only.
use Prim.Native.Nat.{ℕ, ◌+◌}
use mathlib.Core.Path.{◌≡◌, refl, ap, sym, ◌∙◌}
use mathlib.Core.List.{List}
use Rattle.std.proofs.Common.{Option, Some, None}
use lib.ListN.{drop, get_or}
use Rattle.grammar.specs.Grammar.{ItemList, options53}
use Rattle.grammar.specs.Report.{values}
use Rattle.grammar.proofs.Unique.{list_unique}
use Rattle.dhcp_strict.specs.MessageRead.{MessageRead}

pub read_message_answers_once : (s : List ℕ) (at : ℕ) (a b : Option ℕ) → MessageRead s at a → MessageRead s at b → a ≡ b
unfolding MessageRead
read_message_answers_once s at None None r q = refl
read_message_answers_once s at None (Some n) r q = absurd (r q.0 q.1)
read_message_answers_once s at (Some m) None r q = absurd (q r.0 r.1)
read_message_answers_once s at (Some m) (Some n) r q =
    let same = list_unique r.0 (at + 240) (drop (at + 240) s) q.0 r.1.list q.1.list in
    ap (λ (l : List ℕ). Some (get_or l 0 0)) (sym r.2 ∙ ap (λ (i : ItemList). values s (options53 i)) same ∙ q.2)
