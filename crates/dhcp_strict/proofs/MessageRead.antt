-- What the reader of a DHCP message answers: by its header, and then by its list with nothing seen before it.
use Prim.Native.Nat.{ℕ, ◌+◌, ◌≤◌}
use mathlib.Core.Path.{◌≡◌, refl, ap, sym, subst, ◌∙◌}
use mathlib.Core.List.{List, [], ◌∷◌}
use Rattle.std.proofs.Common.{Option, Some, None}
use Rattle.std.proofs.lemmas.Option.{none-some}
use lib.ListN.{drop}
use Rattle.base.specs.Bytes.{u8_at}
use Rattle.grammar.specs.Grammar.{DHCPHeader, TypedOnce, options53}
use Rattle.grammar.specs.Report.{values}
use Rattle.dhcp_strict.specs.MessageRead.{MessageRead}
use Rattle.dhcp_strict.specs.helpers.Listed.{Gives, before, within, ListGives, Listed}

pub no_message : (s : List ℕ) (at : ℕ) → (DHCPHeader (drop at s) → ⊥) → MessageRead s at None
unfolding MessageRead
no_message s at f = λ items d. f d.header

pub message_read : (s : List ℕ) (at : ℕ) (r : Option ℕ) → DHCPHeader (drop at s) → Listed s (at + 240) None r → MessageRead s at r
unfolding MessageRead Listed ListGives
message_read s at None header h =
    λ items d. h (u8_at s (d.type.place + 2)) (items, d.list, within refl d.type.place d.type.once refl d.type.least d.type.most)
message_read s at (Some n) header (items, l, g) =
    (items, record { header = header; list = l; type = (found g).0 }, (found g).1)
  where
    found : Gives s None items n → TypedOnce s items × (values s (options53 items) ≡ n ∷ [])
    found (before e t) = absurd (none-some n e)
    found (within z place once e least most) = (
      record {
        place = place;
        once = once;
        least = subst (λ (k : ℕ). 1 ≤ k) e least;
        most = subst (λ (k : ℕ). k ≤ 8) e most;
      },
      ap (values s) once ∙ ap (λ (k : ℕ). k ∷ []) (sym e),
    )
