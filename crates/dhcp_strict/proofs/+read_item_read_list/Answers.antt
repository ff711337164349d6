-- `read_item` and `read_list`, which call each other, meet their contracts: each answer is a law of `Listing`.
use Prim.Native.Nat.{ℕ}
use mathlib.Core.Path.{◌≡◌, sym, subst}
use mathlib.Core.List.{List}
use native.Mathlib.Omega.{arith}
use Rattle.std.proofs.Common.{Option, Some}
use Rattle.dhcp_strict.specs.helpers.Listed.{Listed}
use Rattle.dhcp_strict.proofs.Listing.{past, end_told, pad_on, option_cut, option_over, other_on, second_type, type_length, type_small, type_large, type_on}
use Rattle.dhcp_strict.proofs.+read_item_read_list.Goals as goal

-- AN ITEM
-- what is told of a list holds wherever the same place and the same type are written otherwise
moved_on : (frame : List ℕ) (a b m n : ℕ) (r : Option ℕ) → Listed frame a (Some m) r → a ≡ b → m ≡ n → Listed frame b (Some n) r
moved_on frame a b m n r h e f = subst (λ (k : ℕ). Listed frame b (Some k) r) f (subst (λ (k : ℕ). Listed frame k (Some m) r) e h)

pub read_item-returns-then-code-eq-PAD : goal.read_item-returns-then-code-eq-PAD
read_item-returns-then-code-eq-PAD t c =
    pad_on _ _ _ c.requires.inside c.if-code-eq-PAD.true _ c.read_list.ensures

pub read_item-returns-then-left-lt2 : goal.read_item-returns-then-left-lt2
read_item-returns-then-left-lt2 t c =
    option_cut _ _ _ c.requires.inside c.if-code-eq-PAD.false c.requires.not_end (omega (arith, c.if-left-lt2.true))

pub read_item-returns-then-left-len : goal.read_item-returns-then-left-len
read_item-returns-then-left-len t c =
    option_over _ _ _ c.requires.inside c.if-code-eq-PAD.false c.requires.not_end _ (sym c.from-len.ensures) (omega arith)

pub read_item-returns-then-code-ne-MESSAGE_TYPE : goal.read_item-returns-then-code-ne-MESSAGE_TYPE
read_item-returns-then-code-ne-MESSAGE_TYPE t c =
    other_on _ _ _ c.requires.inside c.if-code-eq-PAD.false c.requires.not_end _ (sym c.from-len.ensures) (omega arith) (omega arith)
    c.if-code-ne-MESSAGE_TYPE.true _ c.read_list-then-code-ne-MESSAGE_TYPE.ensures

pub read_item-returns-then-is_some : goal.read_item-returns-then-is_some
read_item-returns-then-is_some t c =
    second_type _ _ _ c.requires.inside c.if-code-eq-PAD.false c.requires.not_end _ (sym c.from-len.ensures) c.if-code-ne-MESSAGE_TYPE.false (λ n. grind (arith, c.if-is_some.ensures))

pub read_item-returns-then-len-ne1 : goal.read_item-returns-then-len-ne1
read_item-returns-then-len-ne1 t c =
    type_length _ _ _ c.requires.inside c.if-code-eq-PAD.false c.requires.not_end _ (sym c.from-len.ensures) c.if-code-ne-MESSAGE_TYPE.false c.if-len-ne1.true

pub read_item-returns-then-value-eq0 : goal.read_item-returns-then-value-eq0
read_item-returns-then-value-eq0 t c =
    type_small _ _ _ c.requires.inside c.if-code-eq-PAD.false c.requires.not_end _ (sym c.from-len.ensures) c.if-code-ne-MESSAGE_TYPE.false c.if-value-eq0.true

pub read_item-returns-then-value-gt-LAST_TYPE : goal.read_item-returns-then-value-gt-LAST_TYPE
read_item-returns-then-value-gt-LAST_TYPE t c =
    type_large _ _ _ c.requires.inside c.if-code-eq-PAD.false c.requires.not_end _ (sym c.from-len.ensures) c.if-code-ne-MESSAGE_TYPE.false c.if-value-gt-LAST_TYPE.true

pub read_item-returns : goal.read_item-returns
read_item-returns t c =
    type_on _ _ _ c.requires.inside c.if-code-eq-PAD.false c.requires.not_end _ (sym c.from-len.ensures) c.if-code-ne-MESSAGE_TYPE.false (omega arith)
    (grind (arith, c.if-is_some.ensures)) c.if-len-ne1.false (omega arith) (omega arith) _
    (moved_on _ _ _ _ _ _ c.read_list-2.ensures (omega (arith, c.if-len-ne1.false)) (omega arith))

-- A LIST
pub read_list-returns-then-frame-at : goal.read_list-returns-then-frame-at
read_list-returns-then-frame-at t c = past _ _ _ c.if-frame-at.true

pub read_list-returns : goal.read_list-returns
read_list-returns t c =
    end_told _ _ _ c.if-frame-at.false c.if-frame-at-2.false c.zeros.result c.zeros.ensures
