-- The room that a host has to lend, said of the exported entry.
use Prim.Native.Nat.{ℕ, ◌≤◌}
use mathlib.Core.List.{List}
use mathlib.Core.Path.{◌≡◌, ap, sym, subst, ◌∙◌}
use lib.ListN.{length, get_or}
use Rattle.record.specs.declared.guest.Guest.{Guest}
use Rattle.host.proofs.Telling.{told_number, told_value}
use Rattle.host.specs.Exported.{Sent}
use Rattle.rules.proofs.Room.{never_five, never_longer}
use Rattle.rules.specs.Room.{Ample}
use Rattle.rules.specs.Rules.{outcome}

-- With ample room `yavoledu_send` never answers 5, and a reply has at most 65,549 bytes.
module _ (guest : Guest) (frame before after : List ℕ) (n : ℕ) (vs : List ℕ) (g : Guest) (s : Sent (outcome guest frame (length before)) before after n vs g) where
  its_number : n ≡ get_or (outcome guest frame (length before)).writing.numbers 0 0
  its_number = ap (λ (l : List ℕ). get_or l 0 0) s.told.numbers ∙ told_number _

  pub yavoledu_send_never_five : Ample frame (length before) → n ≡ 5 → ⊥
  yavoledu_send_never_five ample five = never_five guest frame (length before) ample (sym its_number ∙ five)

  pub yavoledu_send_never_longer : n ≡ 1 → get_or vs 0 0 ≤ 65549
  yavoledu_send_never_longer one =
      let value = ap (λ (l : List ℕ). get_or l 1 0) s.told.numbers ∙ told_value _ in
      subst (λ (k : ℕ). k ≤ 65549) (sym value) (never_longer guest frame (length before) (sym its_number ∙ one))
