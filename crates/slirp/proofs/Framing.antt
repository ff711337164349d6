-- A frame that is built where there is room for it.
use Prim.Native.Nat.{ℕ, ◌≤◌}
use mathlib.Core.Path.{◌≡◌, ◌∙◌}
use mathlib.Core.List.{List}
use native.Mathlib.Omega.{arith}
use borrow.Author.Tests.{le-ltb}
use lib.ListN.{length}
use Rattle.base.proofs.Lists.{fits, put_front}
use Rattle.base.specs.Buffer.{put_if_fits}
use Rattle.record.specs.Answer.{Meets, framing}
use Rattle.std.specs.Prelude.{Ok}
use Rattle.record.specs.declared.guest.Guest.{Guest}
use Rattle.record.specs.declared.answer.Verdict.TheVariants.{Reply}
use Rattle.record.proofs.Fitting.{does_fit}

module _ (guest after : Guest) (need : ℕ) (image before : List ℕ) where
  -- the frame is put at the front
  pub large_enough : (said : ℕ) → said ≡ need → length image ≡ need → need ≤ length before → (now : List ℕ) → now ≡ put_if_fits 0 image before
      → Meets (framing guest after need (length before) image) before now (record { verdict = Ok (Reply said); guest = after })
  unfolding framing
  large_enough said e long r now p =
      let there = p ∙ fits 0 image before (omega arith) ∙ put_front image before in
      rw e (record { wrote = does_fit need (length before) image before now r there; guest = simp (le-ltb (length before) need r) })
