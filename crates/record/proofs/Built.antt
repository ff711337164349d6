-- The three cases of a call that builds, each from the tests that lead to it: past the limit, too little room, built.
use Rattle.std.proofs.Common.{◌≡◌, ℕ, ◌<◌, ◌≤◌, List, ◌++◌, length, drop, Result, Ok, Err, IsErrAnd, refl, le-ltb, lt-ltb}
use Rattle.std.proofs.lemmas.Result.{err_from_is_err_and}
use Rattle.record.specs.declared.answer.Verdict.TheVariants.{Reply}
use Rattle.record.specs.declared.answer.Refusal.{Refusal}
use Rattle.record.specs.declared.answer.Refusal.TheVariants.{NoRoom, TooLong}
use Rattle.record.specs.Answer.{Wrote, as_verdict, building, paper}

module _ (limit len need room : ℕ) (image before : List ℕ) where
  pub too_long : limit < len → Wrote (building limit len need room image) before before (Err (TooLong len))
  unfolding building paper
  too_long h = simp (lt-ltb limit len h) (record { numbers = refl; bytes = refl })

  pub no_room : len ≤ limit → room < need → Wrote (building limit len need room image) before before (Err (NoRoom need))
  unfolding building paper
  no_room h r = simp (le-ltb limit len h, lt-ltb room need r) (record { numbers = refl; bytes = refl })

  pub written : (after : List ℕ) → len ≤ limit → need ≤ room → after ≡ image ++ drop (length image) before
      → Wrote (building limit len need room image) before after (Ok (Reply need))
  unfolding building paper
  written after h r e = simp (le-ltb limit len h, le-ltb room need r) (record { numbers = refl; bytes = e })

-- The exits of a `?` behind `within_limit` and `within_room`: `r` is what the call answers there, `e` what those said.
module _ (limit len need room : ℕ) (image before : List ℕ) (r : Result ℕ Refusal) (e : Refusal) (handed_on : IsErrAnd r (λ y. y ≡ e)) where
  pub exit_too_long : (limit < len) × (e ≡ TooLong len) → Wrote (building limit len need room image) before before (as_verdict r)
  exit_too_long said =
      let p = err_from_is_err_and r handed_on in
      rw (p.1, p.2, said.1) (too_long limit len need room image before said.0)

  pub exit_no_room : len ≤ limit → (room < need) × (e ≡ NoRoom need) → Wrote (building limit len need room image) before before (as_verdict r)
  exit_no_room within said =
      let p = err_from_is_err_and r handed_on in
      rw (p.1, p.2, said.1) (no_room limit len need room image before within said.0)
