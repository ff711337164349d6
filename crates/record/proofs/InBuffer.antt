-- What a call leaves in the buffer where it answers 1 with n: the first n bytes are what was built, of length n, and the others are as they were.
use Rattle.std.proofs.Common.{◌≡◌, ℕ, ◌≤◌, List, [], ◌∷◌, length, take, drop, Result, sym, ap, ◌∙◌, take_at, drop_at}
use Rattle.record.specs.Answer.{paper, Wrote, building}
use Rattle.record.specs.declared.answer.Verdict.{Verdict}
use Rattle.record.specs.declared.answer.Refusal.{Refusal}
use Rattle.record.proofs.Changes.{on_one, on_five}

pub record InBuffer (built before after : List ℕ) (n : ℕ) : Type 0 where
  pub long : n ≡ length built
  pub front : take n after ≡ built
  pub rest : drop n after ≡ drop n before

pub in_buffer : (limit len need room : ℕ) (image before after : List ℕ) (v : Result Verdict Refusal) (n : ℕ) → (need ≤ room → length image ≡ need)
    → Wrote (building limit len need room image) before after v → paper v ≡ 1 ∷ n ∷ [] → InBuffer image before after n
in_buffer limit len need room image before after v n e w p =
    let c = on_one limit len need room image before after v w n p in
    let k : n ≡ length image = c.2 ∙ sym (e c.1) in
    record {
      long = k;
      front = ap (take n) c.3 ∙ take_at image _ n (sym k);
      rest = ap (drop n) c.3 ∙ drop_at image _ n (sym k) ∙ ap (λ (m : ℕ). drop m before) (sym k);
    }

-- the bytes needed of 5 are the n of the same call with room, whatever the two buffers
pub needed_is_n : (limit len need room room' : ℕ) (image image' before after before' after' : List ℕ) (v v' : Result Verdict Refusal) (k n : ℕ)
    → Wrote (building limit len need room image) before after v → paper v ≡ 5 ∷ k ∷ []
    → Wrote (building limit len need room' image') before' after' v' → paper v' ≡ 1 ∷ n ∷ [] → k ≡ n
needed_is_n limit len need room room' image image' before after before' after' v v' k n w five w' one =
    (on_five limit len need room image before after v w k five).2 ∙ sym (on_one limit len need room' image' before' after' v' w' n one).2
