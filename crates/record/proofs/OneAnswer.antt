-- The contracts leave one answer: `paper` is one-to-one, so whatever meets a contract twice on the same input has answered the same twice.
use Rattle.std.proofs.Common.{◌≡◌, ℕ, cond, eqb, List, get_or, Result, Ok, Err, sym, refl, ap, ◌∙◌}
use Rattle.record.specs.Answer.{paper, Writing, Outcome, Wrote, Meets, as_verdict}
use Rattle.record.specs.declared.answer.Answer.{Answer}
use Rattle.record.specs.declared.answer.Verdict.{Verdict}
use Rattle.record.specs.declared.answer.Verdict.TheVariants.{Drop, Reply, Dns, Relay, Tcp}
use Rattle.record.specs.declared.answer.Refusal.{Refusal}
use Rattle.record.specs.declared.answer.Refusal.TheVariants.{NoRoom, TooLong, CutType}

-- the verdict or refusal with these numbers
unfoldable pub verdict_of : List ℕ → Result Verdict Refusal
verdict_of s =
    cond (eqb (get_or s 0 0) 0) (Ok Drop)
    (cond (eqb (get_or s 0 0) 1) (Ok (Reply (get_or s 1 0)))
    (cond (eqb (get_or s 0 0) 2) (Ok (Dns (get_or s 1 0) (get_or s 2 0)))
    (cond (eqb (get_or s 0 0) 3) (Ok (Relay (get_or s 1 0) (get_or s 2 0)))
    (cond (eqb (get_or s 0 0) 4) (Ok (Tcp (get_or s 1 0)))
    (cond (eqb (get_or s 0 0) 5) (Err (NoRoom (get_or s 1 0)))
    (cond (eqb (get_or s 0 0) 6) (Err (TooLong (get_or s 1 0))) (Err (CutType (get_or s 1 0)))))))))

verdict_back : (v : Result Verdict Refusal) → verdict_of (paper v) ≡ v
unfolding paper verdict_of
verdict_back (Ok Drop) = refl
verdict_back (Ok (Reply n)) = refl
verdict_back (Ok (Dns start len)) = refl
verdict_back (Ok (Relay start len)) = refl
verdict_back (Ok (Tcp n)) = refl
verdict_back (Err (NoRoom needed)) = refl
verdict_back (Err (TooLong len)) = refl
verdict_back (Err (CutType place)) = refl

-- different verdicts have different numbers
pub paper_one_to_one : (v w : Result Verdict Refusal) → paper v ≡ paper w → v ≡ w
paper_one_to_one v w e = sym (verdict_back v) ∙ ap verdict_of e ∙ verdict_back w

pub one_writing : (w : Writing) (before after after' : List ℕ) (v v' : Result Verdict Refusal) → Wrote w before after v → Wrote w before after' v' → (v ≡ v') × (after ≡ after')
one_writing w before after after' v v' p q = (paper_one_to_one v v' (p.numbers ∙ sym q.numbers), p.bytes ∙ sym q.bytes)

-- what a builder answers that hands no record back is told by the verdict that it is
pub as_verdict_one_to_one : (r s : Result ℕ Refusal) → as_verdict r ≡ as_verdict s → r ≡ s
as_verdict_one_to_one (Ok m) (Ok n) e = cc
as_verdict_one_to_one (Ok m) (Err x) e = cc
as_verdict_one_to_one (Err x) (Ok n) e = cc
as_verdict_one_to_one (Err x) (Err y) e = cc

pub one_built : (w : Writing) (before after after' : List ℕ) (r r' : Result ℕ Refusal) → Wrote w before after (as_verdict r) → Wrote w before after' (as_verdict r') → (r ≡ r') × (after ≡ after')
one_built w before after after' r r' p q =
    let same = one_writing w before after after' (as_verdict r) (as_verdict r') p q in
    (as_verdict_one_to_one r r' same.0, same.1)

pub one_outcome : (o : Outcome) (before after after' : List ℕ) (a a' : Answer) → Meets o before after a → Meets o before after' a' → (a ≡ a') × (after ≡ after')
one_outcome o before after after' a a' p q =
    let same = one_writing o.writing before after after' a.verdict a'.verdict p.wrote q.wrote in
    let guest = p.guest ∙ sym q.guest in
    (λ i. record { verdict = same.0 i; guest = guest i }, same.1)
