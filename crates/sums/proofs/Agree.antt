-- Document 02, request 13/13: "Prove that the wide sum and the plain one agree on all input, odd tails among it." A theorem about the promises of `sum`, `plain`
-- and `checksum`, as the prover reads them off the contracts.
use Rattle.std.proofs.Common.{◌≡◌, ℕ, ◌+◌, ◌-◌, sym, ap, ◌∙◌, zero-add}
use borrow.Fn.Kinds.{ended_of}
use borrow.Fn.World.{ArgsD, ResD}
use contract.Lifetimes.{Lfts}
use denote.Triple.Clauses.{AtExit}
use Rattle.sums.specs.Rfc1071.{total, fold, checksum}
use Rattle.sums.specs.contracts.checksum as the-checksum
use Rattle.sums.proofs.checksum.Kinds as checksum-kinds
use Rattle.sums.proofs.checksum.Reads as checksum-reads
use Rattle.sums.specs.contracts.plain.{signature}
use Rattle.sums.proofs.plain.Kinds.{ps, r}
use Rattle.sums.proofs.plain.Reads as plain
use Rattle.sums.proofs.sum.Reads as wide

-- Both sums are called with a start and an input, and what they were lent is at the end in some state.
module _ (κs : Lfts 1) (call : ArgsD signature κs) where
  -- RFC 1071's fold of the start and the input's words
  abbrev pub Defined : ResD signature κs → Type 0
  Defined answer = answer ≡ fold (call.0 + total call.1.0.now)

  pub wide_is_defined : (answer : ResD signature κs) (exit : AtExit (ended_of 1 ps r) κs) → wide.Post κs call answer exit → Defined answer
  wide_is_defined answer exit promised = promised

  pub plain_is_defined : (answer : ResD signature κs) (exit : AtExit (ended_of 1 ps r) κs) → plain.Post κs call answer exit → Defined answer
  plain_is_defined answer exit promised = promised

  pub wide_and_plain_agree : (answer answer' : ResD signature κs) (exit exit' : AtExit (ended_of 1 ps r) κs)
      → wide.Post κs call answer exit → plain.Post κs call answer' exit' → answer ≡ answer'
  wide_and_plain_agree answer answer' exit exit' promised promised' = wide_is_defined answer exit promised ∙ sym (plain_is_defined answer' exit' promised')

  -- and the checksum of an input is 65,535 less its plain sum from 0
  pub checksum_by_plain : (asked : ArgsD the-checksum.signature κs) (answer : ResD the-checksum.signature κs) (answer' : ResD signature κs)
      (exit : AtExit (ended_of 1 checksum-kinds.ps checksum-kinds.r) κs) (exit' : AtExit (ended_of 1 ps r) κs)
      → call.0 ≡ 0 → call.1.0.now ≡ asked.0.now
      → checksum-reads.Post κs asked answer exit → plain.Post κs call answer' exit' → answer ≡ 65535 - answer'
  unfolding checksum
  checksum_by_plain asked answer answer' exit exit' from-0 same promised promised' =
      promised
      ∙ ap (λ (n : ℕ). 65535 - fold n) (sym (ap (λ (start : ℕ). start + total call.1.0.now) from-0 ∙ zero-add _ ∙ ap total same))
      ∙ ap (λ (n : ℕ). 65535 - n) (sym promised')
