-- What a host in C relies on, from the contracts alone: a release empties the store, and what isn't stored changes nothing.
use Prim.Native.Nat.{ℕ, ◌<◌}
use mathlib.Core.Bool.{true, false}
use mathlib.Core.List.{List, [], ◌∷◌}
use mathlib.Core.Path.{◌≡◌, ap, subst, ◌∙◌}
use lib.ListN.{length, replicate}
use Rattle.fragments.specs.Answer.{released, said_for}
use Rattle.fragment_rules.specs.Rules.{of_size_lem, ruling}
use Rattle.fragment_rules.specs.declared.answer.State.TheVariants.{Empty}
use Rattle.host.specs.Reassembly.{Took, Freed}
use Rattle.store_words.proofs.Changing.{leaves_alone}
use Rattle.store_words.proofs.Numbers.{low_number}
use Rattle.store_words.specs.Reports.{number_of, changes}
use Rattle.store_words.specs.Words.{state_of, words_of}

-- a store that is lent at its size is empty afterwards, whatever the words, the bytes and the bits were
pub emptied : (words bytes bits words' bits' : List ℕ) (n : ℕ) → Freed words bytes bits words' bits' n → of_size_lem (length bytes) (length bits) ≡ true
    → (n ≡ 23) × (words' ≡ 0 ∷ 0 ∷ 0 ∷ 0 ∷ 0 ∷ 0 ∷ []) × (bits' ≡ replicate 128 0)
unfolding number_of changes words_of
emptied words bytes bits words' bits' n f e =
    let said : said_for f.taken.answer ≡ released = rw e at f.releases.answers in
    let next : f.taken.state ≡ Empty = rw e at f.releases.next in
    let cleared : bits' ≡ replicate 128 0 = rw e at f.releases.cleared in
    let written : words' ≡ words_of f.taken.state = rw said at f.tells.written in
    (f.tells.numbered ∙ ap number_of said, written ∙ ap words_of next, cleared)

-- on passed and on every refusal words, bytes and bits are as they were: their numbers are those below 21
pub unchanged : (words frame bytes bits words' bytes' bits' place : List ℕ) (n : ℕ) → Took words frame bytes bits words' bytes' bits' place n → n < 21
    → (words' ≡ words) × (bytes' ≡ bytes) × (bits' ≡ bits)
unchanged words frame bytes bits words' bytes' bits' place n t l =
    let e : changes (said_for t.taken.answer) ≡ false = low_number t.taken.answer (subst (λ (x : ℕ). x < 21) t.tells.numbered l) in
    let kept = leaves_alone (ruling (state_of words) frame (length bytes) bits) (state_of words) frame bytes bits bytes' bits' t.taken t.takes e in
    let written : words' ≡ words = rw e at t.tells.written in
    (written, kept.kept_bytes, kept.kept_bits)
