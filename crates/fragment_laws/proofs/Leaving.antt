-- A call that stores no fragment leaves the store as it was: a frame that passes by, and every refusal.
use Prim.Native.Nat.{ℕ}
use mathlib.Core.Path.{◌≡◌, refl, subst, ◌∙◌}
use mathlib.Core.List.{List}
use lib.ListN.{length}
use Rattle.std.specs.Prelude.{Option, Result, Ok, Err}
use native.Mathlib.Omega.{arith}
use Rattle.std.proofs.lemmas.Grind.{common_steps}
use Rattle.bitmap.specs.Bitmap.{bit}
use Rattle.fragments.specs.Answer.{refused, said_for}
use Rattle.fragments.specs.Promises.{Untouched, Effect, Takes}
use Rattle.fragments.specs.Outcomes.{settled, outcome_of}
use Rattle.fragment_rules.specs.Rules.{ruling}
use Rattle.fragment_rules.specs.declared.answer.Refusal.{Refusal}
use Rattle.fragment_packets.specs.declared.packet.Fragment.{Fragment}
use Rattle.fragment_rules.specs.declared.ruling.Ruling.{Ruling}
use Rattle.fragments.proofs.Ruled as Ruled
use Rattle.fragment_laws.specs.Calls.{Store, Asked, taking, Call, after, Promised, Keeps}
use Rattle.fragment_laws.specs.Trains.{PassesBy}

-- a frame that was to be taken was taken as promised
pub takes : (store : Store) (frame : List ℕ) (call : Call) → call.asked ≡ taking frame → Keeps store call
    → Takes store.state frame store.bytes store.bits call.bytes call.bits call.taken
takes store frame call e k = (subst (λ (asked : Asked). Promised asked store (after call) call.taken) e k).0

module _ (store : Store) (frame : List ℕ) (call : Call) (asked : call.asked ≡ taking frame) (k : Keeps store call) where
  abbrev ruled : Result Ruling Refusal
  ruled = ruling store.state frame (length store.bytes) store.bits

  -- no other ruling than to store changes anything
  pub leaves_alone : ((f : Fragment) (end : Option ℕ) → ruled ≡ Ok (Ruling.Write f end) → ⊥) → after call ≡ store
  unfolding outcome_of
  leaves_alone never =
      let t = takes store frame call asked k in
      let alone = go ruled refl t.store in
      let state : call.taken.state ≡ store.state = t.next ∙ alone.0 in
      λ i. record { state = state i; bytes = alone.1.kept_bytes i; bits = alone.1.kept_bits i }
    where
      go : (r : Result Ruling Refusal) → ruled ≡ r → Effect r frame store.bytes store.bits call.bytes call.bits
          → ((outcome_of store.state (bit store.bits) r).state ≡ store.state) × Untouched store.bytes store.bits call.bytes call.bits
      go (Err refusal) e u = (refl, u)
      go (Ok Ruling.Pass) e u = (refl, u)
      go (Ok (Ruling.Write f end)) e u = absurd (never f end e)

  -- a frame that is no fit fragment
  pub passes_by : PassesBy frame → after call ≡ store
  passes_by by = leaves_alone (λ f end e. by f (Ruled.stored store.state frame (length store.bytes) store.bits f end e).1.is_part)

  -- "Refusals, .. each leaving the store unchanged"
  pub refusal_leaves : (n : ℕ) → said_for call.taken.answer ≡ refused n → after call ≡ store
  unfolding outcome_of settled
  refusal_leaves n said =
      let answers = (takes store frame call asked k).answers in
      leaves_alone (λ f end e. grind (arith, common_steps))
