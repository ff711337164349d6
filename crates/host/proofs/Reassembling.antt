-- The parts of a call on a store, put together.
use Prim.Native.Nat.{ℕ}
use mathlib.Core.List.{List}
use mathlib.Core.Path.{◌≡◌, ap, ◌∙◌, subst}
use lib.ListN.{length, get_or}
use Rattle.base.specs.Bytes.{part}
use Rattle.fragments.specs.Promises.{Takes, Releases}
use Rattle.fragment_rules.specs.declared.answer.State.{State}
use Rattle.fragments.specs.declared.answer.Taken.{Taken}
use Rattle.host.specs.Reassembly.{Took, Freed}
use Rattle.store_words.proofs.Changing.{read_as, released_as}
use Rattle.store_words.proofs.Placed.{payload_stands}
use Rattle.store_words.specs.Reports.{Reports, place_of, placed_in}
use Rattle.store_words.specs.Words.{state_of}

pub took_of : {words frame bytes bits words' bytes' bits' place : List ℕ} {number : ℕ} {state : State} (taken : Taken)
    → Reports words words' taken number → state ≡ state_of words → Takes state frame bytes bits bytes' bits' taken
    → place ≡ place_of taken.answer taken.state frame (length bytes')
    → Took words frame bytes bits words' bytes' bits' place number
took_of {words} {frame} {bytes} {bits} {words'} {bytes'} {bits'} {place} {number} {state} taken s e t p =
    let takes : Takes (state_of words) frame bytes bits bytes' bits' taken = subst (λ (x : State). Takes x frame bytes bits bytes' bits' taken) e t in
    record {
      taken = taken;
      takes = takes;
      tells = s;
      next = s.read ∙ read_as _ (state_of words) frame bytes bits bytes' bits' taken takes;
      placed = p;
      payload =
          ap (λ (x : List ℕ). part (placed_in taken.answer frame bytes') (get_or x 0 0) (get_or x 1 0)) p
          ∙ payload_stands (state_of words) frame bytes bits bytes' bits' taken takes;
    }

pub freed_of : {words bytes bits words' bits' : List ℕ} {number : ℕ} {state : State} (taken : Taken)
    → Reports words words' taken number → state ≡ state_of words → Releases state bytes bits bits' taken → Freed words bytes bits words' bits' number
freed_of {words} {bytes} {bits} {words'} {bits'} {number} {state} taken s e r =
    let releases : Releases (state_of words) bytes bits bits' taken = subst (λ (x : State). Releases x bytes bits bits' taken) e r in
    record {
      taken = taken;
      releases = releases;
      tells = s;
      next = s.read ∙ released_as (state_of words) bytes bits bits' taken releases;
    }
