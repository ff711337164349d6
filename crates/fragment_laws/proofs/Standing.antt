-- A complete datagram stands until it is released, and a release leaves an empty store: no ruling of a complete store stores, and zeros have no bit.
use Prim.Native.Nat.{ℕ, zero, suc, ◌/◌, ◌%◌, ◌^◌}
use mathlib.Core.Path.{◌≡◌, refl, ap, subst, ◌∙◌}
use mathlib.Core.Bool.{true, true≢false}
use mathlib.Core.List.{List, [], ◌∷◌}
use native.Mathlib.Nat.{zero-div}
use native.Mathlib.Omega.{arith}
use borrow.Author.Tests.{eq-eqb}
use lib.ListN.{length, get_or, drop, replicate, length-replicate}
use Rattle.std.specs.Prelude.{Result, Ok}
use Rattle.bitmap.specs.Bitmap.{bit}
use Rattle.fragments.specs.Answer.{complete, released, said_for}
use Rattle.fragments.specs.Handing.{site_of_lem, stored_payload, payload_at_lem, payload_of}
use Rattle.fragment_rules.specs.Rules.{of_size_lem, is_held, part_ruling, packet_ruling, ruling}
use Rattle.fragments.specs.Outcomes.{outcome_of}
use Rattle.fragment_rules.specs.declared.answer.Answer.{Answer}
use Rattle.fragment_rules.specs.declared.answer.Refusal.{Refusal}
use Rattle.fragment_packets.specs.declared.packet.Datagram.{Datagram}
use Rattle.fragment_rules.specs.declared.answer.State.{State}
use Rattle.fragment_rules.specs.declared.answer.State.TheVariants.{Complete}
use Rattle.fragment_laws.specs.Calls.{Store, Sized, Vacant, taking, releasing, Call, after, Promised, Keeps, Runs, asks}
use Rattle.fragment_laws.specs.Trains.{All, takings, Stands}
use Rattle.fragments.proofs.OneAnswer.{said_one_to_one}
use Rattle.fragments.proofs.Ruled.{stored}
use Rattle.fragment_laws.proofs.Leaving.{takes, leaves_alone}

module _ (d : Datagram) (n : ℕ) where
  -- one call: a complete store is held
  stands_once : (store : Store) (frame : List ℕ) (call : Call) → store.state ≡ Complete d n → call.asked ≡ taking frame
      → Keeps store call → Stands store call
  unfolding ruling packet_ruling part_ruling of_size_lem is_held outcome_of said_for
  stands_once store frame call held asked k =
      record {
        as_it_was =
            leaves_alone store frame call asked k (λ f end e.
            true≢false (rw held at (stored store.state frame (length store.bytes) store.bits f end e).1.free));
        gets_11 = λ sized frame' asked' fit.
            (takes store frame' call asked' k).answers ∙ rw (held, eq-eqb _ _ sized.bytes_lent, eq-eqb _ _ sized.bits_lent, fit);
      }

  -- "complete stands until released": through any frames
  pub complete_stands : (store : Store) (frames : List (List ℕ)) (calls : List Call) → store.state ≡ Complete d n → Runs store calls → asks calls ≡ takings frames
      → All (Stands store) calls
  complete_stands store [] [] held r e = tt
  complete_stands store [] (call ∷ calls) held r e = absurd (omega (arith, ap length e))
  complete_stands store (frame ∷ frames) [] held r e = absurd (omega (arith, ap length e))
  complete_stands store (frame ∷ frames) (call ∷ calls) held r e =
      let now = stands_once store frame call held (cc) r.0 in
      (now, complete_stands store frames calls held (subst (λ (s : Store). Runs s calls) now.as_it_was r.1) (ap (drop 1) e))

-- the payload that is handed out on complete is the stored one
pub handed_out : (a : Result Answer Refusal) (s : State) (frame bytes : List ℕ) → said_for a ≡ complete → payload_of a s frame bytes ≡ stored_payload bytes s
unfolding said_for site_of_lem payload_at_lem
handed_out a s frame bytes e = ap (λ (x : Result Answer Refusal). payload_of x s frame bytes) (said_one_to_one a (Ok Answer.Complete) e)

-- a bitmap of zeros
zeros : (n i : ℕ) → ◌≡◌ {A = ℕ} (get_or (replicate n 0) i 0) 0
zeros zero i = refl
zeros (suc n) zero = refl
zeros (suc n) (suc i) = zeros n i

-- has no bit
no_bit : (n b : ℕ) → bit (replicate n 0) b ≡ 0
unfolding bit
no_bit n b = rw (zeros n (b / 64), zero-div (2 ^ (b % 64)))

-- a release empties a store
pub released_is_vacant : (store : Store) (call : Call) → Sized store → Promised releasing store (after call) call.taken → (said_for call.taken.answer ≡ released) × Vacant (after call)
unfolding of_size_lem
released_is_vacant store call sized k =
    let of_size : of_size_lem (length store.bytes) (length store.bits) ≡ true = rw (eq-eqb _ _ sized.bytes_lent, eq-eqb _ _ sized.bits_lent) in
    let zeroed : call.bits ≡ replicate 128 0 = rw of_size at k.0.cleared in (
      rw of_size at k.0.answers,
      record {
        sized = record { bytes_lent = ap length k.1 ∙ sized.bytes_lent; bits_lent = ap length zeroed ∙ length-replicate {A = ℕ} 128 0 };
        holds_nothing = rw of_size at k.0.next;
        no_block = λ b. ap (λ (w : List ℕ). bit w b) zeroed ∙ no_bit 128 b;
      },
    )
