-- What a fragment that is written leaves: its bytes stand at the places that it covers and the others are as they were, its blocks are there, and the store is as large.
use Prim.Native.Nat.{ℕ, ◌+◌, ◌-◌, ◌≤◌}
use mathlib.Core.List.{List}
use mathlib.Core.Path.{◌≡◌, ap, ◌∙◌}
use native.Mathlib.Omega.{arith}
use lib.ListN.{length, get_or, drop, length-drop}
use lib.Seq.{get_or-take, get_or-drop, length-take-le}
use Rattle.std.specs.Prelude.{Option, Ok}
use Rattle.base.proofs.Lists.{length-put, byte_put, byte_beside}
use Rattle.base.specs.Bytes.{part}
use Rattle.bitmap.specs.Bitmap.{bit, having}
use Rattle.fragment_packets.proofs.Fitting.{Fits, part_fits}
use Rattle.fragment_packets.specs.Packets.{end_of, first_block, stop_block}
use Rattle.fragments.proofs.Storing.{marked}
use Rattle.fragments.specs.Promises.{Effect}
use Rattle.fragment_rules.specs.declared.ruling.Ruling.TheVariants as Ruling
use Rattle.fragment_laws.specs.Calls.{Store, Sized, Call, after}
use Rattle.fragment_laws.specs.Trains.{piece, Fit, Covers, byte_for}

-- the blocks that are there once a fragment has come
abbrev pub there_with : Store → (frame : List ℕ) → ℕ → ℕ
there_with store frame = having (bit store.bits) (first_block (piece frame)) (stop_block (piece frame))

pub record Written (store : Store) (frame : List ℕ) (call : Call) : Type 0 where
  pub each_bit : (b : ℕ) → bit call.bits b ≡ there_with store frame b
  pub still_sized : Sized (after call)
  pub covered : (place : ℕ) → Covers place frame → get_or call.bytes place 0 ≡ byte_for place frame
  pub beside : (place : ℕ) → ((piece frame).offset ≤ place → end_of (piece frame) ≤ place) → get_or call.bytes place 0 ≡ get_or store.bytes place 0

pub written : (store : Store) (frame : List ℕ) (call : Call) (end : Option ℕ) → Sized store → Fit frame
    → Effect (Ok (Ruling.Write (piece frame) end)) frame store.bytes store.bits call.bytes call.bits → Written store frame call
written store frame call end sized fit effect =
    record {
      each_bit = λ b. ap (λ (there : ℕ → ℕ). there b) (marked (piece frame) store.bits call.bits fits.short sized.bits_lent effect.1);
      still_sized = record {
        bytes_lent = ap length effect.0 ∙ length-put (piece frame).offset payload store.bytes room ∙ sized.bytes_lent;
        bits_lent = effect.1.as_long ∙ sized.bits_lent;
      };
      covered = λ place h.
          ap (λ (l : List ℕ). get_or l place 0) effect.0
          ∙ byte_put (piece frame).offset payload store.bytes room place h.0 (omega (arith, long, h.1))
          ∙ get_or-take (piece frame).length (drop (piece frame).start frame) (place - (piece frame).offset) 0 (omega (arith, h.0, h.1))
          ∙ get_or-drop (piece frame).start frame (place - (piece frame).offset) 0;
      beside = λ place out.
          ap (λ (l : List ℕ). get_or l place 0) effect.0
          ∙ byte_beside (piece frame).offset payload store.bytes room place (λ l. omega (arith, long, out l));
    }
  where
    fits : Fits frame (piece frame)
    fits = part_fits frame (piece frame) fit

    payload : List ℕ
    payload = part frame (piece frame).start (piece frame).length

    long : length payload ≡ (piece frame).length
    long = length-take-le _ _ (omega (arith, length-drop (piece frame).start frame, fits.in_frame))

    room : (piece frame).offset + length payload ≤ length store.bytes
    room = omega (arith, long, sized.bytes_lent, fits.short)
