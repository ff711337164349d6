-- What is to be stored is a fit fragment, in a store of the right size: every other way through the rules ends in another ruling.
use Prim.Native.Nat.{ℕ}
use mathlib.Core.Bool.{true, false}
use mathlib.Core.List.{List}
use mathlib.Core.Path.{◌≡◌}
use lib.ListN.{length}
use native.Mathlib.Omega.{arith}
use Rattle.std.proofs.lemmas.Grind.{common_steps}
use Rattle.bitmap.specs.Bitmap.{bit}
use Rattle.fragment_packets.specs.Packets.{packet_of}
use Rattle.fragment_rules.specs.Rules.{of_size_lem, is_held, overlaps, wrong_end, known_end_lem, end_with_lem, part_ruling, packet_ruling, ruling}
use Rattle.std.specs.Prelude.{Option, Some, Ok}
use Rattle.fragment_rules.specs.declared.answer.State.{State}
use Rattle.fragment_packets.specs.declared.packet.Fragment.{Fragment}
use Rattle.fragment_packets.specs.declared.packet.Packet.{Packet}
use Rattle.fragment_packets.specs.declared.packet.Packet.TheVariants.{Part}
use Rattle.fragment_rules.specs.declared.ruling.Ruling.TheVariants.{Write}

-- what is known of a fragment that is to be stored, and of the end that is kept with it
pub record Stored (state : State) (there : ℕ → ℕ) (packet : Option Packet) (f : Fragment) (end : Option ℕ) : Type 0 where
  pub is_part : packet ≡ Some (Part f)
  pub free : is_held state f.datagram ≡ false
  pub apart : overlaps f there ≡ false
  pub right_end : wrong_end f (known_end_lem state) there ≡ false
  pub ends : end_with_lem f (known_end_lem state) ≡ end

pub stored : (state : State) (frame : List ℕ) (n : ℕ) (bits : List ℕ) (f : Fragment) (end : Option ℕ) → ruling state frame n bits ≡ Ok (Write f end)
    → (of_size_lem n (length bits) ≡ true) × Stored state (bit bits) (packet_of frame) f end
unfolding ruling packet_ruling part_ruling
stored state frame n bits f end e = (
  grind (arith, common_steps),
  record {
    is_part = grind (arith, common_steps);
    free = grind (arith, common_steps);
    apart = grind (arith, common_steps);
    right_end = grind (arith, common_steps);
    ends = grind (arith, common_steps);
  },
)
