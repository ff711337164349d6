-- The data of a UDP frame, as it is found in the frame's payload.
use Prim.Native.Nat.{ℕ, ◌-◌, ◌≤◌}
use mathlib.Core.Path.{◌≡◌, ap, ◌∙◌}
use mathlib.Core.List.{List}
use native.Mathlib.Omega.{arith}
use lib.ListN.{length, take, drop, length-take, length-drop}
use lib.Seq.{drop-drop}
use Rattle.std.proofs.lemmas.Bool.Decides.{nat_tests}
use Rattle.std.proofs.lemmas.List.{take_all}
use Rattle.std.specs.List.{slice_range}
use Rattle.std.specs.Ordering.{ord_min, nat_cmp}
use Rattle.wire.specs.Rfc768.{source_port, target_port, length_field}
use Rattle.record.specs.declared.network.Network.{Network}
use Rattle.rules.specs.Rules.{payload_at_lem, payload, data_end, data_length, datagram_data, dhcp_decision, udp_decision}

-- what runs from its place to the end of the frame
pub payload_there : (frame s : List ℕ) (at : ℕ) → at ≡ payload_at_lem frame → s ≡ slice_range frame at (length frame) → s ≡ payload frame
payload_there frame s at e p = p ∙ take_all (length frame - at) (drop at frame) (omega (arith, length-drop at frame)) ∙ ap (λ (n : ℕ). drop n frame) e

-- the smaller of both ends
pub ends_at : (datagram : List ℕ) → ord_min nat_cmp (length datagram) (length_field datagram) ≡ data_end datagram
ends_at datagram = grind (arith, nat_tests)

-- what lies between the header and there is the frame's data
pub data_there : (frame : List ℕ) → take (data_end (payload frame) - 8) (drop 8 (payload frame)) ≡ datagram_data frame
data_there frame = ap (take (data_length frame)) (drop-drop 8 _ frame)

-- and as long
pub data_long : (frame : List ℕ) → length (take (data_end (payload frame) - 8) (drop 8 (payload frame))) ≡ data_length frame
data_long frame = grind (arith, nat_tests, length-take, length-drop)

-- so a datagram from 68 to 67 is decided by it
pub dhcp_there : (net : Network) (frame s : List ℕ) → s ≡ payload frame → payload_at_lem frame ≤ length frame → 8 ≤ length s → 8 ≤ length_field s
    → source_port s ≡ 68 → target_port s ≡ 67 → dhcp_decision (datagram_data frame) ≡ udp_decision net frame
unfolding udp_decision
dhcp_there net frame s p inside whole stated source target = grind (arith, nat_tests)
