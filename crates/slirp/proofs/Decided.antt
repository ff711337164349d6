-- What is known of a frame once it is decided.
use Prim.Native.Nat.{ℕ, ◌+◌, ◌≤◌}
use mathlib.Core.Path.{◌≡◌, subst}
use mathlib.Core.List.{List}
use native.Mathlib.Omega.{arith}
use lib.ListN.{length, length-drop}
use Rattle.record.specs.declared.network.Network.{Network}
use Rattle.rules.specs.Rules.{payload_at_lem, decision}
use Rattle.std.specs.Prelude.{Ok}
use Rattle.rules.specs.declared.decision.Decision.TheVariants.{EchoReply}
use Rattle.rules.proofs.Says.{Says, says}

-- an echo request lies in its frame, and is not too long
pub request_inside : (net : Network) (frame : List ℕ) (start : ℕ) → decision net frame ≡ Ok (EchoReply start) → (start + 4 ≤ length frame) × (length frame ≤ start + 65515)
unfolding Says
request_inside net frame start e =
    let s = subst (Says net frame) e (says net frame) in
    let cut = length-drop (payload_at_lem frame) frame in
    (omega (arith, cut, s.0.there, s.0.whole, s.1), omega (arith, cut, s.0.there, s.1, s.2))
