-- `decision::decide_udp` meets its contract: its data is the frame's. The other tests the check finds.
use Prim.Native.Nat.{ℕ, ◌-◌}
use mathlib.Core.Path.{◌≡◌, ap, ap₂, ◌∙◌}
use mathlib.Core.List.{List}
use native.Mathlib.Omega.{arith}
use lib.ListN.{take, drop}
use Rattle.std.proofs.lemmas.Bool.Decides.{nat_tests}
use Rattle.rules.specs.Rules.{payload, data_end, dhcp_decision, udp_decision}
use Rattle.rules.proofs.Datagram.{dhcp_there, payload_there, ends_at, data_there, data_long}
use Rattle.rules.proofs.decision.decide_udp.Goals as goal

pub returns-then-destination-eq-DHCP_SERVER : goal.returns-then-destination-eq-DHCP_SERVER
returns-then-destination-eq-DHCP_SERVER c =
    let net = c.args.net in
    let frame = c.args.frame.now in
    let p = payload_there frame c.in-Some.payload.now _ (omega arith) c.in-Some.ensures.lookup.0.2 in
    let m : c.min.result ≡ data_end (payload frame) = grind (arith, ends_at) in
    let d = ap₂ (λ (n : ℕ) (s : List ℕ). take (n - 8) (drop 8 s)) m p ∙ data_there frame in
    let t = dhcp_there net frame _ p (omega (arith, c.in-Some.ensures.lookup.0.0)) (omega arith) (omega arith) (omega arith) (omega arith) in
    c.decide_dhcp.ensures ∙ ap dhcp_decision d ∙ t

pub returns-then-eq : goal.returns-then-eq
unfolding udp_decision
returns-then-eq c =
    let frame = c.args.frame.now in
    let p = payload_there frame c.in-Some.payload.now _ (omega arith) c.in-Some.ensures.lookup.0.2 in
    let m : c.min.result ≡ data_end (payload frame) = grind (arith, ends_at) in
    grind (arith, nat_tests, data_long)

pub returns : goal.returns
unfolding udp_decision
returns c =
    let frame = c.args.frame.now in
    let p = payload_there frame c.in-Some.payload.now _ (omega arith) c.in-Some.ensures.lookup.0.2 in
    let m : c.min.result ≡ data_end (payload frame) = grind (arith, ends_at) in
    grind (arith, nat_tests, data_long)
