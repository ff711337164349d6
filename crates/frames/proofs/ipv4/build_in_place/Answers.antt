-- `ipv4::build_in_place` meets its contract: the headers put in front of what lies at 34 make its frame.
use Prim.Native.Nat.{◌+◌}
use mathlib.Core.Path.{◌≡◌, ◌∙◌}
use native.Mathlib.Omega.{arith}
use lib.ListN.{length}
use Rattle.base.proofs.Lists.{fits}
use Rattle.frames.proofs.Framed.{framed}
use Rattle.frames.proofs.Lengths.{length_headers}
use Rattle.record.proofs.Built.{exit_too_long, exit_no_room, written}
use Rattle.frames.proofs.ipv4.build_in_place.Goals as goal

pub returns-in_err-within_limit : goal.returns-in_err-within_limit
returns-in_err-within_limit c = exit_too_long _ _ _ _ _ _ _ _ c.from_residual.ensures.1 c.in_err-within_limit.ensures

pub returns-in_err-need : goal.returns-in_err-need
returns-in_err-need c = exit_no_room _ _ _ _ _ _ _ _ c.from_residual-in_err-need.ensures.1 c.in_ok-within_limit.ensures.0 c.in_err-need.ensures

pub returns : goal.returns
returns c =
    let a = c.args in
    let six : length a.dst_mac ≡ 6 = omega (arith, c.well_formed) in
    let four : length a.src_ip ≡ 4 = omega (arith, c.well_formed) in
    let four' : length a.dst_ip ≡ 4 = omega (arith, c.well_formed) in
    let long = length_headers a.src_ip a.dst_ip four four' a.dst_mac (20 + a.len) a.id a.proto six in
    rw c.in_ok-need.ensures.1
    (written _ _ _ _ _ _ _ c.in_ok-within_limit.ensures.0 c.in_ok-need.ensures.0
    (c.put_headers.ensures
    ∙ fits 0 _ a.out.now (omega (arith, long))
    ∙ framed a.dst_mac a.src_ip a.dst_ip six four four' a.id a.proto a.len a.out.now (omega arith)))
