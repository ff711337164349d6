-- `ipv4::make_ip_frame` meets its contract: the payload is put behind the headers of its length.
use Prim.Native.Nat.{ℕ}
use mathlib.Core.Path.{◌∙◌, sym, ap}
use mathlib.Core.List.{List}
use native.Mathlib.Omega.{arith}
use Rattle.base.proofs.Lists.{fits}
use Rattle.base.specs.Buffer.{put}
use Rattle.frames.proofs.Framed.{framed_over}
use Rattle.frames.proofs.ipv4.make_ip_frame.Goals as goal
use Rattle.record.proofs.BuiltOf.{on_ok, written_over, left_alone}

pub returns-then-is_ok : goal.returns-then-is_ok
returns-then-is_ok c =
    let a = c.args in
    let v = c.make_ip_frame_in_place-answer in
    let ok = sym c.is_ok.ensures.value ∙ c.if-is_ok.true in
    let b = on_ok a.guest _ _ _ _ _ a.out.now v.new.out v.result v.ensures ok in
    written_over a.guest _ _ _ _ _ a.out.now v.new.out v.result v.ensures _ _ ok
    (c.put.ensures
    ∙ fits _ _ _ (omega arith)
    ∙ ap (λ (s : List ℕ). put 34 a.payload.now s) b.2
    ∙ framed_over a.dst_mac a.src_ip a.dst_ip (omega (arith, c.well_formed)) (omega (arith, c.well_formed)) (omega (arith, c.well_formed)) a.guest.id a.proto a.payload.now a.out.now b.1)

pub returns-else-is_ok : goal.returns-else-is_ok
returns-else-is_ok c =
    let a = c.args in
    let v = c.make_ip_frame_in_place-answer in
    left_alone a.guest _ _ _ _ _ a.out.now v.new.out v.result v.ensures _ (sym c.is_ok.ensures.value ∙ c.if-is_ok.false)
