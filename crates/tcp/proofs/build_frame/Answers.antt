-- `tcp::build_frame` meets its contract: the headers, the segment's header, its options and the data, put one behind the other, are the frame at the buffer's front.
use Prim.Native.Nat.{ℕ, ◌+◌, ◌<◌}
use mathlib.Core.Path.{◌≡◌, refl, ap, ◌∙◌}
use mathlib.Core.List.{List, ◌++◌}
use native.Mathlib.Omega.{arith}
use lib.ListN.{length, drop}
use Rattle.base.proofs.Lists.{put_front}
use Rattle.base.proofs.Front.{nothing_yet, behind_as}
use Rattle.record.proofs.Built.{exit_too_long, exit_no_room, written}
use Rattle.tcp.specs.Rfc9293.{options, segment_header_lem, summed_header_lem}
use Rattle.tcp.specs.Builders.{data_limit_lem}
use Rattle.frames.specs.Frames.{headers}
use Rattle.frames.proofs.Lengths.{length_headers}
use Rattle.tcp.proofs.Pieces.{four_pieces, summed_by_pieces, length_summed}
use Rattle.tcp.proofs.TcpLaws.{limit_holds}
use Rattle.tcp.proofs.build_frame.Goals as goal

pub returns-in_err-data_len : goal.returns-in_err-data_len
returns-in_err-data_len c =
    let o = c.options-options.ensures in
    let past = c.in_err-data_len.ensures in
    let over : data_limit_lem c.args.flags < length c.args.data.now = omega (arith, past.0, o.1, ap length o.0, limit_holds c.args.flags) in
    exit_too_long _ _ _ _ _ _ _ _ c.from_residual.ensures.1 (over, past.1)

pub returns-in_err-need : goal.returns-in_err-need
returns-in_err-need c =
    let o = c.options-options.ensures in
    let len = c.in_ok-data_len.ensures in
    let need : 34 + (20 + length c.options-options.result.now + c.in_ok-data_len.data_len) ≡ 54 + length (options c.args.flags) + length c.args.data.now = omega (arith, ap length o.0) in
    exit_no_room _ _ _ _ _ _ _ _ c.from_residual-in_err-need.ensures.1 (omega (arith, o.1, ap length o.0, limit_holds c.args.flags)) (rw need at c.in_err-need.ensures)

pub returns : goal.returns
returns c =
    let a = c.args in
    let e = a.ends in
    let d = a.data.now in
    let o = c.options-options.ensures in
    let len = c.in_ok-data_len.ensures in
    let need : 34 + (20 + length c.options-options.result.now + c.in_ok-data_len.data_len) ≡ 54 + length (options a.flags) + length d = omega (arith, ap length o.0) in
    let room = rw need at c.in_ok-need.ensures in
    let same : 20 + length c.options-options.result.now + c.in_ok-data_len.data_len ≡ 20 + length (options a.flags) + length d = omega (arith, ap length o.0) in
    let summed : c.header_with.result ≡ summed_header_lem e a.seq a.ack a.flags d =
    c.header_with.ensures
    ∙ ap (λ (n : ℕ). segment_header_lem n e.src_port e.dst_port a.seq a.ack a.flags) (rw same at c.checksum.ensures)
    ∙ summed_by_pieces e a.seq a.ack a.flags d in
    let front = headers e.dst_mac (20 + (20 + length (options a.flags) + length d)) a.id 6 e.src_ip e.dst_ip in
    let long : length front ≡ 34 = length_headers e.src_ip e.dst_ip (omega (arith, c.well_formed)) (omega (arith, c.well_formed)) e.dst_mac _ a.id 6 (omega (arith, c.well_formed)) in
    let one = behind_as (nothing_yet a.out.now) front 34 long (omega arith) _ refl (rw same at c.put_headers.ensures) in
    let two = behind_as one (summed_header_lem e a.seq a.ack a.flags d) 20 (length_summed e a.seq a.ack a.flags d) (omega arith) _ summed c.put.ensures in
    let three = behind_as two (options a.flags) (length (options a.flags)) refl (omega arith) _ o.0 c.put-2.ensures in
    let four = behind_as three d (length d) refl (omega arith) _ refl (rw (ap length o.0) at c.put-3.ensures) in
    rw room.1
    (written _ _ _ _ _ _ _ (omega (arith, o.1, ap length o.0, limit_holds a.flags)) room.0
    (four.bytes ∙ put_front _ a.out.now ∙ ap (λ (frame : List ℕ). frame ++ drop (length frame) a.out.now) (four_pieces e a.seq a.ack a.flags d a.id)))
