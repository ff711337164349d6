-- `reply::write_reply` meets its contract: the fixed part, then eight pieces, each right behind the one before it.
use mathlib.Core.Path.{◌≡◌, refl, ◌∙◌}
use lib.ListN.{length}
use native.Mathlib.Omega.{arith}
use Rattle.dhcp_message.specs.helpers.Pieces.{written}
use Rattle.base.proofs.Front.{behind}
use Rattle.base.proofs.Lists.{put_over}
use Rattle.dhcp_message.proofs.Pieces.{fixed_front}
use Rattle.dhcp_message.proofs.reply.write_reply.Goals as goal

pub returns : goal.returns
unfolding written
returns c =
    let room : length c.args.reply.now ≡ 300 = omega (arith, c.well_formed) in
    let before = fixed_front c.args.reply.now c.args.fields (omega (arith, c.well_formed)) c.put_fixed_part.ensures in
    let none = behind before _ 3 refl (omega (arith, room)) c.put.ensures in
    let one = behind none _ 6 (omega (arith, c.put_row.ensures.1)) (omega (arith, room)) c.put_row.ensures.0 in
    let two = behind one _ 6 (omega (arith, c.put_row-2.ensures.1)) (omega (arith, room)) c.put_row-2.ensures.0 in
    let three = behind two _ 6 (omega (arith, c.put_row-3.ensures.1)) (omega (arith, room)) c.put_row-3.ensures.0 in
    let four = behind three _ 6 (omega (arith, c.put_row-4.ensures.1)) (omega (arith, room)) c.put_row-4.ensures.0 in
    let five = behind four _ 6 (omega (arith, c.put_row-5.ensures.1)) (omega (arith, room)) c.put_row-5.ensures.0 in
    let ended = behind five _ 1 refl (omega (arith, room)) c.put-2.ensures in
    let whole = behind ended _ 26 refl (omega (arith, room)) c.put-3.ensures in
    whole.bytes ∙ put_over _ c.args.reply.now (omega (arith, whole.long, room))
