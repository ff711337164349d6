-- `reply::put_fixed_part` meets its contract: three pieces, each right behind the one before it.
use mathlib.Core.Path.{◌≡◌, refl}
use lib.ListN.{length}
use native.Mathlib.Omega.{arith}
use Rattle.base.proofs.Front.{nothing_yet, behind, behind_as}
use Rattle.dhcp_message.specs.helpers.Pieces.{fixed_part}
use Rattle.dhcp_message.proofs.reply.put_fixed_part.Goals as goal

pub returns : goal.returns
unfolding fixed_part
returns c =
    let room : length c.args.reply.now ≡ 300 = omega (arith, c.well_formed) in
    let one = behind (nothing_yet c.args.reply.now) c.args.fields 34 (omega (arith, c.well_formed)) (omega (arith, room)) c.put.ensures in
    let two = behind one _ 202 refl (omega (arith, room)) c.put-2.ensures in
    (behind_as two _ 4 refl (omega (arith, room)) _ c.to_be_bytes.ensures c.put-3.ensures).bytes
