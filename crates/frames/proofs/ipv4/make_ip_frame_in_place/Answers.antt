-- `ipv4::make_ip_frame_in_place` meets its contract: what was built without the record is built with it.
use Rattle.record.proofs.BuiltOf.{built_meets}
use Rattle.frames.proofs.ipv4.make_ip_frame_in_place.Goals as goal

pub returns : goal.returns
returns c = rw c.built.ensures (built_meets _ _ _ _ _ _ _ _ _ c.build_in_place.ensures)
