-- `tcp::make_tcp_frame` meets its contract: what was built without the record is built with it.
use Rattle.record.proofs.BuiltOf.{built_meets}
use Rattle.tcp.proofs.make_tcp_frame.Goals as goal

pub returns : goal.returns
returns c = rw c.built.ensures (built_meets _ _ _ _ _ _ _ _ _ c.build_frame.ensures)
