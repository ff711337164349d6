-- `send` meets its contract: the verdict and the buffer are `handle`'s, and no call changes the rest of a record.
use lib.ListN.{length}
use Rattle.rules.proofs.Settled.{outcome_settled}
use Rattle.lent_record.proofs.Kept.{stored}
use Rattle.lent_record.proofs.send.Goals as goal

pub returns : goal.returns
returns c =
    let a = c.args in
    let m = c.handle-answer.ensures in
    record { wrote = m.wrote; guest = stored a.guest.now c.handle-answer.result.guest _ (outcome_settled a.guest.now a.frame.now (length a.reply.now)) m.guest }
