-- `reply::build_reply` meets its contract: with room the reply stands at the buffer's front.
use mathlib.Core.Path.{◌∙◌}
use native.Mathlib.Omega.{arith}
use borrow.Author.Rules.{rules}
use Rattle.base.proofs.Lists.{fits, put_front}
use Rattle.dhcp_message.proofs.ReadBack.{reply_reads_back}
use Rattle.dhcp_message.specs.Message.{reply}
use Rattle.record.proofs.Fitting.{exit_does_not_fit, does_fit}
use Rattle.record.specs.Network.{FourBytes}
use Rattle.dhcp_message.proofs.reply.build_reply.Goals as goal

pub returns-in_err-need : goal.returns-in_err-need
returns-in_err-need c = exit_does_not_fit 300 _ _ _ _ _ c.from_residual.ensures.1 c.in_err-need.ensures

pub returns : goal.returns
returns c =
    let a = c.args in
    let four : FourBytes a.net = record {
      gateway = search rules;
      guest = search rules;
      mask = search rules;
    } in
    let said = c.in_ok-need.ensures in
    let long = (reply_reads_back a.net a.mac a.xid a.kind four (omega (arith, c.well_formed))).long in
    rw said.1 (does_fit 300 _ _ _ _ said.0 (c.put_reply.ensures ∙ fits 0 _ a.out.now (omega (arith, long)) ∙ put_front (reply a.net a.mac a.xid a.kind) a.out.now))
