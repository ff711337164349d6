-- `reply::put_reply` meets its contract: the reply has 300 bytes, so it is written exactly where it fits.
use Prim.Native.Nat.{ℕ}
use mathlib.Core.Path.{sym, ap, ◌∙◌}
use mathlib.Core.List.{List, ◌++◌}
use native.Mathlib.Omega.{arith}
use lib.ListN.{drop}
use borrow.Author.Rules.{rules}
use Rattle.base.proofs.Lists.{fits, no_fit, put_front}
use Rattle.dhcp_message.proofs.ReadBack.{reply_reads_back}
use Rattle.record.specs.Network.{FourBytes}
use Rattle.dhcp_message.proofs.reply.put_reply.Goals as goal

pub returns-in-Some : goal.returns-in-Some
returns-in-Some c =
    let a = c.args in
    let four : FourBytes a.net = record {
      gateway = search rules;
      guest = search rules;
      mask = search rules;
    } in
    let long = (reply_reads_back a.net a.mac a.xid a.kind four (omega (arith, c.well_formed))).long in
    ap (λ (s : List ℕ). s ++ drop 300 a.out.now) c.write_reply_of.ensures
    ∙ rw (← long) (sym (fits 0 _ a.out.now (omega (arith, long, c.in-Some.ensures.cases)) ∙ put_front _ a.out.now))

pub returns-in_default : goal.returns-in_default
returns-in_default c =
    let a = c.args in
    let four : FourBytes a.net = record {
      gateway = search rules;
      guest = search rules;
      mask = search rules;
    } in
    let long = (reply_reads_back a.net a.mac a.xid a.kind four (omega (arith, c.well_formed))).long in
    sym (no_fit 0 _ a.out.now (omega (arith, long, c.in_default.ensures.cases)))
