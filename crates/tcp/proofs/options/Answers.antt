-- `tcp::options` meets its contract: the mask takes the SYN bit out, and that decides.
use mathlib.Core.Path.{refl}
use lib.Dec.{lit≤}
use Rattle.tcp.specs.Rfc9293.{options}
use Rattle.tcp.proofs.TcpLaws.{with_syn, without_syn}
use Rattle.tcp.proofs.options.Goals as goal

pub returns-then-flags-ne0 : goal.returns-then-flags-ne0
unfolding options
returns-then-flags-ne0 c = simp (with_syn c.args.flags c.if-flags-ne0.true) (refl, lit≤ tt)

pub returns : goal.returns
unfolding options
returns c = simp (without_syn c.args.flags c.if-flags-ne0.false) (refl, lit≤ tt)
