-- `read_message` meets its contract: the laws of `MessageRead`, at the slice from `at` on.
use Rattle.std.proofs.Common.{None, arith, length-drop, subst, sym, ◌∙◌}
use Rattle.base.proofs.Lists.{from_on}
use Rattle.grammar.specs.Grammar.{DHCPHeader}
use Rattle.dhcp_strict.proofs.MessageRead.{no_message, message_read}
use Rattle.dhcp_strict.proofs.read_message.Goals as goal

pub returns-in_err-message : goal.returns-in_err-message
returns-in_err-message c =
    let s = c.args.frame.now in
    rw c.from_residual.ensures
    (no_message s c.args.at (λ header. grind (arith, header.least, length-drop c.args.at s, c.in_err-message.ensures.lookup.0)))

pub returns-then-not-has_header : goal.returns-then-not-has_header
returns-then-not-has_header c =
    let s = c.args.frame.now in
    let all = c.in_ok-message.ensures.lookup.0.2 ∙ from_on c.args.at s in
    no_message s c.args.at (λ header. c.if-not-has_header.ensures (subst DHCPHeader (sym all) header))

pub returns-then-not-read_list : goal.returns-then-not-read_list
returns-then-not-read_list c =
    let s = c.args.frame.now in
    let all = c.in_ok-message.ensures.lookup.0.2 ∙ from_on c.args.at s in
    message_read s c.args.at None (subst DHCPHeader all c.if-not-has_header.ensures) c.if-not-read_list.ensures

pub returns : goal.returns
returns c =
    let s = c.args.frame.now in
    let all = c.in_ok-message.ensures.lookup.0.2 ∙ from_on c.args.at s in
    message_read s c.args.at _ (subst DHCPHeader all c.if-not-has_header.ensures) c.if-not-read_list.ensures
