-- `read` meets its contract: the laws of `Answers`, at the packet as the code takes it.
use Rattle.std.proofs.Common.{subst, sym, ◌∙◌, arith}
use Rattle.grammar.specs.Grammar.{ARP, IPv4}
use Rattle.reader.proofs.Answers.{of_rest, to_rest, short-frame, no-arp, arp-taken, no_ipv4}
use Rattle.reader.proofs.read.Goals as goal

pub returns-in_err-packet : goal.returns-in_err-packet
returns-in_err-packet c =
    rw c.from_residual.ensures (short-frame c.args.frame.now (grind (arith, c.in_err-packet.ensures.lookup.0)))

pub returns-in-2054 : goal.returns-in-2054
returns-in-2054 c =
    let frame = c.args.frame.now in
    let packet = c.in_ok-packet.ensures.lookup.0 in
    arp-taken frame (record { whole = packet.0; typed = sym c.eth_type.ensures ∙ c.in-2054.is })
    (of_rest frame ARP (subst ARP packet.2 c.if-is_arp.ensures)) c.of.result c.of.ensures

pub returns-in_default : goal.returns-in_default
returns-in_default c =
    let frame = c.args.frame.now in
    let packet = c.in_ok-packet.ensures.lookup.0 in
    no-arp frame (sym c.eth_type.ensures ∙ c.in-2054.is) (λ a. c.if-is_arp.ensures (subst ARP (sym packet.2) (to_rest frame ARP a)))

pub returns-in_default-2 : goal.returns-in_default-2
returns-in_default-2 c =
    let frame = c.args.frame.now in
    let packet = c.in_ok-packet.ensures.lookup.0 in
    no_ipv4 frame (λ e. omega arith) (λ e i. c.if-is_ipv4.ensures (subst IPv4 (sym packet.2) (to_rest frame IPv4 i)))

pub returns-in_default-3 : goal.returns-in_default-3
returns-in_default-3 c = no_ipv4 c.args.frame.now (λ e. omega arith) (λ e i. omega arith)
