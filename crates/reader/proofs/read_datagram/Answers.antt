-- `read_datagram` meets its contract: the laws of `Answers`, at the packet as the code takes it.
use Rattle.grammar.specs.Grammar.{IPv4, UDP, CarriesDHCP}
use Rattle.reader.proofs.Answers.{of_rest, to_rest, no_udp, no_dhcp, udp-taken, dhcp-taken}
use Rattle.reader.proofs.read_datagram.Goals as goal

pub returns-then-not-is_udp : goal.returns-then-not-is_udp
returns-then-not-is_udp c =
    let frame = c.args.frame.now in
    let framed = c.requires.framed in
    no_udp frame framed c.requires.is_udp (λ u. c.if-not-is_udp.ensures (to_rest frame IPv4 framed.ip) (to_rest frame UDP u))

pub returns-then-not-carries_dhcp : goal.returns-then-not-carries_dhcp
returns-then-not-carries_dhcp c =
    let frame = c.args.frame.now in
    let framed = c.requires.framed in
    udp-taken frame framed _ _ c.requires.opened (of_rest frame UDP (c.if-not-is_udp.ensures (to_rest frame IPv4 framed.ip)))
    (λ d. c.if-not-carries_dhcp.ensures (to_rest frame CarriesDHCP d)) c.of-datagram.result c.of-datagram.ensures

pub returns-in_err-message_type : goal.returns-in_err-message_type
returns-in_err-message_type c =
    let frame = c.args.frame.now in
    rw c.from_residual.ensures
    (no_dhcp frame c.requires.framed _ _ c.requires.opened c.requires.is_udp (of_rest frame CarriesDHCP c.if-not-carries_dhcp.ensures) c.in_err-message_type.ensures)

pub returns : goal.returns
returns c =
    let frame = c.args.frame.now in
    let framed = c.requires.framed in
    dhcp-taken frame framed _ _ c.requires.opened (of_rest frame UDP (c.if-not-is_udp.ensures (to_rest frame IPv4 framed.ip)))
    (of_rest frame CarriesDHCP c.if-not-carries_dhcp.ensures) c.in_ok-message_type.message_type c.in_ok-message_type.ensures
    c.of-datagram.result c.of.result c.of-datagram.ensures c.of.ensures
