-- `read_payload` meets its contract: the laws of `Answers`, at the packet as the code takes it.
use Rattle.std.proofs.Common.{ℕ, ◌+◌, ◌*◌, ◌/◌, List, ap, sym, ◌∙◌, arith}
use Rattle.base.specs.Bytes.{u8_at}
use Rattle.grammar.specs.Grammar.{IPv4, ICMP, TCP}
use Rattle.reader.proofs.Answers.{of_rest, to_rest, decided, payload_is, opened, no_icmp, no_tcp, icmp-taken, tcp-taken, other-taken}
use Rattle.reader.proofs.read_payload.Goals as goal

pub returns-in-1 : goal.returns-in-1
returns-in-1 c =
    let frame = c.args.frame.now in
    let layers = opened frame c.requires _ _ _ (ap (λ (n : ℕ). 14 + n) c.ip_hlen.ensures) c.of-ethernet.ensures c.of-ip.ensures in
    rw c.then_some.ensures
    (decided frame c.is_icmp.result _ c.is_icmp.ensures
    (λ m. icmp-taken frame c.requires _ _ layers (of_rest frame ICMP m) c.of.result c.of.ensures)
    (λ f. no_icmp frame c.requires (sym c.ip_proto.ensures ∙ c.in-1.is) (λ m. f (to_rest frame ICMP m))))

pub returns-in-6 : goal.returns-in-6
returns-in-6 c =
    let frame = c.args.frame.now in
    let layers = opened frame c.requires _ _ _ (ap (λ (n : ℕ). 14 + n) c.ip_hlen.ensures) c.of-ethernet.ensures c.of-ip.ensures in
    rw c.then_some-in-6.ensures
    (decided frame c.is_tcp.result _ (c.is_tcp.ensures (to_rest frame IPv4 c.requires.ip))
    (λ m. tcp-taken frame c.requires _ _ layers (of_rest frame TCP m) c.header_length.result
    (c.header_length.ensures.0 ∙ ap (λ (b : List ℕ). u8_at b 12 / 16 * 4) (payload_is frame c.requires _ layers.starts)) c.of-in-6.result c.of-in-6.ensures)
    (λ f. no_tcp frame c.requires (sym c.ip_proto.ensures ∙ c.in-6.is) (λ m. f (to_rest frame TCP m))))

pub returns-in_default : goal.returns-in_default
returns-in_default c =
    let frame = c.args.frame.now in
    other-taken frame c.requires _ _ (opened frame c.requires _ _ _ (ap (λ (n : ℕ). 14 + n) c.ip_hlen.ensures) c.of-ethernet.ensures c.of-ip.ensures)
    (record {
      no_icmp = λ e. omega arith;
      no_tcp = λ e. omega arith;
      no_udp = λ e. omega arith;
    })
