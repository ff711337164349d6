-- The derivation, by the frame grammar, of each kind of frame that we build: where its headers and payloads start and stop, in a frame of `n` bytes.
use Rattle.std.specs.Prelude.{ℕ, ◌+◌, ◌≡◌, List, [], ◌∷◌, ◌++◌, Result, Ok, Err}
use Rattle.base.specs.Bytes.{u16_at}
use Rattle.grammar.specs.Grammar.{body, payload, pseudo_header_lem, laid, ItemList, END, item, option, Derivation, arp, other_ipv4, icmp, udp, dhcp, tcp, Derives}
use Rattle.grammar.specs.Report.{parts, parts_of, dhcp_kind}
use Rattle.sums.specs.Rfc1071.{SumsRight}
use Rattle.record.specs.declared.answer.Refusal.{Refusal}
use Rattle.rules.specs.declared.decision.Decision.{Decision}
use Rattle.rules.specs.declared.decision.Decision.TheVariants.{Drop, DropNoting, ArpReply, EchoReply, DhcpReply, Dns, Relay, Tcp}

-- 14 bytes of Ethernet, and to each kind what lies behind them: 20 of IPv4; 8 of ICMP or UDP; 20 of TCP and its options
abbrev pub arp_derivation : (n : ℕ) → Derivation
arp_derivation n = arp (laid 0 14 n)

abbrev pub other_derivation : (n : ℕ) → Derivation
other_derivation n = other_ipv4 (laid 0 14 n) (laid 14 34 n)

abbrev pub icmp_derivation : (n : ℕ) → Derivation
icmp_derivation n = icmp (laid 0 14 n) (laid 14 34 n) (laid 34 42 n)

abbrev pub udp_derivation : (n : ℕ) → Derivation
udp_derivation n = udp (laid 0 14 n) (laid 14 34 n) (laid 34 42 n)

abbrev pub tcp_derivation : (n options : ℕ) → Derivation
tcp_derivation n options = tcp (laid 0 14 n) (laid 14 34 n) (laid 34 (54 + options) n)

-- the list of a DHCP reply
abbrev pub reply_items : ItemList
reply_items =
    item (option 282 53 1)  -- DHCP message type
    (item (option 285 54 4)  -- server identifier
    (item (option 291 51 4)  -- IP address lease time
    (item (option 297 1 4)  -- subnet mask
    (item (option 303 3 4)  -- router
    (item (option 309 6 4)  -- domain name server
    (END 315 26))))))

-- 240 bytes of DHCP behind those of UDP, and the list
abbrev pub dhcp_derivation : (n : ℕ) → Derivation
dhcp_derivation n = dhcp (laid 0 14 n) (laid 14 34 n) (laid 34 42 n) (laid 42 282 n) reply_items

-- of the grammar's two cases of a UDP checksum the second: "not zero and sums right with its pseudo-header"
pub record Summed (packet : List ℕ) : Type 0 where
  pub not_zero : u16_at (payload packet) 6 ≡ 0 → ⊥
  pub sums : SumsRight (pseudo_header_lem packet ++ payload packet)

-- A reply of `n` bytes is derived, with the kind of the decision behind it; the message type that the reader has to report of a DHCP reply is the decision's, of
-- the grammar's two orders of ports it has the server's, and of its two cases of a checksum the summed one. The other decisions build none.
abbrev pub DerivedAs : (n : ℕ) (reply : List ℕ) → Result Decision Refusal → Type 0
DerivedAs n reply (Ok ArpReply) = Derives reply (arp_derivation n)
DerivedAs n reply (Ok (EchoReply start)) = Derives reply (icmp_derivation n)
DerivedAs n reply (Ok (DhcpReply xid type)) =
    Derives reply (dhcp_derivation n)
    × (parts_of reply (dhcp_derivation n) ≡ parts dhcp_kind (laid 0 14 n ∷ laid 14 34 n ∷ laid 34 42 n ∷ laid 42 282 n ∷ []) (type ∷ []))
    × (u16_at (payload (body reply)) 0 ≡ 67)
    × (u16_at (payload (body reply)) 2 ≡ 68)
    × Summed (body reply)
DerivedAs n reply (Ok Drop) = ⊥
DerivedAs n reply (Ok (DropNoting xid)) = ⊥
DerivedAs n reply (Ok (Dns start len)) = ⊥
DerivedAs n reply (Ok (Relay start len)) = ⊥
DerivedAs n reply (Ok (Tcp len)) = ⊥
DerivedAs n reply (Err refusal) = ⊥
