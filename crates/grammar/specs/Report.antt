-- What the reader answers, in document 01's words: "Parts reported: the kind, where each header and payload starts and stops, the DHCP message type", or
-- verdict 8, "outside the grammar".
use Rattle.std.specs.Prelude.{ℕ, ◌+◌, ◌≡◌, List, [], ◌∷◌}
use Rattle.base.specs.Bytes.{u8_at}
use Rattle.grammar.specs.Grammar.{Layer, Item, pad, option, Derivation, arp, icmp, udp, dhcp, tcp, other_ipv4, options53, Derives}

pub data Kind : Type 0 where
  arp_kind icmp_kind udp_kind dhcp_kind tcp_kind other_ipv4_kind : Kind

pub data Report : Type 0 where
  -- the layers, the outermost first; the message type of DHCP alone
  parts : (kind : Kind) (layers : List Layer) (type : List ℕ) → Report
  -- a refusal by its number
  refused : (number : ℕ) → Report

-- the values of options 53
abbrev pub values : (frame : List ℕ) → List Item → List ℕ
values frame [] = []
values frame (pad place ∷ rest) = values frame rest
values frame (option place code len ∷ rest) = u8_at frame (place + 2) ∷ values frame rest

-- the parts of a derivation
unfoldable pub parts_of : (frame : List ℕ) → Derivation → Report
parts_of frame (arp ethernet) = parts arp_kind (ethernet ∷ []) []
parts_of frame (icmp ethernet ip message) = parts icmp_kind (ethernet ∷ ip ∷ message ∷ []) []
parts_of frame (udp ethernet ip datagram) = parts udp_kind (ethernet ∷ ip ∷ datagram ∷ []) []
parts_of frame (dhcp ethernet ip datagram message items) =
    parts dhcp_kind (ethernet ∷ ip ∷ datagram ∷ message ∷ []) (values frame (options53 items))
parts_of frame (tcp ethernet ip segment) = parts tcp_kind (ethernet ∷ ip ∷ segment ∷ []) []
parts_of frame (other_ipv4 ethernet ip) = parts other_ipv4_kind (ethernet ∷ ip ∷ []) []

-- The promise of the reader: the parts of a derivation, or 8 where the frame has none.
pub data Reads (frame : List ℕ) (answer : Report) : Type 0 where
  takes : (d : Derivation) → Derives frame d → answer ≡ parts_of frame d → Reads frame answer
  refuses : answer ≡ refused 8 → ((d : Derivation) → Derives frame d → ⊥) → Reads frame answer
