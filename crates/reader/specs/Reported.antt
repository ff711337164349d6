-- What the reader's answers report, in document 01's words: parts, or verdict 8, "outside the grammar".
use Rattle.std.specs.Prelude.{[], ◌∷◌, Option, Some, None}
use Rattle.grammar.specs.Grammar.{Layer, laid}
use Rattle.grammar.specs.Report.{arp_kind, icmp_kind, udp_kind, dhcp_kind, tcp_kind, other_ipv4_kind, Report, parts, refused}
use Rattle.reader.specs.declared.parts.Reading.{Reading}
use Rattle.reader.specs.declared.parts.Reading.TheVariants.{Arp, OtherIpv4, Icmp, Udp, Dhcp, Tcp}
use Rattle.reader.specs.declared.parts.Layer.{Layer as Parts-as-Layer}

-- the code's layer
abbrev pub layer_of : Parts-as-Layer → Layer
layer_of l = laid l.header l.payload l.stop

-- the report that the code's answer makes
unfoldable pub report_of : Option Reading → Report
report_of (Some (Arp ethernet)) = parts arp_kind (layer_of ethernet ∷ []) []
report_of (Some (Icmp ethernet ip message)) = parts icmp_kind (layer_of ethernet ∷ layer_of ip ∷ layer_of message ∷ []) []
report_of (Some (Udp ethernet ip datagram)) = parts udp_kind (layer_of ethernet ∷ layer_of ip ∷ layer_of datagram ∷ []) []
report_of (Some (Dhcp ethernet ip datagram message type)) =
    parts dhcp_kind (layer_of ethernet ∷ layer_of ip ∷ layer_of datagram ∷ layer_of message ∷ []) (type ∷ [])
report_of (Some (Tcp ethernet ip segment)) = parts tcp_kind (layer_of ethernet ∷ layer_of ip ∷ layer_of segment ∷ []) []
report_of (Some (OtherIpv4 ethernet ip)) = parts other_ipv4_kind (layer_of ethernet ∷ layer_of ip ∷ []) []
report_of None = refused 8
