-- Two answers of `read` to one frame are equal: it makes one report, and the report tells which answer made it.
use Prim.Native.Nat.{ℕ}
use mathlib.Core.Path.{◌≡◌, refl, ap, sym, ◌∙◌}
use mathlib.Core.List.{List}
use Rattle.std.proofs.Common.{Option, Some, None}
use lib.ListN.{get_or}
use Rattle.grammar.specs.Grammar.{Layer}
use Rattle.grammar.specs.Report.{Report, parts, refused, Reads, arp_kind, icmp_kind, udp_kind, dhcp_kind, tcp_kind, other_ipv4_kind}
use Rattle.grammar.proofs.Exact.{one_report}
use Rattle.reader.specs.Reported.{report_of}
use Rattle.reader.specs.declared.parts.Layer.{Layer as Parts-as-Layer}
use Rattle.reader.specs.declared.parts.Reading.{Reading}
use Rattle.reader.specs.declared.parts.Reading.TheVariants.{Arp, OtherIpv4, Icmp, Udp, Dhcp, Tcp}

nowhere : Layer
nowhere = record { header = record { start = 0; stop = 0 }; payload = record { start = 0; stop = 0 } }

abbrev back : List Layer → ℕ → Parts-as-Layer
back layers i =
    record {
      header = (get_or layers i nowhere).header.start;
      payload = (get_or layers i nowhere).payload.start;
      stop = (get_or layers i nowhere).payload.stop;
    }

reading_of : Report → Option Reading
reading_of (parts arp_kind l type) = Some (Arp (back l 0))
reading_of (parts other_ipv4_kind l type) = Some (OtherIpv4 (back l 0) (back l 1))
reading_of (parts icmp_kind l type) = Some (Icmp (back l 0) (back l 1) (back l 2))
reading_of (parts udp_kind l type) = Some (Udp (back l 0) (back l 1) (back l 2))
reading_of (parts dhcp_kind l type) = Some (Dhcp (back l 0) (back l 1) (back l 2) (back l 3) (get_or type 0 0))
reading_of (parts tcp_kind l type) = Some (Tcp (back l 0) (back l 1) (back l 2))
reading_of (refused number) = None

reported_back : (r : Option Reading) → reading_of (report_of r) ≡ r
unfolding reading_of report_of
reported_back (Some (Arp e)) = refl
reported_back (Some (OtherIpv4 e i)) = refl
reported_back (Some (Icmp e i m)) = refl
reported_back (Some (Udp e i u)) = refl
reported_back (Some (Dhcp e i u m type)) = refl
reported_back (Some (Tcp e i g)) = refl
reported_back None = refl

-- two answers that keep the promise are equal
pub read_answers_once : (s : List ℕ) (r q : Option Reading) → Reads s (report_of r) → Reads s (report_of q) → r ≡ q
read_answers_once s r q a b = sym (reported_back r) ∙ ap reading_of (one_report s (report_of r) (report_of q) a b) ∙ reported_back q
