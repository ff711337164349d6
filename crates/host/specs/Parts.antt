-- What the exported reader tells: a report as a number, and thirteen places behind it.
use Rattle.std.specs.Prelude.{ℕ, ◌≡◌, List, [], ◌∷◌, ◌++◌, take, replicate}
use Rattle.grammar.specs.Grammar.{Layer}
use Rattle.grammar.specs.Report.{Kind, arp_kind, icmp_kind, udp_kind, dhcp_kind, tcp_kind, other_ipv4_kind, Report, parts, refused, Reads}

-- a kind by its place in document 01's list: "ARP, ICMP, UDP, DHCP, TCP or other IPv4"
unfoldable pub kind_number : Kind → ℕ
kind_number arp_kind = 1
kind_number icmp_kind = 2
kind_number udp_kind = 3
kind_number dhcp_kind = 4
kind_number tcp_kind = 5
kind_number other_ipv4_kind = 6

unfoldable pub number_of : Report → ℕ
number_of (parts kind layers type) = kind_number kind
number_of (refused number) = number

-- where each layer's header starts, where its payload starts and where that stops
unfoldable pub places : List Layer → List ℕ
places [] = []
places (l ∷ ls) = l.header.start ∷ l.payload.start ∷ l.payload.stop ∷ places ls

-- the places of four layers, the outermost first, and the message type, 0 where there is none; a refusal leaves what was there
unfoldable pub places_of : (before : List ℕ) → Report → List ℕ
places_of before (parts kind layers type) = take 12 (places layers ++ replicate 12 0) ++ take 1 (type ++ 0 ∷ [])
places_of before (refused number) = before

-- The promise: the reader's, of a report that the number and the places say.
pub record Reported (frame before after : List ℕ) (answer : ℕ) : Type 0 where
  pub report : Report
  pub reads : Reads frame report
  pub number : answer ≡ number_of report
  pub parts : after ≡ places_of before report
