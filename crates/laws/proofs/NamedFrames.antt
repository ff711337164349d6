-- The frame grammar is neither empty nor everything: of the frames of the marked cases some are derived and others are not, and a checksum is right as 0 and as 0xffff. All by computation.
use Prim.Native.Nat.{ℕ}
use mathlib.Core.Path.{◌≡◌, refl}
use mathlib.Core.Logic.{inl, inr}
use mathlib.Core.List.{List, [], ◌∷◌, ◌++◌}
use native.Mathlib.Omega.{arith}
use lib.ListN.{take}
use Rattle.grammar.specs.Grammar.{Derivation, laid, Derives}
use Rattle.grammar.specs.Report.{parts, refused, parts_of, Reads, icmp_kind}
use Rattle.std.proofs.Common.{Option}
use Rattle.reader.specs.Reported.{report_of}
use Rattle.reader.specs.declared.parts.Reading.{Reading}
use Rattle.grammar.proofs.Unique.{arp_or_ipv4}
use Rattle.sums.specs.Rfc1071.{words, sum, total, fold, SumsRight}
use Rattle.laws.specs.Derivations.{arp_derivation, icmp_derivation}
use Rattle.laws.specs.Marked.{arp_request, ping, pong}
use Rattle.laws.proofs.Demand3.{refuses_exactly, reports_its_parts}

-- the request of A1, as the table has it
pub request_derived : Derives arp_request (arp_derivation 42)
unfolding Derives
request_derived =
    (omega arith, record { size = refl; hardware = refl; protocol_type = refl; hardware_length_lem = refl; protocol_length_lem = refl; operation = inl refl }, refl)

-- P1's reply
pub pong_derived : Derives pong (icmp_derivation 42)
unfolding Derives SumsRight total words sum fold
pong_derived = (omega arith, omega arith, omega arith, refl, refl, refl)

-- the ping of P1, which the table of marked cases has with the checksum 0 in its IPv4 header
pub ping_outside : (d : Derivation) → Derives ping d → ⊥
unfolding SumsRight total words sum fold
ping_outside d x = elim (arp_or_ipv4 ping d x) [ inl a ↦ omega arith | inr i ↦ omega arith ]

-- so the reader neither takes all nor refuses all: whatever keeps its promise takes the one, with these parts, and refuses the other
pub pong_read : (r : Option Reading) → Reads pong (report_of r) → report_of r ≡ parts icmp_kind (laid 0 14 42 ∷ laid 14 34 42 ∷ laid 34 42 42 ∷ []) []
unfolding parts_of
pong_read r kept = reports_its_parts pong r kept (icmp_derivation 42) pong_derived

pub ping_refused : (r : Option Reading) → Reads ping (report_of r) → report_of r ≡ refused 8
ping_refused r kept = (refuses_exactly ping r kept).1 ping_outside

-- "41-byte ARP"
pub cut_request_outside : (d : Derivation) → Derives (take 41 arp_request) d → ⊥
cut_request_outside d x = elim (arp_or_ipv4 (take 41 arp_request) d x) [ inl a ↦ omega arith | inr i ↦ omega arith ]

-- a pong with this checksum in its IPv4 header and in its ICMP message; the other words of each sum to 65,535
abbrev pub storing : (checksum : List ℕ) → List ℕ
storing checksum =
    (0x52 ∷ 0x54 ∷ 0x00 ∷ 0x12 ∷ 0x34 ∷ 0x56 ∷ 0x52 ∷ 0x54 ∷ 0x00 ∷ 0x00 ∷ 0x00 ∷ 0x01 ∷ 0x08 ∷ 0x00 ∷ [])
    ++ (0x45 ∷ 0x00 ∷ 0x00 ∷ 0x1c ∷ 0x22 ∷ 0xd1 ∷ 0x40 ∷ 0x00 ∷ 0x40 ∷ 0x01 ∷ []) ++ checksum ++ (0x0a ∷ 0x00 ∷ 0x02 ∷ 0x02 ∷ 0x0a ∷ 0x00 ∷ 0x02 ∷ 0x0f ∷ [])
    ++ (0x00 ∷ 0x00 ∷ []) ++ checksum ++ (0xff ∷ 0xff ∷ 0x00 ∷ 0x00 ∷ [])

-- "A stored checksum of 0 or 0xffff may both be right; recomputing and comparing would refuse one."
pub both_checksums_derived : Derives (storing (0x00 ∷ 0x00 ∷ [])) (icmp_derivation 42) × Derives (storing (0xff ∷ 0xff ∷ [])) (icmp_derivation 42)
unfolding Derives SumsRight total words sum fold
both_checksums_derived = ((omega arith, omega arith, omega arith, refl, refl, refl), (omega arith, omega arith, omega arith, refl, refl, refl))
