-- The definitions, run: document 01's cases and the builders on one record, one after the other, with a change of the record between. Each call is answered as promised, so there are such runs; and the ids
-- that stand in the buffers are these.
use Prim.Native.Nat.{ℕ}
use mathlib.Core.Path.{◌≡◌, refl}
use mathlib.Core.List.{List, [], ◌∷◌, ◌++◌}
use native.Mathlib.Omega.{arith}
use lib.ListN.{length, get_or, drop, set, take, replicate}
use Rattle.base.specs.Runs.{Step, called, replaced, gathered}
use Rattle.arp_reply.specs.Reply.{reply_to}
use Rattle.dhcp_message.specs.Message.{reply}
use Rattle.dhcp_reply.specs.Reply.{dhcp_frame_to}
use Rattle.frames.specs.Frames.{ip_frame}
use Rattle.laws.specs.Marked.{mac, with, arp_request, ping, message}
use Rattle.options.specs.Rfc2132.{walk, walk_from}
use Rattle.record.proofs.OneAnswer.{verdict_of}
use Rattle.record.specs.Answer.{paper, framing, spending, building}
use Rattle.record.specs.declared.guest.Guest.{Guest}
use Rattle.rules.specs.Rules.{decision, arp_decision, ip_decision, icmp_decision, udp_decision, dhcp_decision, outcome_of, outcome}
use Rattle.sums.specs.Rfc1071.{words, sum, total, fold, checksum}
use Rattle.tcp.specs.Builders.{data_limit_lem}
use Rattle.tcp.specs.Rfc9293.{options, segment_header_lem, summed_header_lem, segment, tcp_frame}
use Rattle.tcp.specs.declared.Endpoints.{Endpoints}
use Rattle.wire.specs.Rfc768.{pseudo_header_lem, covered, datagram}
use Rattle.wire.specs.Rfc791.{header, header_with_lem}
use Rattle.wire.specs.Rfc792.{echo, echo_with}
use Rattle.runs.specs.Calls.{Asked, handling, making_ip_frame, making_ip_frame_in_place, making_tcp_frame, promised, SizedEnds, SizedArrays, Call, Answered, left_by}
use Rattle.runs.specs.Ids.{Typed, Run, ids}

-- what a host does: it asks, with so many bytes of room, or puts another record in place
pub data Deed : Type 0 where
  asks : Asked → (room : ℕ) → Deed
  puts : Guest → Deed

-- a call that is answered as promised, in a buffer that holds 0xee everywhere
abbrev kept : Guest → Asked → (room : ℕ) → Call
kept guest asked room =
    record {
      who = 0;
      asked = asked;
      before = replicate room 0xee;
      answer = record { verdict = verdict_of (promised guest asked (replicate room 0xee)).writing.numbers; guest = (promised guest asked (replicate room 0xee)).guest };
      after =
          (promised guest asked (replicate room 0xee)).writing.image
          ++ drop (length (promised guest asked (replicate room 0xee)).writing.image) (replicate room 0xee);
    }

abbrev course : Guest → List Deed → List (Step Guest Call)
course guest [] = []
course guest (asks asked room ∷ deeds) = called (kept guest asked room) ∷ course (left_by (kept guest asked room)) deeds
course guest (puts other ∷ deeds) = replaced 0 other ∷ course other deeds

abbrev address : List ℕ
address = 192 ∷ 0 ∷ 2 ∷ 1 ∷ []

abbrev ends : Endpoints
ends = record { dst_mac = mac; src_ip = address; src_port = 80; dst_ip = address; dst_port = 49152 }

-- P1's frame as a TCP segment, as a datagram for outside and as a DNS query, by its protocol, length field and port
abbrev segment_out : List ℕ
segment_out = set ping 23 6

abbrev datagram_out : List ℕ
datagram_out = set (set ping 23 17) 39 8

abbrev dns_query : List ℕ
dns_query = set (set datagram_out 36 0) 37 53

abbrev deeds : List Deed
deeds =
    asks (handling ping) 42  -- P1: a reply, 65,534
    ∷ asks (handling arp_request) 2048  -- A1: ARP's, none
    ∷ asks (handling ping) 41  -- 5
    ∷ asks (making_ip_frame mac address address 17 (1 ∷ 2 ∷ 3 ∷ [])) 100  -- 65,535
    ∷ asks (making_ip_frame mac address address 17 (1 ∷ 2 ∷ 3 ∷ [])) 36  -- 5
    ∷ asks (handling (take 41 arp_request)) 2048  -- a drop
    ∷ asks (handling dns_query) 2048  -- 2
    ∷ asks (handling datagram_out) 2048  -- 3
    ∷ asks (handling segment_out) 2048  -- 4
    ∷ asks (making_ip_frame_in_place mac address address 99 7) 41  -- 0
    ∷ asks (making_ip_frame_in_place mac address address 99 65516) 41  -- 6
    ∷ asks (handling (message (0x35 ∷ 0x01 ∷ 0x01 ∷ 0xff ∷ []))) 342  -- D1: an offer, 1
    ∷ asks (handling (message (0x35 ∷ 0x01 ∷ []))) 342  -- D2: 7
    ∷ asks (handling (message (0x35 ∷ []))) 342  -- D3: a drop that notes the xid
    ∷ asks (making_tcp_frame ends 1 2 0x02 []) 62  -- 2
    ∷ asks (making_tcp_frame ends 1 2 0x10 (1 ∷ [])) 1514  -- 3
    ∷ puts (with 65535 0)  -- the count starts anew
    ∷ asks (handling ping) 100  -- 65,535
    ∷ asks (handling ping) 100  -- 0
    ∷ []

-- such a call is answered as the contract promises
answered : (guest : Guest) (asked : Asked) (room : ℕ) → SizedArrays asked
    → paper (verdict_of (promised guest asked (replicate room 0xee)).writing.numbers) ≡ (promised guest asked (replicate room 0xee)).writing.numbers → Answered guest (kept guest asked room)
answered guest asked room sized named = record { sized = sized; meets = record { wrote = record { numbers = named; bytes = refl }; guest = refl } }

possible : Typed (with 65535 0)
possible = record { sized = record { mac = refl; network = record { guest = refl; gateway = refl; mask = refl } }; in_16_bits = omega arith }

abbrev sizes : SizedEnds mac address address
sizes = record { six = refl; four = refl; four_too = refl }

-- the ids that stand in the buffers
pub ids_of_the_course : ids (course (with 65534 0) deeds) ≡ 65534 ∷ 65535 ∷ 0 ∷ 1 ∷ 2 ∷ 3 ∷ 65535 ∷ 0 ∷ []
unfolding checksum total words sum fold header header_with_lem ip_frame datagram walk walk_from reply echo echo_with reply_to dhcp_frame_to decision arp_decision ip_decision icmp_decision udp_decision dhcp_decision framing spending building outcome_of outcome tcp_frame segment summed_header_lem segment_header_lem options data_limit_lem covered pseudo_header_lem verdict_of paper
ids_of_the_course = refl

-- the numbers of the answers to its calls, in their order
pub numbers_of_the_course : gathered (λ (call : Call). get_or (paper call.answer.verdict) 0 8 ∷ []) (course (with 65534 0) deeds)
    ≡ 1 ∷ 1 ∷ 5 ∷ 1 ∷ 5 ∷ 0 ∷ 2 ∷ 3 ∷ 4 ∷ 1 ∷ 6 ∷ 1 ∷ 7 ∷ 0 ∷ 1 ∷ 1 ∷ 1 ∷ 1 ∷ []
unfolding checksum total words sum fold header header_with_lem ip_frame datagram walk walk_from reply echo echo_with reply_to dhcp_frame_to decision arp_decision ip_decision icmp_decision udp_decision dhcp_decision framing spending building outcome_of outcome tcp_frame segment summed_header_lem segment_header_lem options data_limit_lem covered pseudo_header_lem verdict_of paper
numbers_of_the_course = refl

-- and the course is a run, so what is claimed of runs is claimed of it
pub course_runs : Run (with 65534 0) (course (with 65534 0) deeds)
unfolding checksum total words sum fold header header_with_lem ip_frame datagram walk walk_from reply echo echo_with reply_to dhcp_frame_to decision arp_decision ip_decision icmp_decision udp_decision dhcp_decision framing spending building outcome_of outcome tcp_frame segment summed_header_lem segment_header_lem options data_limit_lem covered pseudo_header_lem verdict_of paper
course_runs =
    (answered _ _ 42 tt refl, (answered _ _ 2048 tt refl, (answered _ _ 41 tt refl, (answered _ _ 100 sizes refl, (answered _ _ 36 sizes refl, (answered _ _ 2048 tt refl, (answered _ _ 2048 tt refl, (answered _ _ 2048 tt refl, (answered _ _ 2048 tt refl, (answered _ _ 41 sizes refl, (answered _ _ 41 sizes refl, (answered _ _ 342 tt refl, (answered _ _ 342 tt refl, (answered _ _ 342 tt refl, (answered _ _ 62 sizes refl, (answered _ _ 1514 sizes refl, (possible, (answered _ _ 100 tt refl, (answered _ _ 100 tt refl, tt)))))))))))))))))))
