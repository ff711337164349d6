-- Every row of the table of marked cases holds, by computation, and so do the cases that are not marked.
use Prim.Native.Nat.{ℕ}
use mathlib.Core.Path.{◌≡◌, refl, subst}
use mathlib.Core.List.{List, [], ◌∷◌, ◌++◌}
use lib.ListN.{length, drop}
use Rattle.datagrams.proofs.ReadBack.{DatagramOf, datagram_reads_back}
use Rattle.dhcp_message.specs.Message.{reply}
use Rattle.options.specs.Rfc2132.{walk, walk_from}
use Rattle.record.specs.Answer.{Meets, Outcome, paper}
use Rattle.record.specs.declared.answer.Answer.{Answer}
use Rattle.record.specs.declared.guest.Guest.{Guest}
use Rattle.wire.specs.Rfc768.{pseudo_header_lem, covered, transmitted, checksum_of, datagram}
use Rattle.wire.specs.Rfc791.{header, header_with_lem}
use Rattle.frames.specs.Frames.{ip_frame}
use Rattle.wire.specs.Rfc792.{echo, echo_with}
use Rattle.arp_reply.specs.Reply.{reply_to}
use Rattle.dhcp_reply.specs.Reply.{dhcp_frame_to}
use Rattle.rules.specs.Rules.{decision, arp_decision, ip_decision, icmp_decision, udp_decision, dhcp_decision, outcome_of, outcome}
use Rattle.record.specs.Answer.{framing}
use Rattle.sums.specs.Rfc1071.{words, sum, total, fold, checksum}
use Rattle.laws.specs.Marked.{Holds, All, call, behind_checksum, its_checksum, dhcp_reply_lem, marked, unmarked, long_ping}

pub marked_hold : All marked
unfolding checksum total words sum fold header header_with_lem ip_frame datagram walk walk_from reply echo echo_with reply_to dhcp_frame_to decision arp_decision ip_decision icmp_decision udp_decision dhcp_decision framing outcome_of outcome
marked_hold = (refl, (refl, (refl, (refl, (refl, (refl, (refl, (refl, (refl, (refl, (refl, (refl, tt))))))))))))

-- D0's last two bytes, which the rows leave out: with them the datagram of a reply, of whatever type, sums right with its pseudo-header, and they aren't 0
pub replies_sum_right : (type : ℕ) → DatagramOf (drop 34 (dhcp_reply_lem type)) (0x0a ∷ 0x00 ∷ 0x02 ∷ 0x02 ∷ []) (0x0a ∷ 0x00 ∷ 0x02 ∷ 0xff ∷ []) 67 68 (behind_checksum type)
unfolding datagram
replies_sum_right type = datagram_reads_back (0x0a ∷ 0x00 ∷ 0x02 ∷ 0x02 ∷ []) (0x0a ∷ 0x00 ∷ 0x02 ∷ 0xff ∷ []) refl refl 67 68 (behind_checksum type)

-- of the offer and the acknowledgement in the table they are those that scapy gives them
pub in_the_rows : (its_checksum 2 ≡ 0x6c ∷ 0xfc ∷ []) × (its_checksum 5 ≡ 0x69 ∷ 0xfc ∷ [])
unfolding checksum_of transmitted covered pseudo_header_lem checksum total words sum fold
in_the_rows = (refl, refl)

pub unmarked_hold : All unmarked
unfolding checksum total words sum fold header header_with_lem ip_frame datagram walk walk_from reply echo echo_with reply_to dhcp_frame_to decision arp_decision ip_decision icmp_decision udp_decision dhcp_decision framing outcome_of outcome
unmarked_hold = (refl, (refl, (refl, (refl, (refl, tt)))))

pub long_ping_lem : long_ping
unfolding decision ip_decision icmp_decision framing outcome_of outcome
long_ping_lem = (refl, refl)

-- and so whatever meets the contract of `handle` on a row's input has answered the row
pub answered_as_in_the_row : (frame : List ℕ) (guest : Guest) (numbers bytes : List ℕ) (next : Guest) (before after : List ℕ) (answer : Answer)
    → Holds (call frame guest (length before) numbers bytes next) → Meets (outcome guest frame (length before)) before after answer
    → (paper answer.verdict ≡ numbers) × (after ≡ bytes ++ drop (length bytes) before) × (answer.guest ≡ next)
answered_as_in_the_row frame guest numbers bytes next before after answer e m =
    let m' = subst (λ (o : Outcome). Meets o before after answer) e m in
    (m'.wrote.numbers, m'.wrote.bytes, m'.guest)
