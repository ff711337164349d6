-- Document 01's "Order of tests on a guest frame", test by test in its order, and what comes of each decision: the verdict, the bytes and
-- the record, for every frame, record and room. Every address is the record's.
use Rattle.std.specs.Prelude.{ℕ, ◌+◌, ◌-◌, ◌&&◌, not, cond, List, [], ◌∷◌, Result, Ok, Err, eqb, ltb, length, drop}
use Rattle.dhcp_message.specs.Message.{answering}
use Rattle.options.specs.Rfc2132.{Walked, typed, cut, walk}
use Rattle.base.specs.Bytes.{part}
use Rattle.wire.specs.Rfc768.{source_port, target_port, length_field}
use Rattle.wire.specs.Rfc791.{header_length_lem, protocol_of, target_of}
use Rattle.wire.specs.Rfc792.{message_type_lem}
use Rattle.wire.specs.Rfc826 as Arp
use Rattle.wire.specs.Rfc894.{body, type_of}
use Rattle.wire.specs.Rfc2131 as Dhcp
use Rattle.record.specs.Answer.{Outcome, unwritten, framing}
use Rattle.record.specs.Guest.{spent, noting}
use Rattle.record.specs.declared.answer.Refusal.{Refusal}
use Rattle.record.specs.declared.answer.Refusal.TheVariants.{NoRoom, TooLong, CutType}
use Rattle.record.specs.declared.guest.Guest.{Guest}
use Rattle.record.specs.declared.network.Network.{Network}
use Rattle.echo_reply.specs.Reply.{echo_frame}
use Rattle.arp_reply.specs.Reply.{arp_reply_lem}
use Rattle.dhcp_reply.specs.Reply.{dhcp_frame}
use Rattle.rules.specs.Same.{same}
use Rattle.rules.specs.declared.decision.Decision.{Decision}
use Rattle.rules.specs.declared.decision.Decision.TheVariants.{Drop, DropNoting, ArpReply, EchoReply, DhcpReply, Dns, Relay, Tcp}

-- "The header length is four times the low four bits of byte 14; the payload runs from there to the end of the frame."
abbrev pub payload_at_lem : (frame : List ℕ) → ℕ
payload_at_lem frame = 14 + header_length_lem (body frame)

abbrev pub payload : (frame : List ℕ) → List ℕ
payload frame = drop (payload_at_lem frame) frame

-- "Data ends at the smaller of length field and payload end", and starts behind the header of 8 bytes
abbrev pub data_end : (datagram : List ℕ) → ℕ
data_end datagram = cond (ltb (length datagram) (length_field datagram)) (length datagram) (length_field datagram)

abbrev pub data_length : (frame : List ℕ) → ℕ
data_length frame = data_end (payload frame) - 8

abbrev pub data_at : (frame : List ℕ) → ℕ
data_at frame = payload_at_lem frame + 8

abbrev pub datagram_data : (frame : List ℕ) → List ℕ
datagram_data frame = part frame (data_at frame) (data_length frame)

-- "ARP: under 42 bytes, operation not 1, or target not 10.0.2.2: drop. Else a reply of 42 bytes." The target is the network's gateway.
unfoldable pub arp_decision : Network → (frame : List ℕ) → Decision
arp_decision net frame =
    cond (ltb (length frame) 42) Drop
    (cond (not (eqb (Arp.operation (body frame)) 1)) Drop
    (cond (not (same (Arp.sought_address (body frame)) net.gateway)) Drop
    ArpReply))

-- "ICMP: target not the gateway: drop. Payload start past the frame: drop (the Rust panics). Payload under 8, or first byte not 8: drop. Payload over 65,515: 6. Else echo"
unfoldable pub icmp_decision : Network → (frame : List ℕ) → Result Decision Refusal
icmp_decision net frame =
    cond (not (same (target_of (body frame)) net.gateway)) (Ok Drop)
    (cond (ltb (length frame) (payload_at_lem frame)) (Ok Drop)
    (cond (ltb (length (payload frame)) 8) (Ok Drop)
    (cond (not (eqb (message_type_lem (payload frame)) 8)) (Ok Drop)
    (cond (ltb 65515 (length (payload frame))) (Err (TooLong (length (payload frame))))
    (Ok (EchoReply (payload_at_lem frame)))))))

-- "Message type 1 gives an offer (2), 3 an acknowledgement (5), any other a drop"; a cut message type: 7
abbrev pub type_decision : (xid : ℕ) → Walked → Result Decision Refusal
type_decision xid (typed type) = cond (eqb (answering type) 0) (Ok (DropNoting xid)) (Ok (DhcpReply xid (answering type)))
type_decision xid (cut place) = Err (CutType place)

-- "DHCP: under 240 bytes or first byte not 1: drop, xid kept. From here xid takes bytes 4 to 7, unless the call is refused. Cookie not 0x63825363: drop."
unfoldable pub dhcp_decision : (message : List ℕ) → Result Decision Refusal
dhcp_decision message =
    cond (ltb (length message) 240) (Ok Drop)
    (cond (not (eqb (Dhcp.operation message) 1)) (Ok Drop)
    (cond (not (eqb (Dhcp.magic_cookie message) 0x63825363)) (Ok (DropNoting (Dhcp.transaction_id message)))
    (type_decision (Dhcp.transaction_id message) (walk message))))

-- "Source 68 and destination 67: DHCP, for any target address. Else target gateway and destination 53: DNS. Else relay."
unfoldable pub udp_decision : Network → (frame : List ℕ) → Result Decision Refusal
udp_decision net frame =
    cond (ltb (length frame) (payload_at_lem frame)) (Ok Drop)  -- "UDP: payload start past the frame: drop (Rust panics)"
    (cond (ltb (length (payload frame)) 8) (Ok Drop)  -- "Payload under 8
    (cond (ltb (length_field (payload frame)) 8) (Ok Drop)  -- or length field under 8: drop"
    (cond (eqb (source_port (payload frame)) 68 && eqb (target_port (payload frame)) 67) (dhcp_decision (datagram_data frame))
    (cond (same (target_of (body frame)) net.gateway && eqb (target_port (payload frame)) 53) (Ok (Dns (data_at frame) (data_length frame)))
    (Ok (Relay (data_at frame) (data_length frame)))))))

-- "IPv4: under 34 bytes: drop. Protocol 1, 6 (handoff, nothing more looked at) or 17; other: drop."
unfoldable pub ip_decision : Network → (frame : List ℕ) → Result Decision Refusal
ip_decision net frame =
    cond (ltb (length frame) 34) (Ok Drop)
    (cond (eqb (protocol_of (body frame)) 1) (icmp_decision net frame)
    (cond (eqb (protocol_of (body frame)) 6) (Ok (Tcp (length frame)))
    (cond (eqb (protocol_of (body frame)) 17) (udp_decision net frame)
    (Ok Drop))))

-- "Under 14 bytes: drop. Type 0x0806: ARP. Type 0x0800: IPv4. Other: drop."
unfoldable pub decision : Network → (frame : List ℕ) → Result Decision Refusal
decision net frame =
    cond (ltb (length frame) 14) (Ok Drop)
    (cond (eqb (type_of frame) 0x0806) (Ok (arp_decision net frame))
    (cond (eqb (type_of frame) 0x0800) (ip_decision net frame)
    (Ok Drop)))

-- what comes of a decision; a refusal changes nothing
unfoldable pub outcome_of : Guest → (frame : List ℕ) (room : ℕ) → Result Decision Refusal → Outcome
outcome_of guest frame room (Ok Drop) = unwritten (0 ∷ []) guest
outcome_of guest frame room (Ok (DropNoting xid)) = unwritten (0 ∷ []) (noting xid guest)
outcome_of guest frame room (Ok ArpReply) = framing guest guest 42 room (arp_reply_lem guest.network frame)
outcome_of guest frame room (Ok (EchoReply start)) =
    framing guest (spent guest) (34 + length (drop start frame)) room (echo_frame guest frame start)
outcome_of guest frame room (Ok (DhcpReply xid type)) = framing guest (spent (noting xid guest)) 342 room (dhcp_frame guest frame xid type)
outcome_of guest frame room (Ok (Dns start len)) = unwritten (2 ∷ start ∷ len ∷ []) guest
outcome_of guest frame room (Ok (Relay start len)) = unwritten (3 ∷ start ∷ len ∷ []) guest
outcome_of guest frame room (Ok (Tcp len)) = unwritten (4 ∷ len ∷ []) guest
outcome_of guest frame room (Err (NoRoom needed)) = unwritten (5 ∷ needed ∷ []) guest
outcome_of guest frame room (Err (TooLong len)) = unwritten (6 ∷ len ∷ []) guest
outcome_of guest frame room (Err (CutType place)) = unwritten (7 ∷ place ∷ []) guest

-- what comes of a frame
unfoldable pub outcome : Guest → (frame : List ℕ) (room : ℕ) → Outcome
outcome guest frame room = outcome_of guest frame room (decision guest.network frame)
