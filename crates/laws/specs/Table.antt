-- Document 01's table of verdicts ("Verdict numbers"), its columns "Returned" and "Changed" as what has to hold of an answer.
use Rattle.std.specs.Prelude.{ℕ, ◌+◌, ◌%◌, ◌≤◌, ◌<◌, ◌≡◌, List, [], length, take, drop, Result, Ok, Err}
use Rattle.wire.specs.Rfc791.{protocol_of}
use Rattle.wire.specs.Rfc894.{body, type_of}
use Rattle.wire.specs.Rfc2131.{transaction_id}
use Rattle.record.specs.declared.guest.Guest.{Guest}
use Rattle.record.specs.declared.answer.Verdict.{Verdict}
use Rattle.record.specs.declared.answer.Verdict.TheVariants.{Drop, Reply, Dns, Relay, Tcp}
use Rattle.record.specs.declared.answer.Refusal.TheVariants.{NoRoom, TooLong, CutType}
use Rattle.echo_reply.specs.Reply.{echo_frame}
use Rattle.arp_reply.specs.Reply.{arp_reply_lem}
use Rattle.dhcp_reply.specs.Reply.{dhcp_frame}
use Rattle.rules.specs.Rules.{datagram_data, decision}
use Rattle.record.specs.Guest.{Settled, noting}
use Rattle.rules.specs.Seen.{Message, CutMessage, Query, Outbound, TooLongPing, Segment}
use Rattle.record.specs.declared.answer.Refusal.{Refusal}
use Rattle.rules.specs.declared.decision.Decision.{Decision}
use Rattle.rules.specs.declared.decision.Decision.TheVariants.{DropNoting, ArpReply, EchoReply, DhcpReply}

-- the frame that a decision builds; `[]` where it builds none, or refuses
abbrev pub built : Guest → (frame : List ℕ) → Result Decision Refusal → List ℕ
built guest frame (Ok ArpReply) = arp_reply_lem guest.network frame
built guest frame (Ok (EchoReply start)) = echo_frame guest frame start
built guest frame (Ok (DhcpReply xid type)) = dhcp_frame guest frame xid type
built guest frame (Ok Decision.Drop) = []
built guest frame (Ok (DropNoting xid)) = []
built guest frame (Ok (Decision.Dns start len)) = []
built guest frame (Ok (Decision.Relay start len)) = []
built guest frame (Ok (Decision.Tcp len)) = []
built guest frame (Err refusal) = []

-- the reply to a frame where there is room; `[]` where it gets none
unfoldable pub reply_at_ample_room : Guest → (frame : List ℕ) → List ℕ
reply_at_ample_room guest frame = built guest frame (decision guest.network frame)

-- The column "Returned", row by row: the numbers, and what they say of the frame, the room and the buffer afterwards.
abbrev pub Returned : Guest → (frame before after : List ℕ) → Result Verdict Refusal → Type 0
Returned guest frame before after (Ok Drop) = Unit
Returned guest frame before after (Ok (Reply n)) =
    (0 < n) × (n ≡ length (reply_at_ample_room guest frame)) × (n ≤ length before) × (take n after ≡ reply_at_ample_room guest frame)
Returned guest frame before after (Ok (Dns start len)) = Query guest.network frame start len
Returned guest frame before after (Ok (Relay start len)) = Outbound guest.network frame start len
Returned guest frame before after (Ok (Tcp len)) = Segment frame len
Returned guest frame before after (Err (NoRoom needed)) = (needed ≡ length (reply_at_ample_room guest frame)) × (length before < needed)
Returned guest frame before after (Err (TooLong len)) = TooLongPing guest.network frame len
Returned guest frame before after (Err (CutType place)) = CutMessage frame place

-- "nothing"
pub record Unchanged (guest next : Guest) (before after : List ℕ) : Type 0 where
  pub kept : next ≡ guest
  pub untouched : after ≡ before

-- 0: "at most xid", and that of a DHCP message alone
pub data XidAtMost (frame : List ℕ) (guest next : Guest) : Type 0 where
  kept : next ≡ guest → XidAtMost frame guest next
  noted : (xid : ℕ) → Message frame xid → next ≡ noting xid guest → XidAtMost frame guest next

pub record AtMostXid (frame : List ℕ) (guest next : Guest) (before after : List ℕ) : Type 0 where
  pub kept_but_xid : XidAtMost frame guest next
  pub untouched : after ≡ before

-- 1: "first n reply bytes; id on IPv4; xid on DHCP"
pub record ReplyBytesIdXid (frame : List ℕ) (n : ℕ) (guest next : Guest) (before after : List ℕ) : Type 0 where
  pub rest_untouched : drop n after ≡ drop n before
  pub settled : Settled guest next
  pub arp_or_ipv4 : (type_of frame ≡ 0x0806 → ⊥) → type_of frame ≡ 0x0800
  pub arp_keeps_all : type_of frame ≡ 0x0806 → next ≡ guest
  pub ipv4_takes_id : type_of frame ≡ 0x0800 → next.id ≡ (guest.id + 1) % 65536
  pub xid_kept_but_on_dhcp : (protocol_of (body frame) ≡ 17 → ⊥) → next.xid ≡ guest.xid
  pub dhcp_takes_xid : type_of frame ≡ 0x0800 → protocol_of (body frame) ≡ 17 → next.xid ≡ transaction_id (datagram_data frame)

-- The column "Changed", row by row.
abbrev pub Changed : (frame : List ℕ) → Result Verdict Refusal → (guest next : Guest) (before after : List ℕ) → Type 0
Changed frame (Ok Drop) guest next before after = AtMostXid frame guest next before after
Changed frame (Ok (Reply n)) guest next before after = ReplyBytesIdXid frame n guest next before after
Changed frame (Ok (Dns start len)) guest next before after = Unchanged guest next before after
Changed frame (Ok (Relay start len)) guest next before after = Unchanged guest next before after
Changed frame (Ok (Tcp len)) guest next before after = Unchanged guest next before after
Changed frame (Err refusal) guest next before after = Unchanged guest next before after
