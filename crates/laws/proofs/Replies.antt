-- What stands in the buffer where the answer is 1: read by its fields it is the reply that the RFCs ask for, and the next one on IPv4 carries the next id.
use Prim.Native.Nat.{ℕ, ◌+◌, ◌%◌, ◌≤◌, ◌<◌}
use mathlib.Core.Path.{◌≡◌, ap, sym, subst, ◌∙◌}
use mathlib.Core.List.{List, [], ◌∷◌}
use native.Mathlib.Omega.{arith}
use lib.ListN.{length, take, drop}
use Rattle.record.specs.Guest.{Sized}
use Rattle.wire.specs.Rfc791.{identification, source_of}
use Rattle.wire.specs.Rfc894.{body, source_mac, type_of}
use Rattle.record.specs.Answer.{paper, Meets}
use Rattle.record.specs.declared.answer.Answer.{Answer}
use Rattle.record.specs.declared.guest.Guest.{Guest}
use Rattle.record.specs.declared.network.Network.{Network}
use Rattle.wire.specs.Rfc792.{echo}
use Rattle.rules.specs.Rules.{decision, outcome}
use Rattle.std.specs.Prelude.{Result, Ok, Err}
use Rattle.record.specs.declared.answer.Refusal.{Refusal}
use Rattle.rules.specs.declared.decision.Decision.{Decision}
use Rattle.rules.specs.declared.decision.Decision.TheVariants.{Drop, DropNoting, ArpReply, EchoReply, DhcpReply, Dns, Relay, Tcp}
use Rattle.rules.proofs.Says.{Says, says}
use Rattle.arp_reply.proofs.ReadBack.{AnswersArp, arp_reads_back}
use Rattle.echo_reply.proofs.ReadBack.{AnswersEcho, echo_reads_back, echo_frame_reads_back}
use Rattle.frames.proofs.ReadBack.{FrameOf}
use Rattle.dhcp_reply.proofs.FrameReadBack.{AnswersDhcp, dhcp_reads_back}
use Rattle.laws.specs.Table.{built, reply_at_ample_room}
use Rattle.laws.proofs.Demand1.{on_one}
use Rattle.record.proofs.Changes.{still_sized}

-- what a reply is, by the decision behind it; the other decisions build none
pub Reads : Guest → (frame reply : List ℕ) → Result Decision Refusal → Type 0
Reads guest frame reply (Ok ArpReply) = AnswersArp reply guest.network frame
Reads guest frame reply (Ok (EchoReply start)) =
    FrameOf reply (source_mac frame) guest.network.gateway (source_of (body frame)) guest.id 1 (echo (drop start frame)) × AnswersEcho (drop 34 reply) (drop start frame)
Reads guest frame reply (Ok (DhcpReply xid type)) = AnswersDhcp reply guest frame xid type
Reads guest frame reply (Ok Drop) = Unit
Reads guest frame reply (Ok (DropNoting xid)) = Unit
Reads guest frame reply (Ok (Dns start len)) = Unit
Reads guest frame reply (Ok (Relay start len)) = Unit
Reads guest frame reply (Ok (Tcp len)) = Unit
Reads guest frame reply (Err refusal) = Unit

module _ (guest : Guest) (frame : List ℕ) (sized : Sized guest) where
  abbrev net : Network
  net = guest.network

  built_reads : (d : Result Decision Refusal) → Says net frame d → Reads guest frame (built guest frame d) d
  unfolding Reads Says
  built_reads (Ok ArpReply) s = arp_reads_back net frame sized.network.gateway
  built_reads (Ok (EchoReply start)) s =
      let f = echo_frame_reads_back net guest.id frame (echo (drop start frame)) sized.network.gateway in
      let eight = subst (λ (n : ℕ). 8 ≤ length (drop n frame)) (sym s.1) s.0.whole in
      (f, rw f.carried (echo_reads_back (drop start frame) (omega (arith, eight))))
  built_reads (Ok (DhcpReply xid type)) s = dhcp_reads_back guest frame xid type sized
  built_reads (Ok Drop) s = tt
  built_reads (Ok (DropNoting xid)) s = tt
  built_reads (Ok (Dns start len)) s = tt
  built_reads (Ok (Relay start len)) s = tt
  built_reads (Ok (Tcp len)) s = tt
  built_reads (Err refusal) s = tt

  -- the id of a reply to an IPv4 frame
  built_id : (d : Result Decision Refusal) → Says net frame d → 0 < length (built guest frame d) → type_of frame ≡ 0x0800
      → identification (body (built guest frame d)) ≡ guest.id
  unfolding Says
  built_id (Ok ArpReply) s p t = absurd (omega (arith, t, s.0))
  built_id (Ok (EchoReply start)) s p t = (echo_frame_reads_back net guest.id frame (echo (drop start frame)) sized.network.gateway).packet.id_is
  built_id (Ok (DhcpReply xid type)) s p t = (dhcp_reads_back guest frame xid type sized).framed.packet.id_is
  built_id (Ok Drop) s p t = absurd (omega arith)
  built_id (Ok (DropNoting xid)) s p t = absurd (omega arith)
  built_id (Ok (Dns start len)) s p t = absurd (omega arith)
  built_id (Ok (Relay start len)) s p t = absurd (omega arith)
  built_id (Ok (Tcp len)) s p t = absurd (omega arith)
  built_id (Err refusal) s p t = absurd (omega arith)

  module _ (before after : List ℕ) (answer : Answer) (m : Meets (outcome guest frame (length before)) before after answer) (n : ℕ) (one : paper answer.verdict ≡ 1 ∷ n ∷ []) where
    its_bytes : take n after ≡ built guest frame (decision net frame)
    unfolding reply_at_ample_room
    its_bytes = (on_one guest frame before after answer sized m n one).1.3

    -- the first n bytes of the buffer, read by their fields
    pub reply_reads_back : Reads guest frame (take n after) (decision net frame)
    reply_reads_back = rw its_bytes (built_reads (decision net frame) (says net frame))

    -- a reply to an IPv4 frame carries the record's id
    pub carries_id : type_of frame ≡ 0x0800 → identification (body (take n after)) ≡ guest.id
    unfolding reply_at_ample_room
    carries_id t =
        let o = (on_one guest frame before after answer sized m n one).1 in
        rw its_bytes (built_id (decision net frame) (says net frame) (omega (arith, o.0, o.1)) t)

-- the second of two replies to IPv4 frames of a guest carries the next id; 65,535 goes to 0
pub next_id : (guest : Guest) (frame frame' before after before' after' : List ℕ) (answer answer' : Answer) (n n' : ℕ) → Sized guest
    → Meets (outcome guest frame (length before)) before after answer → paper answer.verdict ≡ 1 ∷ n ∷ [] → type_of frame ≡ 0x0800
    → Meets (outcome answer.guest frame' (length before')) before' after' answer' → paper answer'.verdict ≡ 1 ∷ n' ∷ [] → type_of frame' ≡ 0x0800
    → identification (body (take n' after')) ≡ (identification (body (take n after)) + 1) % 65536
next_id guest frame frame' before after before' after' answer answer' n n' sized m one t m' one' t' =
    let c = (on_one guest frame before after answer sized m n one).0 in
    let sized' = still_sized c.settled sized in
    carries_id answer.guest frame' sized' before' after' answer' m' n' one' t'
    ∙ c.ipv4_takes_id t
    ∙ ap (λ (k : ℕ). (k + 1) % 65536) (sym (carries_id guest frame sized before after answer m n one t))
