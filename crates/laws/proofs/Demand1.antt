-- Demand 1, of whatever meets the contract of `handle`: one answer of the numbers 0 to 7, what it says and what it changes, by the
-- decision behind it. "Exactly" is said of 1, 4, 5 and 6; of the others the contract says it.
use Prim.Native.Nat.{ℕ, ◌+◌, ◌≤◌, ◌<◌}
use mathlib.Core.Path.{◌≡◌, refl, ap, sym, subst, ◌∙◌}
use mathlib.Core.List.{List, [], ◌∷◌, ◌++◌}
use native.Mathlib.Omega.{arith}
use borrow.Author.Tests.{ltb-true, ltb-false}
use lib.Dec.{ltb}
use lib.ListN.{length, get_or, take, drop}
use lib.Seq.{take-append_seam, drop-append_seam}
use Rattle.record.specs.Answer.{paper, Meets}
use Rattle.record.specs.Guest.{Settled, Sized, spent}
use Rattle.record.specs.declared.answer.Answer.{Answer}
use Rattle.record.specs.declared.guest.Guest.{Guest}
use Rattle.record.specs.declared.answer.Verdict.{Verdict}
use Rattle.record.specs.declared.network.Network.{Network}
use Rattle.record.proofs.OneAnswer.{paper_one_to_one}
use Rattle.wire.specs.Rfc792.{echo}
use Rattle.rules.specs.Rules.{payload_at_lem, payload, decision, outcome, outcome_of}
use Rattle.record.specs.Answer.{framing, unwritten}
use Rattle.record.specs.Guest.{noting}
use Rattle.rules.specs.Seen.{Carries, CutMessage, Query, Outbound, EchoAsked, TooLongPing, Segment}
use Rattle.std.specs.Prelude.{Result, Ok, Err}
use Rattle.record.specs.declared.answer.Refusal.{Refusal}
use Rattle.record.specs.declared.answer.Refusal.TheVariants.{NoRoom, TooLong, CutType}
use Rattle.rules.specs.declared.decision.Decision.{Decision}
use Rattle.rules.specs.declared.decision.Decision.TheVariants.{Drop, DropNoting, ArpReply, EchoReply, DhcpReply, Dns, Relay, Tcp}
use Rattle.rules.proofs.Settled.{outcome_settled}
use Rattle.rules.proofs.Says.{Says, says, tcp_decided, echo_answered, too_long_decided}
use Rattle.echo_reply.proofs.Echo.{length_echo}
use Rattle.arp_reply.proofs.ReadBack.{arp_reads_back}
use Rattle.echo_reply.proofs.ReadBack.{echo_frame_reads_back}
use Rattle.dhcp_reply.proofs.FrameReadBack.{dhcp_reads_back}
use Rattle.laws.specs.Table.{built, reply_at_ample_room, Returned, Unchanged, kept, noted, AtMostXid, ReplyBytesIdXid, Changed}
use Rattle.base.proofs.Choice.{by_test}

-- every answer has a number, and it is one of 0 to 7 (where there were none, this would read 8)
pub numbered : (v : Result Verdict Refusal) → get_or (paper v) 0 8 ≤ 7
unfolding paper
numbered (Ok Verdict.Drop) = omega arith
numbered (Ok (Verdict.Reply n)) = omega arith
numbered (Ok (Verdict.Dns start len)) = omega arith
numbered (Ok (Verdict.Relay start len)) = omega arith
numbered (Ok (Verdict.Tcp n)) = omega arith
numbered (Err (NoRoom needed)) = omega arith
numbered (Err (TooLong len)) = omega arith
numbered (Err (CutType place)) = omega arith

-- a frame that is to be built: 5 with less room than it needs, else 1
data Framed (guest next : Guest) (image before after : List ℕ) (answer : Answer) : Type 0 where
  short : length before < length image → answer.verdict ≡ Err (NoRoom (length image)) → answer.guest ≡ guest → after ≡ before → Framed guest next image before after answer
  fits : 0 < length image → length image ≤ length before → answer.verdict ≡ Ok (Verdict.Reply (length image)) → answer.guest ≡ next → after ≡ image ++ drop (length image) before → Framed guest next image before after answer

framed : (guest next : Guest) (need : ℕ) (image before after : List ℕ) (answer : Answer) → length image ≡ need → 0 < need
    → Meets (framing guest next need (length before) image) before after answer → Framed guest next image before after answer
unfolding framing paper
framed guest next need image before after answer e p m =
    by_test (ltb (length before) need)
    (λ f.
    let m' = rw f at m in
    short (omega (arith, ltb-true (length before) need f, e)) (paper_one_to_one _ (Err (NoRoom (length image))) (m'.wrote.numbers ∙ ap (λ (n : ℕ). 5 ∷ n ∷ []) (sym e))) m'.guest m'.wrote.bytes)
    (λ f.
    let m' = rw f at m in
    fits (omega (arith, e, p)) (omega (arith, ltb-false (length before) need f, e)) (paper_one_to_one _ (Ok (Verdict.Reply (length image))) (m'.wrote.numbers ∙ ap (λ (n : ℕ). 1 ∷ n ∷ []) (sym e))) m'.guest m'.wrote.bytes)

-- whatever the answer, MAC and network are as they were
pub settled : (guest : Guest) (frame before after : List ℕ) (answer : Answer) → Meets (outcome guest frame (length before)) before after answer → Settled guest answer.guest
settled guest frame before after answer m = subst (Settled guest) (sym m.guest) (outcome_settled guest frame (length before))

-- nothing is written
record Quiet (v : Result Verdict Refusal) (next : Guest) (before after : List ℕ) (answer : Answer) : Type 0 where
  verdict_is : answer.verdict ≡ v
  guest_is : answer.guest ≡ next
  untouched : after ≡ before

module _ (guest : Guest) (frame before after : List ℕ) (answer : Answer) where
  abbrev net : Network
  net = guest.network

  -- the answer, by the decision behind it
  Came : Result Decision Refusal → Type 0
  Came (Ok Drop) = Quiet (Ok Verdict.Drop) guest before after answer
  Came (Ok (DropNoting xid)) = Quiet (Ok Verdict.Drop) (noting xid guest) before after answer
  Came (Ok ArpReply) = Framed guest guest (built guest frame (Ok ArpReply)) before after answer
  Came (Ok (EchoReply start)) = Framed guest (spent guest) (built guest frame (Ok (EchoReply start))) before after answer
  Came (Ok (DhcpReply xid type)) = Framed guest (spent (noting xid guest)) (built guest frame (Ok (DhcpReply xid type))) before after answer
  Came (Ok (Dns start len)) = Quiet (Ok (Verdict.Dns start len)) guest before after answer
  Came (Ok (Relay start len)) = Quiet (Ok (Verdict.Relay start len)) guest before after answer
  Came (Ok (Tcp len)) = Quiet (Ok (Verdict.Tcp len)) guest before after answer
  Came (Err refusal) = Quiet (Err refusal) guest before after answer

  quiet : (v : Result Verdict Refusal) (next : Guest) → Meets (unwritten (paper v) next) before after answer → Quiet v next before after answer
  quiet v next m = record { verdict_is = paper_one_to_one _ v m.wrote.numbers; guest_is = m.guest; untouched = m.wrote.bytes }

  module _ (sized : Sized guest) where
    came : (d : Result Decision Refusal) → Says net frame d → Meets (outcome_of guest frame (length before) d) before after answer → Came d
    unfolding Came outcome_of Says paper
    came (Ok Drop) s m = quiet (Ok Verdict.Drop) guest m
    came (Ok (DropNoting xid)) s m = quiet (Ok Verdict.Drop) (noting xid guest) m
    came (Ok ArpReply) s m = framed guest guest 42 _ before after answer (arp_reads_back net frame sized.network.gateway).long (omega arith) m
    came (Ok (EchoReply start)) s m =
        let eight = subst (λ (n : ℕ). 8 ≤ length (drop n frame)) (sym s.1) s.0.whole in
        framed guest (spent guest) _ _ before after answer
        ((echo_frame_reads_back net guest.id frame (echo (drop start frame)) sized.network.gateway).long ∙ ap (λ (n : ℕ). 34 + n) (length_echo (drop start frame) (omega (arith, eight)))) (omega arith) m
    came (Ok (DhcpReply xid type)) s m = framed guest (spent (noting xid guest)) 342 _ before after answer (dhcp_reads_back guest frame xid type sized).long (omega arith) m
    came (Ok (Dns start len)) s m = quiet (Ok (Verdict.Dns start len)) guest m
    came (Ok (Relay start len)) s m = quiet (Ok (Verdict.Relay start len)) guest m
    came (Ok (Tcp len)) s m = quiet (Ok (Verdict.Tcp len)) guest m
    came (Err (NoRoom needed)) s m = quiet (Err (NoRoom needed)) guest m
    came (Err (TooLong len)) s m = quiet (Err (TooLong len)) guest m
    came (Err (CutType place)) s m = quiet (Err (CutType place)) guest m

  -- what a quiet answer changes
  unchanged : (v : Result Verdict Refusal) → Quiet v guest before after answer → Unchanged guest answer.guest before after
  unchanged v q = record { kept = q.guest_is; untouched = q.untouched }

  -- what a frame that is to be built changes: nothing on 5
  framed_changed : (next : Guest) (image : List ℕ) → (drop (length image) after ≡ drop (length image) before → answer.guest ≡ next → ReplyBytesIdXid frame (length image) guest answer.guest before after)
      → Framed guest next image before after answer → Changed frame answer.verdict guest answer.guest before after
  framed_changed next image f (short r v g b) = subst (λ (x : Result Verdict Refusal). Changed frame x guest answer.guest before after) (sym v) (record { kept = g; untouched = b })
  framed_changed next image f (fits p r v g b) =
      subst (λ (x : Result Verdict Refusal). Changed frame x guest answer.guest before after) (sym v)
      (f (ap (drop (length image)) b ∙ drop-append_seam image (drop (length image) before)) g)

  at : {v : Result Verdict Refusal} → answer.verdict ≡ v → Changed frame v guest answer.guest before after → Changed frame answer.verdict guest answer.guest before after
  at e = subst (λ (x : Result Verdict Refusal). Changed frame x guest answer.guest before after) (sym e)

  told : {v : Result Verdict Refusal} → answer.verdict ≡ v → Returned guest frame before after v → Returned guest frame before after answer.verdict
  told e = subst (λ (x : Result Verdict Refusal). Returned guest frame before after x) (sym e)

  changed_by : (d : Result Decision Refusal) → Says net frame d → Came d → Changed frame answer.verdict guest answer.guest before after
  unfolding Came Says
  changed_by (Ok Drop) s c = at c.verdict_is (record { kept_but_xid = kept c.guest_is; untouched = c.untouched })
  changed_by (Ok (DropNoting xid)) s c = at c.verdict_is (record { kept_but_xid = noted xid s c.guest_is; untouched = c.untouched })
  changed_by (Ok ArpReply) s c =
      framed_changed guest (built guest frame (Ok ArpReply))
      (λ rest g.
      record {
        rest_untouched = rest;
        settled = record { mac_kept = ap (λ (x : Guest). x.mac) g; network_kept = ap (λ (x : Guest). x.network) g };
        arp_or_ipv4 = λ n. absurd (n s.0);
        arp_keeps_all = λ t. g;
        ipv4_takes_id = λ t. absurd (omega (arith, t, s.0));
        xid_kept_but_on_dhcp = λ p. ap (λ (x : Guest). x.xid) g;
        dhcp_takes_xid = λ t p. absurd (omega (arith, t, s.0));
      })
      c
  changed_by (Ok (EchoReply start)) s c =
      framed_changed (spent guest) (built guest frame (Ok (EchoReply start)))
      (λ rest g.
      record {
        rest_untouched = rest;
        settled = record { mac_kept = ap (λ (x : Guest). x.mac) g; network_kept = ap (λ (x : Guest). x.network) g };
        arp_or_ipv4 = λ n. s.0.icmp.ipv4;
        arp_keeps_all = λ t. absurd (omega (arith, t, s.0.icmp.ipv4));
        ipv4_takes_id = λ t. ap (λ (x : Guest). x.id) g;
        xid_kept_but_on_dhcp = λ p. ap (λ (x : Guest). x.xid) g;
        dhcp_takes_xid = λ t p. absurd (omega (arith, p, s.0.icmp.carried));
      })
      c
  changed_by (Ok (DhcpReply xid type)) s c =
      framed_changed (spent (noting xid guest)) (built guest frame (Ok (DhcpReply xid type)))
      (λ rest g.
      record {
        rest_untouched = rest;
        settled = record { mac_kept = ap (λ (x : Guest). x.mac) g; network_kept = ap (λ (x : Guest). x.network) g };
        arp_or_ipv4 = λ n. s.0.datagram.udp.ipv4;
        arp_keeps_all = λ t. absurd (omega (arith, t, s.0.datagram.udp.ipv4));
        ipv4_takes_id = λ t. ap (λ (x : Guest). x.id) g;
        xid_kept_but_on_dhcp = λ p. absurd (p s.0.datagram.udp.carried);
        dhcp_takes_xid = λ t p. ap (λ (x : Guest). x.xid) g ∙ s.0.its_xid;
      })
      c
  changed_by (Ok (Dns start len)) s c = at c.verdict_is (unchanged (Ok (Verdict.Dns start len)) c)
  changed_by (Ok (Relay start len)) s c = at c.verdict_is (unchanged (Ok (Verdict.Relay start len)) c)
  changed_by (Ok (Tcp len)) s c = at c.verdict_is (unchanged (Ok (Verdict.Tcp len)) c)
  changed_by (Err refusal) s c = at c.verdict_is (unchanged (Err refusal) c)

  -- what a frame that is to be built returns
  framed_returned : (next : Guest) (image : List ℕ) → reply_at_ample_room guest frame ≡ image → Framed guest next image before after answer
      → Returned guest frame before after answer.verdict
  framed_returned next image e (short r v g b) = told v (ap length (sym e), r)
  framed_returned next image e (fits p r v g b) = told v (p, ap length (sym e), r, ap (take (length image)) b ∙ take-append_seam image (drop (length image) before) ∙ sym e)

  returned_by : (d : Result Decision Refusal) → decision net frame ≡ d → Says net frame d → Came d → Returned guest frame before after answer.verdict
  unfolding Came Says reply_at_ample_room
  returned_by (Ok Drop) e s c = told c.verdict_is tt
  returned_by (Ok (DropNoting xid)) e s c = told c.verdict_is tt
  returned_by (Ok ArpReply) e s c = framed_returned guest _ (ap (built guest frame) e) c
  returned_by (Ok (EchoReply start)) e s c = framed_returned (spent guest) _ (ap (built guest frame) e) c
  returned_by (Ok (DhcpReply xid type)) e s c = framed_returned (spent (noting xid guest)) _ (ap (built guest frame) e) c
  returned_by (Ok (Dns start len)) e s c = told c.verdict_is s
  returned_by (Ok (Relay start len)) e s c = told c.verdict_is s
  returned_by (Ok (Tcp len)) e s c = told c.verdict_is s
  returned_by (Err (NoRoom needed)) e s c = absurd s
  returned_by (Err (TooLong len)) e s c = told c.verdict_is s
  returned_by (Err (CutType place)) e s c = told c.verdict_is s

  -- which of 5 and 1 it is, by the room
  record ByRoom : Type 0 where
    none_if_short : length before < length (reply_at_ample_room guest frame) → answer.verdict ≡ Err (NoRoom (length (reply_at_ample_room guest frame)))
    reply_if_fits : 0 < length (reply_at_ample_room guest frame) → length (reply_at_ample_room guest frame) ≤ length before
        → answer.verdict ≡ Ok (Verdict.Reply (length (reply_at_ample_room guest frame)))

  no_reply : reply_at_ample_room guest frame ≡ [] → ByRoom
  no_reply e = let z = ap length e in record { none_if_short = λ r. absurd (omega (arith, z, r)); reply_if_fits = λ p r. absurd (omega (arith, z, p)) }

  framed_by_room : (next : Guest) (image : List ℕ) → reply_at_ample_room guest frame ≡ image → Framed guest next image before after answer → ByRoom
  framed_by_room next image e (short r v g b) =
      let z = ap length e in
      record { none_if_short = λ h. v ∙ ap (λ (n : ℕ). Err (NoRoom n)) (sym z); reply_if_fits = λ p h. absurd (omega (arith, z, h, r)) }
  framed_by_room next image e (fits p r v g b) =
      let z = ap length e in
      record { none_if_short = λ h. absurd (omega (arith, z, h, r)); reply_if_fits = λ p h. v ∙ ap (λ (n : ℕ). Ok (Verdict.Reply n)) (sym z) }

  by_room : (d : Result Decision Refusal) → decision net frame ≡ d → Came d → ByRoom
  unfolding Came reply_at_ample_room
  by_room (Ok ArpReply) e c = framed_by_room guest _ (ap (built guest frame) e) c
  by_room (Ok (EchoReply start)) e c = framed_by_room (spent guest) _ (ap (built guest frame) e) c
  by_room (Ok (DhcpReply xid type)) e c = framed_by_room (spent (noting xid guest)) _ (ap (built guest frame) e) c
  by_room (Ok Drop) e c = no_reply (ap (built guest frame) e)
  by_room (Ok (DropNoting xid)) e c = no_reply (ap (built guest frame) e)
  by_room (Ok (Dns start len)) e c = no_reply (ap (built guest frame) e)
  by_room (Ok (Relay start len)) e c = no_reply (ap (built guest frame) e)
  by_room (Ok (Tcp len)) e c = no_reply (ap (built guest frame) e)
  by_room (Err refusal) e c = no_reply (ap (built guest frame) e)

-- The gateway's promise, for every frame and buffer, and every record whose arrays have the lengths that their types say.
module _ (guest : Guest) (frame before after : List ℕ) (answer : Answer) (sized : Sized guest)
    (m : Meets (outcome guest frame (length before)) before after answer) where
  abbrev its_network : Network
  its_network = guest.network

  it_came : Came guest frame before after answer (decision its_network frame)
  unfolding outcome
  it_came = came guest frame before after answer sized (decision its_network frame) (says its_network frame) m

  -- nothing has changed but what the table names: on 5, 6, 7 and on 2, 3, 4 nothing at all
  pub only_what_is_named : Changed frame answer.verdict guest answer.guest before after
  only_what_is_named = changed_by guest frame before after answer (decision its_network frame) (says its_network frame) it_came

  -- the values returned are the table's
  pub returned_values : Returned guest frame before after answer.verdict
  returned_values = returned_by guest frame before after answer (decision its_network frame) refl (says its_network frame) it_came

  -- the row of the table that the numbers name
  row : (v : Result Verdict Refusal) → paper answer.verdict ≡ paper v → Changed frame v guest answer.guest before after × Returned guest frame before after v
  row v e =
      let same = paper_one_to_one answer.verdict v e in
      (subst (λ (x : Result Verdict Refusal). Changed frame x guest answer.guest before after) same only_what_is_named, subst (λ (x : Result Verdict Refusal). Returned guest frame before after x) same returned_values)

  -- 0 changes at most xid, and that on a DHCP message alone
  pub on_zero : paper answer.verdict ≡ 0 ∷ [] → AtMostXid frame guest answer.guest before after
  unfolding paper
  on_zero e = (row (Ok Verdict.Drop) e).0

  -- 1 with n: the reply's n bytes stand in the buffer's front; id on IPv4, xid on DHCP, and nothing else
  pub on_one : (n : ℕ) → paper answer.verdict ≡ 1 ∷ n ∷ []
      → ReplyBytesIdXid frame n guest answer.guest before after
      × ((0 < n) × (n ≡ length (reply_at_ample_room guest frame)) × (n ≤ length before) × (take n after ≡ reply_at_ample_room guest frame))
  unfolding paper
  on_one n e = row (Ok (Verdict.Reply n)) e

  -- 2 and 3 hand out the part of the frame that is the datagram's data, and change nothing
  pub on_two : (start len : ℕ) → paper answer.verdict ≡ 2 ∷ start ∷ len ∷ [] → Unchanged guest answer.guest before after × Query its_network frame start len
  unfolding paper
  on_two start len e = row (Ok (Verdict.Dns start len)) e

  pub on_three : (start len : ℕ) → paper answer.verdict ≡ 3 ∷ start ∷ len ∷ [] → Unchanged guest answer.guest before after × Outbound its_network frame start len
  unfolding paper
  on_three start len e = row (Ok (Verdict.Relay start len)) e

  -- 4 hands off the whole frame, and changes nothing
  pub on_four : (n : ℕ) → paper answer.verdict ≡ 4 ∷ n ∷ [] → Unchanged guest answer.guest before after × Segment frame n
  unfolding paper
  on_four n e = row (Ok (Verdict.Tcp n)) e

  -- 5 with n: the room is less than n, the reply's length at ample room, and nothing changes
  pub on_five : (n : ℕ) → paper answer.verdict ≡ 5 ∷ n ∷ []
      → Unchanged guest answer.guest before after × ((n ≡ length (reply_at_ample_room guest frame)) × (length before < n))
  unfolding paper
  on_five n e = row (Err (NoRoom n)) e

  -- 6 with n: a ping to the gateway whose payload has n bytes, more than 65,515, and nothing changes
  pub on_six : (n : ℕ) → paper answer.verdict ≡ 6 ∷ n ∷ [] → Unchanged guest answer.guest before after × TooLongPing its_network frame n
  unfolding paper
  on_six n e = row (Err (TooLong n)) e

  -- 7 with a place: a DHCP message whose type is cut off there, and nothing changes
  pub on_seven : (place : ℕ) → paper answer.verdict ≡ 7 ∷ place ∷ [] → Unchanged guest answer.guest before after × CutMessage frame place
  unfolding paper
  on_seven place e = row (Err (CutType place)) e

  -- and exactly so: a frame is to be built and the room is less than it: 5
  pub five_if_short : length before < length (reply_at_ample_room guest frame) → paper answer.verdict ≡ 5 ∷ length (reply_at_ample_room guest frame) ∷ []
  unfolding paper
  five_if_short r = ap paper ((by_room guest frame before after answer (decision its_network frame) refl it_came).none_if_short r)

  -- a frame is to be built and there is room for it: 1
  pub one_if_room : 0 < length (reply_at_ample_room guest frame) → length (reply_at_ample_room guest frame) ≤ length before
      → paper answer.verdict ≡ 1 ∷ length (reply_at_ample_room guest frame) ∷ []
  unfolding paper
  one_if_room p r = ap paper ((by_room guest frame before after answer (decision its_network frame) refl it_came).reply_if_fits p r)

  -- TCP: 4
  pub four_if_tcp : Carries frame 6 → paper answer.verdict ≡ 4 ∷ length frame ∷ []
  unfolding outcome outcome_of
  four_if_tcp c = (rw (tcp_decided its_network frame c) at m).wrote.numbers

  -- a ping within the length is to get its echo: 1 or 5, by the room
  pub ping_is_to_be_answered : EchoAsked its_network frame → length (payload frame) ≤ 65515
      → reply_at_ample_room guest frame ≡ built guest frame (Ok (EchoReply (payload_at_lem frame)))
  unfolding reply_at_ample_room
  ping_is_to_be_answered a within = ap (built guest frame) (echo_answered its_network frame a within)

  -- a ping past the length: 6, whatever the room, so before 5
  pub six_if_too_long : EchoAsked its_network frame → 65515 < length (payload frame) → paper answer.verdict ≡ 6 ∷ length (payload frame) ∷ []
  unfolding outcome outcome_of
  six_if_too_long a over = (rw (too_long_decided its_network frame a over) at m).wrote.numbers

-- the n of 5 is the n of the same call with room
pub needed_is_n : (guest : Guest) (frame before after before' after' : List ℕ) (answer answer' : Answer) (n : ℕ) → Sized guest
    → Meets (outcome guest frame (length before)) before after answer → paper answer.verdict ≡ 5 ∷ n ∷ []
    → n ≤ length before' → Meets (outcome guest frame (length before')) before' after' answer' → paper answer'.verdict ≡ 1 ∷ n ∷ []
needed_is_n guest frame before after before' after' answer answer' n sized m e r m' =
    let five = (on_five guest frame before after answer sized m n e).1 in
    one_if_room guest frame before' after' answer' sized m' (omega (arith, five.0, five.1)) (omega (arith, five.0, r))
    ∙ ap (λ (k : ℕ). 1 ∷ k ∷ []) (sym five.0)
