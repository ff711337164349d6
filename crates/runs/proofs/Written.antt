-- What a call writes, by what its contract promises: nothing, an IPv4 frame that carries the record's id, or an ARP reply; and that the bytes built are those that are to come.
use Prim.Native.Nat.{ℕ, ◌+◌, ◌%◌, ◌≤◌}
use mathlib.Core.Bool.{Bool, true, false, cond}
use mathlib.Core.Path.{◌≡◌, refl, ap, sym, subst, ◌∙◌}
use mathlib.Core.List.{List, [], ◌∷◌, ◌++◌}
use native.Mathlib.Omega.{arith}
use borrow.Author.Tests.{eq-eqb, ne_eqb, ltb-false}
use lib.Dec.{ltb}
use lib.ListN.{length, take, drop, get_or, length-take, length-drop}
use lib.Seq.{take_at, get_or-drop}
use Rattle.arp_reply.proofs.ReadBack.{arp_reads_back}
use Rattle.base.proofs.Choice.{by_test}
use Rattle.base.specs.Bytes.{part}
use Rattle.dhcp_reply.proofs.FrameReadBack.{dhcp_reads_back}
use Rattle.echo_reply.proofs.Echo.{length_echo}
use Rattle.echo_reply.proofs.ReadBack.{echo_frame_reads_back}
use Rattle.frames.proofs.ReadBack.{frame_of}
use Rattle.record.specs.Answer.{paper, Outcome, Meets, framing, spending, building}
use Rattle.record.specs.Guest.{Sized, spent, noting}
use Rattle.record.specs.declared.answer.Answer.{Answer}
use Rattle.record.specs.declared.guest.Guest.{Guest}
use Rattle.rules.proofs.Says.{Says, says}
use Rattle.rules.specs.Rules.{decision, outcome, outcome_of}
use Rattle.std.specs.Prelude.{Result, Ok, Err}
use Rattle.record.specs.declared.answer.Refusal.{Refusal}
use Rattle.record.specs.declared.answer.Refusal.TheVariants.{NoRoom, TooLong, CutType}
use Rattle.rules.specs.declared.decision.Decision.{Decision}
use Rattle.rules.specs.declared.decision.Decision.TheVariants.{Drop, DropNoting, ArpReply, EchoReply, DhcpReply, Dns, Relay, Tcp}
use Rattle.tcp.proofs.TcpLaws.{length_tcp_frame}
use Rattle.tcp.specs.Builders.{data_limit_lem}
use Rattle.tcp.specs.Rfc9293.{options, segment, tcp_frame}
use Rattle.wire.specs.Rfc791.{identification}
use Rattle.wire.specs.Rfc792.{echo}
use Rattle.wire.specs.Rfc894.{body, type_of}
use Rattle.runs.specs.Calls.{Asked, handling, making_ip_frame, making_ip_frame_in_place, making_tcp_frame, promised, SizedArrays, bytes_built}
use Rattle.runs.specs.Ids.{id_in, asks_by_arp}

-- bytes 18 and 19 of a frame are its packet's identification (RFC 791)
pub id_is_identification : (frame : List ℕ) → id_in frame ≡ identification (body frame)
id_is_identification frame = simp get_or-drop

-- what is to come of a call: nothing written and the id kept; or on 1 an IPv4 frame with the id, which then grows by 1; or an ARP reply, and the id is kept
pub data Comes (asked : Asked) (id : ℕ) (o : Outcome) : Type 0 where
  nothing : (get_or o.writing.numbers 0 0 ≡ 1 → ⊥) → o.writing.image ≡ [] → o.guest.id ≡ id → Comes asked id o
  ipv4 : o.writing.numbers ≡ 1 ∷ length o.writing.image ∷ [] → asks_by_arp asked ≡ false → 34 ≤ length o.writing.image → type_of o.writing.image ≡ 0x0800
      → id_in o.writing.image ≡ id → o.guest.id ≡ (id + 1) % 65536 → Comes asked id o
  arp : o.writing.numbers ≡ 1 ∷ length o.writing.image ∷ [] → asks_by_arp asked ≡ true → type_of o.writing.image ≡ 0x0806
      → o.guest.id ≡ id → Comes asked id o

module _ (asked : Asked) (guest : Guest) where
  -- an IPv4 frame is to be built, and there is room or not
  framed : (next : Guest) (need room : ℕ) (image : List ℕ) → (need ≤ room → length image ≡ need) → asks_by_arp asked ≡ false
      → 34 ≤ length image → type_of image ≡ 0x0800 → identification (body image) ≡ guest.id → next.id ≡ (guest.id + 1) % 65536 → Comes asked guest.id (framing guest next need room image)
  unfolding framing
  framed next need room image long no-arp whole type id moved =
      by_test (ltb room need)
      (λ e. rw e (nothing (λ z. absurd (omega (arith, z))) refl refl))
      (λ e. rw e (ipv4 (ap (λ (n : ℕ). 1 ∷ n ∷ []) (sym (long (ltb-false room need e)))) no-arp whole type (id_is_identification image ∙ id) moved))

  -- the same of a call that may refuse the length first
  spends : (limit len need room : ℕ) (image : List ℕ) → (need ≤ room → length image ≡ need) → asks_by_arp asked ≡ false
      → 34 ≤ length image → type_of image ≡ 0x0800 → identification (body image) ≡ guest.id → Comes asked guest.id (spending guest limit len need room image)
  unfolding spending building
  spends limit len need room image long no-arp whole type id =
      by_test (ltb limit len)
      (λ e. rw e (nothing (λ z. absurd (omega (arith, z))) refl refl))
      (λ e.
      by_test (ltb room need)
      (λ f. rw (e, f) (nothing (λ z. absurd (omega (arith, z))) refl refl))
      (λ f. rw (e, f) (ipv4 (ap (λ (n : ℕ). 1 ∷ n ∷ []) (sym (long (ltb-false room need f)))) no-arp whole type (id_is_identification image ∙ id) refl)))

  -- an ARP reply
  answered_arp : (need room : ℕ) (image : List ℕ) → length image ≡ need → asks_by_arp asked ≡ true → type_of image ≡ 0x0806 → Comes asked guest.id (framing guest guest need room image)
  unfolding framing
  answered_arp need room image long yes-arp type =
      by_test (ltb room need)
      (λ e. rw e (nothing (λ z. absurd (omega (arith, z))) refl refl))
      (λ e. rw e (arp (ap (λ (n : ℕ). 1 ∷ n ∷ []) (sym long)) yes-arp type refl))

-- of a guest's frame, by the decision on it
handled : (guest : Guest) (frame : List ℕ) (room : ℕ) → Sized guest → (d : Result Decision Refusal) → Says guest.network frame d
    → Comes (handling frame) guest.id (outcome_of guest frame room d)
unfolding outcome_of Says
handled guest frame room sized (Ok Drop) s = nothing (λ z. absurd (omega (arith, z))) refl refl
handled guest frame room sized (Ok (DropNoting xid)) s = nothing (λ z. absurd (omega (arith, z))) refl refl
handled guest frame room sized (Ok ArpReply) s =
    let r = arp_reads_back guest.network frame sized.network.gateway in
    answered_arp (handling frame) guest 42 room _ r.long (eq-eqb (type_of frame) 0x0806 s.0) r.type
handled guest frame room sized (Ok (EchoReply start)) s =
    let f = echo_frame_reads_back guest.network guest.id frame (echo (drop start frame)) sized.network.gateway in
    let eight = subst (λ (n : ℕ). 8 ≤ length (drop n frame)) (sym s.1) s.0.whole in
    framed (handling frame) guest (spent guest) (34 + length (drop start frame)) room _
    (λ fits. f.long ∙ ap (λ (n : ℕ). 34 + n) (length_echo (drop start frame) (omega (arith, eight))))
    (ne_eqb (type_of frame) 0x0806 (λ e. omega (arith, e, s.0.icmp.ipv4))) (omega (arith, f.long)) f.type f.packet.id_is refl
handled guest frame room sized (Ok (DhcpReply xid type)) s =
    let f = dhcp_reads_back guest frame xid type sized in
    framed (handling frame) guest (spent (noting xid guest)) 342 room _ (λ fits. f.long)
    (ne_eqb (type_of frame) 0x0806 (λ e. omega (arith, e, s.0.datagram.udp.ipv4))) (omega (arith, f.long)) f.framed.type f.framed.packet.id_is refl
handled guest frame room sized (Ok (Dns start len)) s = nothing (λ z. absurd (omega (arith, z))) refl refl
handled guest frame room sized (Ok (Relay start len)) s = nothing (λ z. absurd (omega (arith, z))) refl refl
handled guest frame room sized (Ok (Tcp len)) s = nothing (λ z. absurd (omega (arith, z))) refl refl
handled guest frame room sized (Err (NoRoom needed)) s = absurd s
handled guest frame room sized (Err (TooLong len)) s = nothing (λ z. absurd (omega (arith, z))) refl refl
handled guest frame room sized (Err (CutType place)) s = nothing (λ z. absurd (omega (arith, z))) refl refl

-- of a call of any kind
pub comes : (guest : Guest) (asked : Asked) (before : List ℕ) → Sized guest → SizedArrays asked → Comes asked guest.id (promised guest asked before)
unfolding outcome tcp_frame
comes guest (handling frame) before sized arrays = handled guest frame (length before) sized (decision guest.network frame) (says guest.network frame)
comes guest (making_ip_frame mac source target protocol payload) before sized arrays =
    let f = frame_of mac source target guest.id protocol payload arrays.six arrays.four arrays.four_too in
    spends (making_ip_frame mac source target protocol payload) guest 65515 (length payload) (34 + length payload) (length before) _
    (λ fits. f.long) refl (omega (arith, f.long)) f.type f.packet.id_is
comes guest (making_ip_frame_in_place mac source target protocol len) before sized arrays =
    let f = frame_of mac source target guest.id protocol (part before 34 len) arrays.six arrays.four arrays.four_too in
    spends (making_ip_frame_in_place mac source target protocol len) guest 65515 len (34 + len) (length before) _
    (λ fits.
    let within : length (part before 34 len) ≡ len = simp (length-take, length-drop) (omega arith) in
    f.long ∙ ap (λ (k : ℕ). 34 + k) within)
    refl (omega (arith, f.long)) f.type f.packet.id_is
comes guest (making_tcp_frame ends seq ack flags body) before sized arrays =
    let f = frame_of ends.dst_mac ends.src_ip ends.dst_ip guest.id 6 (segment ends seq ack flags body) arrays.six arrays.four arrays.four_too in
    spends (making_tcp_frame ends seq ack flags body) guest (data_limit_lem flags) (length body) (54 + length (options flags) + length body) (length before)
    (tcp_frame guest.id ends seq ack flags body)
    (λ fits. length_tcp_frame guest.id ends seq ack flags body arrays.six arrays.four arrays.four_too)
    refl (omega (arith, f.long)) f.type f.packet.id_is

-- The bytes built are the ones that are to come, whatever the buffer held, however the numbers are told.
pub built_as_promised : (asked : Asked) (id : ℕ) (o : Outcome) (numbers before after : List ℕ) → Comes asked id o
    → get_or numbers 0 0 ≡ get_or o.writing.numbers 0 0 → get_or numbers 1 0 ≡ get_or o.writing.numbers 1 0
    → after ≡ o.writing.image ++ drop (length o.writing.image) before → bytes_built numbers after ≡ o.writing.image
built_as_promised asked id o numbers before after c first second bytes = go c
  where
    on_1 : o.writing.numbers ≡ 1 ∷ length o.writing.image ∷ [] → bytes_built numbers after ≡ o.writing.image
    on_1 e =
        ap (λ (t : Bool). cond t (take (get_or numbers 1 0) after) []) (eq-eqb (get_or numbers 0 0) 1 (first ∙ ap (λ (l : List ℕ). get_or l 0 0) e))
        ∙ ap (take (get_or numbers 1 0)) bytes
        ∙ take_at o.writing.image (drop (length o.writing.image) before) (get_or numbers 1 0) (sym (second ∙ ap (λ (l : List ℕ). get_or l 1 0) e))

    go : Comes asked id o → bytes_built numbers after ≡ o.writing.image
    go (nothing other empty kept) =
        ap (λ (t : Bool). cond t (take (get_or numbers 1 0) after) []) (ne_eqb (get_or numbers 0 0) 1 (λ e. other (sym first ∙ e))) ∙ sym empty
    go (ipv4 e no-arp whole type id_is moved) = on_1 e
    go (arp e yes-arp type kept) = on_1 e

-- so of a call that is answered as it is promised
pub built_of_it : (asked : Asked) (id : ℕ) (o : Outcome) (before after : List ℕ) (answer : Answer) → Comes asked id o → Meets o before after answer
    → bytes_built (paper answer.verdict) after ≡ o.writing.image
built_of_it asked id o before after answer c m =
    built_as_promised asked id o (paper answer.verdict) before after c (ap (λ (l : List ℕ). get_or l 0 0) m.wrote.numbers) (ap (λ (l : List ℕ). get_or l 1 0) m.wrote.numbers) m.wrote.bytes
