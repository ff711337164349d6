-- Demand 3, sentence by sentence: of whatever keeps `read`'s promise, from `Exact` and `Unique`, and of what we build, which by the calls' contracts are the frames of `Derived`.
use Prim.Native.Nat.{ℕ}
use mathlib.Core.Path.{◌≡◌}
use mathlib.Core.Logic.{◌↔◌}
use mathlib.Core.List.{List, [], ◌∷◌}
use lib.ListN.{length, take, drop}
use Rattle.base.specs.Bytes.{part}
use Rattle.record.specs.Guest.{Sized}
use Rattle.record.specs.Answer.{paper, Wrote, Meets}
use Rattle.datagrams.specs.Builders.{make_udp_payload_lem}
use Rattle.frames.specs.Builders.{make_ip_frame_lem, make_ip_frame_in_place_lem}
use Rattle.wire.specs.Rfc768.{datagram}
use Rattle.record.specs.declared.answer.Answer.{Answer}
use Rattle.record.specs.declared.guest.Guest.{Guest}
use Rattle.std.specs.Prelude.{Result}
use Rattle.record.specs.declared.answer.Refusal.{Refusal}
use Rattle.record.specs.declared.answer.Verdict.{Verdict}
use Rattle.datagrams.proofs.InBuffer.{datagram_in_buffer}
use Rattle.frames.proofs.InBuffer.{ip_frame_in_buffer, ip_frame_in_place_in_buffer}
use Rattle.grammar.specs.Grammar.{body, Derivation, Derives}
use Rattle.grammar.specs.Report.{refused, parts_of, Reads}
use Rattle.std.proofs.Common.{Option}
use Rattle.reader.specs.Reported.{report_of}
use Rattle.reader.specs.declared.parts.Reading.{Reading}
use Rattle.grammar.proofs.Exact.{parts_reported, derivation_behind, derived_taken, underived_refused}
use Rattle.grammar.proofs.Unique.{unique}
use Rattle.rules.specs.Rules.{decision, outcome}
use Rattle.tcp.specs.Builders.{make_tcp_frame_lem}
use Rattle.tcp.specs.Rfc9293.{options, segment, tcp_frame}
use Rattle.tcp.specs.declared.Endpoints.{Endpoints}
use Rattle.tcp.proofs.InBuffer.{tcp_frame_in_buffer}
use Rattle.laws.specs.Derivations.{DerivedAs, other_derivation, udp_derivation, tcp_derivation, Summed}
use Rattle.laws.proofs.Demand1.{on_one}
use Rattle.laws.proofs.Derived.{other_derived, datagram_summed, udp_derived, tcp_derived}
use Rattle.laws.proofs.DerivedIp.{Packet, packet_in_buffer}
use Rattle.laws.proofs.DerivedReplies.{built_derived, some_derivation}

-- "An added strict reader accepts a byte string exactly when document 01's frame grammar derives it."
pub accepts_exactly : (s : List ℕ) (r : Option Reading) → Reads s (report_of r) → ((report_of r ≡ refused 8 → ⊥) ↔ ((d : Derivation) × Derives s d))
accepts_exactly s r kept =
    ((λ f. let b = derivation_behind s (report_of r) kept f in (b.0, b.1)), (λ h. derived_taken s (report_of r) kept h.0 h.1))

-- and it answers 8 exactly when the grammar doesn't
pub refuses_exactly : (s : List ℕ) (r : Option Reading) → Reads s (report_of r) → ((report_of r ≡ refused 8) ↔ ((d : Derivation) → Derives s d → ⊥))
refuses_exactly s r kept = ((λ e d h. derived_taken s (report_of r) kept d h e), underived_refused s (report_of r) kept)

-- "The derivation is the only one"
pub only_derivation : (s : List ℕ) (d e : Derivation) → Derives s d → Derives s e → d ≡ e
only_derivation s d e h k = unique s d e h k

-- "and the reported parts are its parts."
pub reports_its_parts : (s : List ℕ) (r : Option Reading) → Reads s (report_of r) → (d : Derivation) → Derives s d → report_of r ≡ parts_of s d
reports_its_parts s r kept d h = parts_reported s (report_of r) kept d h

-- "Every reply to a guest frame, like every TCP frame built, is derived by the grammar.": after the answer 1 with n the reply is the first n bytes of the buffer.
-- That arrays have the lengths that their types say, 6 bytes a MAC and 4 an address, is a hypothesis throughout.

-- Every reply of `handle`, to any frame, from any record, on whatever network, with any buffer: an ARP reply as ARP, an echo reply as ICMP, a DHCP reply as DHCP, with its type.
module _ (guest : Guest) (frame before after : List ℕ) (answer : Answer) (n : ℕ) (sized : Sized guest)
    (m : Meets (outcome guest frame (length before)) before after answer) (one : paper answer.verdict ≡ 1 ∷ n ∷ []) where
  pub reply_derived : DerivedAs n (take n after) (decision guest.network frame)
  reply_derived =
      let o = (on_one guest frame before after answer sized m n one).1 in
      rw o.3 (built_derived guest frame sized n o.1 o.0)

  -- so each has one
  pub reply_in_grammar : (d : Derivation) × Derives (take n after) d
  reply_in_grammar = some_derivation n (take n after) (decision guest.network frame) reply_derived

  -- so the strict reader takes each
  pub reply_taken : (r : Option Reading) → Reads (take n after) (report_of r) → report_of r ≡ refused 8 → ⊥
  reply_taken r kept = (accepts_exactly (take n after) r kept).1 reply_in_grammar

-- Every frame of `make_tcp_frame`, with options and without: TCP.
pub tcp_frame_derived : (guest : Guest) (ends : Endpoints) (seq ack flags : ℕ) (d before after : List ℕ) (answer : Answer) (n : ℕ)
    → length ends.dst_mac ≡ 6 → length ends.src_ip ≡ 4 → length ends.dst_ip ≡ 4
    → Meets (make_tcp_frame_lem guest ends seq ack flags d (length before)) before after answer → paper answer.verdict ≡ 1 ∷ n ∷ []
    → Derives (take n after) (tcp_derivation n (length (options flags)))
unfolding tcp_frame
tcp_frame_derived guest ends seq ack flags d before after answer n six four four' m one =
    tcp_derived _ n ends seq ack flags d four four'
    (packet_in_buffer ends.dst_mac ends.src_ip ends.dst_ip (segment ends seq ack flags d) guest.id 6 six four four'
    (tcp_frame_in_buffer guest before after answer n one ends seq ack flags d six four four' m))

module _ (guest : Guest) (mac source target before after : List ℕ) (answer : Answer) (n : ℕ) (one : paper answer.verdict ≡ 1 ∷ n ∷ [])
    (six : length mac ≡ 6) (four : length source ≡ 4) (four' : length target ≡ 4) where
  -- what the two calls leave in the buffer
  made : (protocol : ℕ) (payload : List ℕ) → Meets (make_ip_frame_lem guest mac source target protocol payload (length before)) before after answer
      → Packet (take n after) n protocol source target payload
  made protocol payload m =
      packet_in_buffer mac source target payload guest.id protocol six four four'
      (ip_frame_in_buffer guest before after answer n one mac source target protocol six four four' payload m)

  made_in_place : (protocol len : ℕ) → Meets (make_ip_frame_in_place_lem guest mac source target protocol len before) before after answer
      → Packet (take n after) n protocol source target (part before 34 len)
  made_in_place protocol len m =
      packet_in_buffer mac source target (part before 34 len) guest.id protocol six four four'
      (ip_frame_in_place_in_buffer guest before after answer n one mac source target protocol six four four' len m)

  module _ (protocol : ℕ) (no-1 : protocol ≡ 1 → ⊥) (no-6 : protocol ≡ 6 → ⊥) (no-17 : protocol ≡ 17 → ⊥) where
    -- Every frame of `make_ip_frame` with a protocol that is not 1, 6 or 17, around any payload: other IPv4.
    pub ip_frame_derived : (payload : List ℕ) → Meets (make_ip_frame_lem guest mac source target protocol payload (length before)) before after answer
        → Derives (take n after) (other_derivation n)
    ip_frame_derived payload m = other_derived _ n source target protocol payload (made protocol payload m) no-1 no-6 no-17

    -- The same of `make_ip_frame_in_place`, around the `len` bytes at 34 of the buffer.
    pub ip_frame_in_place_derived : (len : ℕ) → Meets (make_ip_frame_in_place_lem guest mac source target protocol len before) before after answer
        → Derives (take n after) (other_derivation n)
    ip_frame_in_place_derived len m = other_derived _ n source target protocol (part before 34 len) (made_in_place protocol len m) no-1 no-6 no-17

  module _ (sport dport : ℕ) (d before' after' : List ℕ) (v : Result Verdict Refusal) (k : ℕ) (no-67-68 : sport ≡ 67 → dport ≡ 68 → ⊥) (no-68-67 : sport ≡ 68 → dport ≡ 67 → ⊥)
      (w : Wrote (make_udp_payload_lem source target sport dport d (length before')) before' after' v) (one' : paper v ≡ 1 ∷ k ∷ []) where
    its_datagram : take k after' ≡ datagram source target sport dport d
    its_datagram = (datagram_in_buffer before' after' v k source target sport dport d one' w).front

    as_udp : Packet (take n after) n 17 source target (datagram source target sport dport d) → Derives (take n after) (udp_derivation n) × Summed (body (take n after))
    as_udp p = (udp_derived _ n source target four four' sport dport d p no-67-68 no-68-67, datagram_summed _ n source target four four' sport dport d p)

    -- Every frame of `make_ip_frame` around a datagram of `make_udp_payload` between the same addresses, whose `k` bytes are the first of another buffer, with any ports but 67 and 68 in either
    -- order: UDP, by the summed case.
    pub udp_frame_derived : Meets (make_ip_frame_lem guest mac source target 17 (take k after') (length before)) before after answer → Derives (take n after) (udp_derivation n) × Summed (body (take n after))
    udp_frame_derived m = as_udp (rw its_datagram at (made 17 (take k after') m))

    -- The same of `make_ip_frame_in_place`, where the other buffer is this one from 34 on.
    pub udp_frame_in_place_derived : drop 34 before ≡ after' → Meets (make_ip_frame_in_place_lem guest mac source target 17 k before) before after answer
        → Derives (take n after) (udp_derivation n) × Summed (body (take n after))
    udp_frame_in_place_derived e m = as_udp (rw (e, its_datagram) at (made_in_place 17 k m))
