-- Demand 2 of the three builders and of the checksum: of whatever meets their contracts, beside the Rust's.
use Prim.Native.Nat.{ℕ, ◌+◌, ◌%◌, ◌≤◌, ◌<◌}
use mathlib.Core.Path.{◌≡◌, ap, sym, subst, ◌∙◌}
use mathlib.Core.Logic.{◌↔◌}
use mathlib.Core.List.{List, [], ◌∷◌}
use native.Mathlib.Omega.{arith}
use borrow.Author.Tests.{ltb-true, ltb-false, lt-ltb, le-ltb}
use lib.Dec.{ltb}
use lib.ListN.{length, get_or, get_or-append}
use Rattle.record.specs.Answer.{Wrote, Meets, building, spending}
use Rattle.datagrams.specs.Builders.{make_udp_payload_lem}
use Rattle.frames.specs.Builders.{make_ip_frame_lem}
use Rattle.wire.specs.Rfc768.{datagram}
use Rattle.frames.specs.Frames.{ip_frame}
use Rattle.record.specs.declared.answer.Answer.{Answer}
use Rattle.record.specs.declared.guest.Guest.{Guest}
use Rattle.std.specs.Prelude.{Result}
use Rattle.record.specs.declared.answer.Refusal.{Refusal}
use Rattle.record.specs.declared.answer.Verdict.{Verdict}
use Rattle.frames.proofs.Lengths.{length_ip_frame}
use Rattle.published.specs.Rust.{Run, gives, panics, cuts, unfinished, whole}
use Rattle.published.specs.Frames.{Counted, make_ip_frame, make_udp_payload, make_tcp_frame, checksum as rustChecksum}
use Rattle.record.specs.Answer.{unwritten}
use Rattle.sums.specs.Rfc1071.{checksum}
use Rattle.tcp.specs.Builders.{data_limit_lem, make_tcp_frame_lem}
use Rattle.tcp.specs.Rfc9293.{options, tcp_frame}
use Rattle.tcp.proofs.TcpLaws.{length_tcp_frame}
use Rattle.tcp.specs.declared.Endpoints.{Endpoints}
use Rattle.equals_rust.specs.Alike.{the_ends, came_of_builder, written_as, unwritten_as}
use Rattle.equals_rust.specs.Amended.{summed}
use Rattle.equals_rust.specs.Builders.{FrameEquals, DatagramEquals}
use Rattle.equals_rust.specs.Types.{Bytes, Array, GuestTyped, EndsTyped}
use Rattle.equals_rust.proofs.Amended.{summed_as_long, summed_elsewhere, unsummed, length_unsummed, unsummed_summed}
use Rattle.equals_rust.proofs.Operations.{ending, gives_one}
use Rattle.equals_rust.proofs.Sum.{rust_checksum}
use Rattle.equals_rust.proofs.Builders.{ip_frame_cut, ip_frame_given, udp_payload_cut, udp_payload_given}
use Rattle.equals_rust.proofs.TcpBuilder.{tcp_frame_cut, tcp_frame_given}
use Rattle.base.proofs.Choice.{by_test}

-- A builder of the Rust's that cuts past a limit and gives `image` within it, beside the rule of 5 and 6.
module _ {A : Type 0} (limit len : ℕ) (run : Run A) (value : A) (over : limit < len → run ≡ cuts) (within : len ≤ limit → run ≡ gives value) where
  -- which of the two it is
  record Ended : Type 0 where
    cuts_there : (run ≡ cuts) ↔ (limit < len)
    gives_there : (a : A) → run ≡ gives a → (len ≤ limit) × (value ≡ a)
    no_panic : run ≡ panics → ⊥
    no_more_turns : run ≡ unfinished → ⊥

  ended : Ended
  ended =
      by_test (ltb limit len)
      (λ e.
      let h = ltb-true limit len e in
      let c = over h in
      record {
        cuts_there = ((λ _. h), over);
        gives_there = λ a f. absurd (omega (arith, ap ending (sym c ∙ f)));
        no_panic = λ f. omega (arith, ap ending (sym c ∙ f));
        no_more_turns = λ f. omega (arith, ap ending (sym c ∙ f));
      })
      (λ e.
      let h = ltb-false limit len e in
      let g = within h in
      record {
        cuts_there = ((λ f. absurd (omega (arith, ap ending (sym g ∙ f)))), (λ past. absurd (omega (arith, h, past))));
        gives_there = λ a f. (h, gives_one value a (sym g ∙ f));
        no_panic = λ f. omega (arith, ap ending (sym g ∙ f));
        no_more_turns = λ f. omega (arith, ap ending (sym g ∙ f));
      })

-- one that takes an id
module _ (guest : Guest) (limit len need : ℕ) (image : List ℕ) (run : Run Counted) (size : length image ≡ need) (over : limit < len → run ≡ cuts)
    (within : len ≤ limit → run ≡ gives (record { frame = image; counter = (guest.id + 1) % 65536 })) (before after : List ℕ) (answer : Answer)
    (m : Meets (spending guest limit len need (length before) image) before after answer) where
  run_ended : Ended limit len run (record { frame = image; counter = (guest.id + 1) % 65536 }) over within
  run_ended = ended limit len run (record { frame = image; counter = (guest.id + 1) % 65536 }) over within

  frame_equals : FrameEquals guest run limit len before after answer
  unfolding spending building
  frame_equals =
      record {
        equal = λ made e room.
            let g = run_ended.gives_there made e in
            let f = ap (λ (x : Counted). x.frame) g.1 in
            subst (λ (x : Counted). Meets (came_of_builder guest x) before after answer) g.1
            (rw (le-ltb limit len g.0, le-ltb (length before) need (omega (arith, room, size, ap length f)), ← size) at m);
        lacks_room = λ made e short.
            let g = run_ended.gives_there made e in
            let f = ap (λ (x : Counted). x.frame) g.1 in
            subst (λ (x : Counted). Meets (unwritten (5 ∷ length x.frame ∷ []) guest) before after answer) g.1
            (rw (le-ltb limit len g.0, lt-ltb (length before) need (omega (arith, short, size, ap length f)), ← size) at m);
        cuts_exactly = run_ended.cuts_there;
        too_long = λ e. rw (lt-ltb limit len (run_ended.cuts_there.0 e)) at m;
        never_panics = run_ended.no_panic;
        ends = run_ended.no_more_turns;
      }

-- one that takes none: what the Rust built becomes `image`, which is as long
module _ (from to : List ℕ) (limit len need : ℕ) (rust image : List ℕ) (become : summed from to rust ≡ image) (run : Run (List ℕ)) (size : length rust ≡ need) (over : limit < len → run ≡ cuts)
    (within : len ≤ limit → run ≡ gives rust) (before after : List ℕ) (verdict : Result Verdict Refusal) (m : Wrote (building limit len need (length before) image) before after verdict) where
  run_ended' : Ended limit len run rust over within
  run_ended' = ended limit len run rust over within

  datagram_equals : DatagramEquals from to run limit len before after verdict
  unfolding building
  datagram_equals =
      record {
        equal = λ built e room.
            let g = run_ended'.gives_there built e in
            subst (λ (x : List ℕ). Wrote (written_as (summed from to x)) before after verdict) g.1
            (rw (summed_as_long from to rust, size, become)
            (rw (le-ltb limit len g.0, le-ltb (length before) need (omega (arith, room, size, ap length g.1))) at m));
        lacks_room = λ built e short.
            let g = run_ended'.gives_there built e in
            subst (λ (x : List ℕ). Wrote (unwritten_as (5 ∷ length x ∷ [])) before after verdict) g.1
            (rw (le-ltb limit len g.0, lt-ltb (length before) need (omega (arith, short, size, ap length g.1)), ← size) at m);
        cuts_exactly = run_ended'.cuts_there;
        too_long = λ e. rw (lt-ltb limit len (run_ended'.cuts_there.0 e)) at m;
        never_panics = run_ended'.no_panic;
        ends = run_ended'.no_more_turns;
      }

-- The three builders, for all arguments that are what their types say.
module _ (before after : List ℕ) where
  pub make_ip_frame_equals : (guest : Guest) (mac source target : List ℕ) (protocol : ℕ) (payload : List ℕ) (answer : Answer)
      → GuestTyped guest → Array 6 mac → Array 4 source → Array 4 target → protocol < 256
      → Meets (make_ip_frame_lem guest mac source target protocol payload (length before)) before after answer
      → FrameEquals guest (make_ip_frame guest.id mac source target protocol (whole payload)) 65515 (length payload) before after answer
  make_ip_frame_equals guest mac source target protocol payload answer g m s t p =
      frame_equals guest 65515 (length payload) (34 + length payload) (ip_frame mac guest.id protocol source target payload) _
      (length_ip_frame source target s.long t.long mac payload guest.id protocol m.long)
      (ip_frame_cut guest.id protocol mac source target (whole payload))
      (ip_frame_given guest.id protocol mac source target (whole payload) m.long s.long t.long g.id p s.bytes t.bytes)
      before after answer

  -- Document 02, 6/13: the checksum is RFC 768's, between whatever addresses
  module _ (from to : List ℕ) (source target : ℕ) (body : List ℕ) (verdict : Result Verdict Refusal) (w : Wrote (make_udp_payload_lem from to source target body (length before)) before after verdict) where
    pub make_udp_payload_equals : DatagramEquals from to (make_udp_payload source target (whole body)) 65527 (length body) before after verdict
    make_udp_payload_equals =
        datagram_equals from to 65527 (length body) (8 + length body) (unsummed source target body) (datagram from to source target body) (unsummed_summed source target body from to) _
        (length_unsummed source target body) (udp_payload_cut source target (whole body)) (udp_payload_given source target (whole body)) before after verdict w

    -- so each byte of the datagram but 6 and 7 is the Rust's
    pub make_udp_payload_has_the_rusts_bytes : (built : List ℕ) → make_udp_payload source target (whole body) ≡ gives built → length built ≤ length before
        → (place : ℕ) → place < length built → (6 ≤ place → 8 ≤ place) → get_or after place 0 ≡ get_or built place 0
    make_udp_payload_has_the_rusts_bytes built e room place there out =
        ap (λ (l : List ℕ). get_or l place 0) (make_udp_payload_equals.equal built e room).bytes
        ∙ get_or-append (summed from to built) _ 0 place (omega (arith, summed_as_long from to built, there))
        ∙ summed_elsewhere from to built place out

  pub make_tcp_frame_equals : (guest : Guest) (ends : Endpoints) (seq ack flags : ℕ) (body : List ℕ) (answer : Answer)
      → GuestTyped guest → EndsTyped ends → seq < 4294967296 → ack < 4294967296 → flags < 256 → Bytes body
      → Meets (make_tcp_frame_lem guest ends seq ack flags body (length before)) before after answer
      → FrameEquals guest (make_tcp_frame guest.id (the_ends ends) seq ack flags (whole body)) (data_limit_lem flags) (length body) before after answer
  make_tcp_frame_equals guest ends seq ack flags body answer g e s a f b =
      frame_equals guest (data_limit_lem flags) (length body) (54 + length (options flags) + length body) (tcp_frame guest.id ends seq ack flags body) _
      (length_tcp_frame guest.id ends seq ack flags body e.mac.long e.source.long e.target.long)
      (tcp_frame_cut guest.id ends seq ack flags (whole body) e)
      (tcp_frame_given guest.id ends seq ack flags (whole body) e g.id s a f b)
      before after answer

-- the checksum, to 131,074 bytes: `r` is what `checksum` ensures
pub checksum_equals : (s : List ℕ) (r : ℕ) → Bytes s → length s ≤ 131074 → r ≡ checksum s → rustChecksum (whole s) ≡ gives r
checksum_equals s r b h e = rust_checksum s b h ∙ ap gives (sym e)
