-- What the Rust's run says of what is to come of the same frame, by how it ends.
use Prim.Native.Nat.{ℕ, ◌+◌, ◌≤◌, ◌<◌}
use mathlib.Core.Path.{◌≡◌, refl, ap, sym, subst, ◌∙◌}
use mathlib.Core.Logic.{◌⊎◌, inl, inr}
use mathlib.Core.Bool.{false}
use mathlib.Core.List.{List, [], ◌∷◌, ◌++◌, append-nil}
use native.Mathlib.Omega.{arith}
use borrow.Author.Tests.{lt-ltb, le-ltb}
use lib.ListN.{length, take, drop, length-take, length-drop, drop_of_length-le}
use lib.Seq.{drop-append_seam}
use Rattle.equals_rust.proofs.TheNetwork.{four_bytes}
use Rattle.record.specs.Answer.{Outcome}
use Rattle.equals_rust.specs.Network.{rust_network}
use Rattle.record.specs.declared.guest.Guest.{Guest}
use Rattle.published.specs.Rust.{Run, gives, panics, cuts, unfinished, whole}
use Rattle.published.specs.Backend.{CallOut, handle_tcp, SlirpBackend, with_xid, pushed, calling}
use Rattle.published.specs.Slirp.{send}
use Rattle.wire.specs.Rfc792.{echo}
use Rattle.rules.specs.Rules.{payload, decision, outcome_of, outcome}
use Rattle.record.specs.Guest.{noting, known, Sized}
use Rattle.record.specs.Answer.{unwritten, framing}
use Rattle.rules.specs.Seen.{CutMessage, TooLongPing}
use Rattle.std.specs.Prelude.{Result, Ok, Err}
use Rattle.record.specs.declared.answer.Refusal.{Refusal}
use Rattle.record.specs.declared.answer.Refusal.TheVariants.{NoRoom, TooLong, CutType}
use Rattle.rules.specs.declared.decision.Decision.{Decision}
use Rattle.rules.specs.declared.decision.Decision.TheVariants.{Drop, DropNoting, ArpReply, EchoReply, DhcpReply, Dns, Relay, Tcp}
use Rattle.rules.proofs.Says.{Says, says}
use Rattle.echo_reply.proofs.Echo.{length_echo}
use Rattle.arp_reply.proofs.ReadBack.{arp_reads_back}
use Rattle.echo_reply.proofs.ReadBack.{echo_frame_reads_back}
use Rattle.dhcp_reply.proofs.FrameReadBack.{dhcp_reads_back}
use Rattle.equals_rust.specs.Alike.{record_of, handoff, written_as, added, came_of, Keeps, HandedOver, AllHandedOver}
use Rattle.equals_rust.specs.Amended.{carries_udp, amended, amended_in, Excepted}
use Rattle.equals_rust.specs.Types.{Bytes, GuestTyped}
use Rattle.equals_rust.specs.Where.{HeaderPast}
use Rattle.equals_rust.proofs.Amended.{amended_as_long, amended_other, arp_other, icmp_other, lease_from, lease_to, lease_unsummed, lease_amended}
use Rattle.equals_rust.proofs.Ran.{Ran, send_ran}

-- what a list has got
none_added : {A : Type 0} (l : List A) → added l l ≡ []
none_added l = drop_of_length-le l {i = length l} (omega arith)

one_added : {A : Type 0} (l : List A) (x : A) → added l (l ++ (x ∷ [])) ≡ x ∷ []
one_added l x = drop-append_seam l (x ∷ [])

-- What a run that gives this backend says, with nothing, a frame or a call behind it: what came of it, that it keeps what was there, and what is handed over.
record Came (self : SlirpBackend) (frame : List ℕ) (b : SlirpBackend) (o : Outcome) : Type 0 where
  came : came_of self b ≡ o
  keeps : Keeps self b
  handed : AllHandedOver frame (added self.calls b.calls)

module _ (self : SlirpBackend) (frame : List ℕ) where
  came_quiet : (xid : ℕ) → Came self frame (with_xid xid self) (unwritten (0 ∷ []) (noting xid (record_of self)))
  came_quiet xid =
      record {
        came = rw (none_added self.rx_pending, none_added self.calls);
        keeps = record { pending = rw (none_added self.rx_pending) (sym (append-nil self.rx_pending)); called = rw (none_added self.calls) (sym (append-nil self.calls)) };
        handed = rw (none_added self.calls) tt;
      }

  came_pushed : (image : List ℕ) (counter xid : ℕ)
      → Came self frame (pushed image counter (with_xid xid self))
      (record { writing = written_as image; guest = known self.guest_mac counter xid rust_network })
  came_pushed image counter xid =
      record {
        came = rw (one_added self.rx_pending image, none_added self.calls);
        keeps = record { pending = rw (one_added self.rx_pending image); called = rw (none_added self.calls) (sym (append-nil self.calls)) };
        handed = rw (none_added self.calls) tt;
      }

  came_called : (call : CallOut) → HandedOver frame call → Came self frame (calling call self) (unwritten (handoff call) (record_of self))
  came_called call h =
      record {
        came = rw (none_added self.rx_pending, one_added self.calls call);
        keeps = record { pending = rw (none_added self.rx_pending) (sym (append-nil self.rx_pending)); called = rw (one_added self.calls call) };
        handed = rw (one_added self.calls call) (h, tt);
      }

-- a frame that is to be built, by the room: what the Rust pushed, as it becomes with us
module _ (guest next : Guest) (need room : ℕ) (rust : List ℕ) (size : length (amended rust) ≡ need) where
  rust_size : length rust ≡ need
  rust_size = sym (amended_as_long rust) ∙ size

  fits : length rust ≤ room → framing guest next need room (amended rust) ≡ amended_in (record { writing = written_as rust; guest = next })
  unfolding framing
  fits h = rw (le-ltb room need (omega (arith, rust_size)), rust_size)

  short : room < length rust → framing guest next need room (amended rust) ≡ unwritten (5 ∷ length rust ∷ []) guest
  unfolding framing
  short h = rw (lt-ltb room need (omega (arith, rust_size)), rust_size)

-- where nothing is written, there is nothing to amend
nothing_amended : (numbers : List ℕ) (guest : Guest) → amended_in (unwritten numbers guest) ≡ unwritten numbers guest
unfolding amended carries_udp
nothing_amended numbers guest = refl

-- nor where a frame is not UDP
other_kept : (rust : List ℕ) (next : Guest) → carries_udp rust ≡ false → amended_in (record { writing = written_as rust; guest = next }) ≡ record { writing = written_as rust; guest = next }
other_kept rust next other = rw (amended_other rust other)

module _ (self : SlirpBackend) (frame : List ℕ) where
  -- what is to come where the Rust panics
  abbrev pub AtPanic : Outcome → Type 0
  AtPanic o = (HeaderPast frame × (o ≡ unwritten (0 ∷ []) (record_of self))) ⊎ ((place : ℕ) × CutMessage frame place × (o ≡ unwritten (7 ∷ place ∷ []) (record_of self)))

  -- what is to come with this room, where that came of the Rust's run
  abbrev ByRoom : (room : ℕ) (came o : Outcome) → Type 0
  ByRoom room came o =
      (length came.writing.image ≤ room → o ≡ amended_in came) × (room < length came.writing.image → o ≡ unwritten (5 ∷ length came.writing.image ∷ []) (record_of self))

  -- what is to come with this room, by how the Rust's run ends
  abbrev pub Foretells : (room : ℕ) → Run SlirpBackend → Outcome → Type 0
  Foretells room (gives b) o = Keeps self b × AllHandedOver frame (added self.calls b.calls) × Excepted frame (came_of self b) × ByRoom room (came_of self b) o
  Foretells room panics o = AtPanic o
  Foretells room cuts o = TooLongPing rust_network frame (length (payload frame)) × (o ≡ unwritten (6 ∷ length (payload frame) ∷ []) (record_of self))
  Foretells room unfinished o = ⊥

  part_length : (start len : ℕ) → start + len ≤ length frame → len ≡ length (take len (drop start frame))
  part_length start len h = omega (arith, length-take len (drop start frame), length-drop start frame)

  -- a part, taken by its own length
  part_again : (start len : ℕ) → start + len ≤ length frame → take len (drop start frame) ≡ take (length (take len (drop start frame))) (drop start frame)
  part_again start len h = ap (λ (n : ℕ). take n (drop start frame)) (part_length start len h)

  module _ (room : ℕ) (r : Run SlirpBackend) where
    by_run : (r' : Run SlirpBackend) (o : Outcome) → r ≡ r' → Foretells room r' o → Foretells room r o
    by_run r' o e = subst (λ (x : Run SlirpBackend). Foretells room x o) (sym e)

    given : (b : SlirpBackend) (came o : Outcome) → r ≡ gives b → Came self frame b came → Excepted frame came → ByRoom room came o → Foretells room r o
    given b came o e c exception by =
        by_run (gives b) o e (c.keeps, c.handed, subst (Excepted frame) (sym c.came) exception, subst (λ (x : Outcome). ByRoom room x o) (sym c.came) by)

    -- nothing is written: the room doesn't matter
    quiet : (b : SlirpBackend) (numbers : List ℕ) (guest : Guest) (o : Outcome) → r ≡ gives b → Came self frame b (unwritten numbers guest) → o ≡ unwritten numbers guest → Foretells room r o
    quiet b numbers guest o e c same = given b (unwritten numbers guest) o e c (inl (nothing_amended numbers guest)) ((λ h. same ∙ sym (nothing_amended numbers guest)), (λ h. absurd (omega arith)))

    -- a frame is pushed, and this is what it becomes with us
    replied : (rust image : List ℕ) (counter xid need : ℕ) → r ≡ gives (pushed rust counter (with_xid xid self)) → amended rust ≡ image → length image ≡ need
        → Excepted frame (record { writing = written_as rust; guest = known self.guest_mac counter xid rust_network })
        → Foretells room r (framing (record_of self) (known self.guest_mac counter xid rust_network) need room image)
    replied rust image counter xid need e turn size exception =
        let next = known self.guest_mac counter xid rust_network in
        let size' : length (amended rust) ≡ need = ap length turn ∙ size in
        subst (λ (l : List ℕ). Foretells room r (framing (record_of self) next need room l)) turn
        (given _ _ _ e (came_pushed self frame rust counter xid) exception (fits (record_of self) next need room rust size', short (record_of self) next need room rust size'))

    -- one that is not UDP becomes itself
    replied_whole : (rust : List ℕ) (counter xid need : ℕ) → r ≡ gives (pushed rust counter (with_xid xid self)) → carries_udp rust ≡ false → length rust ≡ need
        → Foretells room r (framing (record_of self) (known self.guest_mac counter xid rust_network) need room rust)
    replied_whole rust counter xid need e other size = replied rust rust counter xid need e (amended_other rust other) size (inl (other_kept rust _ other))

    foretold : GuestTyped (record_of self) → (d : Result Decision Refusal) → Says rust_network frame d → Ran self frame r d → Foretells room r (outcome_of (record_of self) frame room d)
    unfolding Ran Says outcome_of
    foretold typed (Ok Drop) s (inl e) = quiet self _ _ _ e (came_quiet self frame self.dhcp_xid) refl
    foretold typed (Ok Drop) s (inr (h, e)) = by_run panics _ e (inl (h, refl))
    foretold typed (Ok (DropNoting xid)) s e = quiet _ _ _ _ e (came_quiet self frame xid) refl
    foretold typed (Ok ArpReply) s e = replied_whole _ _ _ 42 e (arp_other rust_network frame refl) (arp_reads_back rust_network frame refl).long
    foretold typed (Ok (EchoReply start)) s e =
        let eight = subst (λ (n : ℕ). 8 ≤ length (drop n frame)) (sym s.1) s.0.whole in
        let its = echo_frame_reads_back rust_network self.counter frame (echo (drop start frame)) refl in
        replied_whole _ _ _ _ e (icmp_other its) (its.long ∙ ap (λ (n : ℕ). 34 + n) (length_echo (drop start frame) (omega (arith, eight))))
    foretold typed (Ok (DhcpReply xid type)) s e =
        let sized : Sized (record_of self) = record { mac = typed.mac.long; network = four_bytes } in
        replied _ _ _ xid 342 e (lease_amended (record_of self) frame xid type sized) (dhcp_reads_back (record_of self) frame xid type sized).long
        (inr
        (record {
          asked = (xid, s.0);
          from_68 = lease_from (record_of self) frame xid type sized;
          to_67 = lease_to (record_of self) frame xid type sized;
          no_checksum = lease_unsummed (record_of self) frame xid type sized;
        }))
    foretold typed (Ok (Dns start len)) s e =
        let inside = s.handed.inside in
        quiet _ _ _ _ e (came_called self frame _ (part_again start len inside, refl, refl, refl)) (ap (λ (n : ℕ). unwritten (2 ∷ start ∷ n ∷ []) (record_of self)) (part_length start len inside))
    foretold typed (Ok (Relay start len)) s e =
        let inside = s.handed.inside in
        quiet _ _ _ _ e (came_called self frame _ (part_again start len inside, refl, refl, refl, refl, refl)) (ap (λ (n : ℕ). unwritten (3 ∷ start ∷ n ∷ []) (record_of self)) (part_length start len inside))
    foretold typed (Ok (Tcp len)) s e = quiet _ _ _ _ e.1 (came_called self frame (handle_tcp (whole frame)) refl) (ap (λ (n : ℕ). unwritten (4 ∷ n ∷ []) (record_of self)) e.0)
    foretold typed (Err (NoRoom needed)) s e = absurd s
    foretold typed (Err (TooLong len)) s e =
        by_run cuts _ e (subst (TooLongPing rust_network frame) s.its_length s, ap (λ (n : ℕ). unwritten (6 ∷ n ∷ []) (record_of self)) s.its_length)
    foretold typed (Err (CutType place)) s e = by_run panics _ e (inr (place, s, refl))

  -- the Rust's run, and what is to come of the same frame with this room
  pub foretells : GuestTyped (record_of self) → Bytes frame → (room : ℕ) → Foretells room (send self (whole frame)) (outcome (record_of self) frame room)
  unfolding outcome
  foretells typed bytes room = foretold room (send self (whole frame)) typed (decision rust_network frame) (says rust_network frame) (send_ran self frame typed bytes)
