-- Demand 2 of the gateway: "On every frame where the Rust shown doesn't panic or cut a length to 16 bits, and the buffer has room for the reply, the verdict and reply bytes, and the record after a
-- drop or reply, equal the Rust's from the same IP id, xid and guest MAC, but where a request of document 02 says otherwise." The Rust is crate `published`: a build without overflow checks.
-- `record_of` a backend is the record with its id, xid and MAC, on the network of the Rust's text. What document 02 says otherwise is the order of ports in a DHCP reply (2/13) and its UDP checksum (6/13):
-- `amended_in` puts them into what came of the Rust's run. (1/13: "Demand 2 compares with the Rust for the record of 01's values and with the written definition for every other": the latter is `handle`'s contract.)
use Prim.Native.Nat.{ℕ, ◌≤◌, ◌<◌}
use mathlib.Core.Path.{◌≡◌, refl, ap, sym, subst, ◌∙◌}
use mathlib.Core.Logic.{◌⊎◌, inl, inr, ◌↔◌}
use mathlib.Core.List.{List, [], ◌∷◌}
use native.Mathlib.Omega.{arith}
use lib.ListN.{length, get_or, get_or-append}
use Rattle.record.specs.Answer.{Outcome, Meets}
use Rattle.record.specs.Guest.{fresh, known}
use Rattle.making.proofs.Exactly.{good_is_made}
use Rattle.making.proofs.Worked.{document01_good}
use Rattle.making.specs.Making.{Makes}
use Rattle.making.specs.declared.call.BadRecord.{BadRecord}
use Rattle.std.proofs.Common.{Result, Ok, Some}
use Rattle.equals_rust.specs.Network.{rust_network}
use Rattle.record.specs.declared.answer.Answer.{Answer}
use Rattle.record.specs.declared.guest.Guest.{Guest}
use Rattle.published.specs.Rust.{Run, gives, panics, cuts, unfinished, whole}
use Rattle.published.specs.Backend.{SlirpBackend}
use Rattle.published.specs.Slirp.{send, new}
use Rattle.rules.specs.Rules.{payload, outcome, outcome_of}
use Rattle.record.specs.Answer.{unwritten}
use Rattle.rules.specs.Seen.{Message, CutMessage}
use Rattle.equals_rust.specs.Alike.{record_of, added, came_of, Keeps, AllHandedOver}
use Rattle.equals_rust.specs.Amended.{amended, amended_in, Excepted}
use Rattle.equals_rust.specs.Types.{Bytes, GuestTyped}
use Rattle.equals_rust.specs.Where.{HeaderPast, TypeCut, PingOver}
use Rattle.equals_rust.proofs.Amended.{amended_as_long, amended_elsewhere}
use Rattle.equals_rust.proofs.Foretold.{AtPanic, Foretells, foretells}
use Rattle.equals_rust.proofs.OnAll.{header_past_panics, type_cut_panics, ping_over_cuts, cut_decided}

-- every record on that network is some backend's, and a new one is a new backend's
pub every_record : (guest : Guest) → guest.network ≡ rust_network → (self : SlirpBackend) × (record_of self ≡ guest)
every_record guest e =
    (record { guest_mac = guest.mac; rx_pending = []; dhcp_xid = guest.xid; counter = guest.id; calls = [] }, ap (known guest.mac guest.id guest.xid) (sym e))

pub new_is_fresh : (mac : List ℕ) → record_of (new mac) ≡ fresh mac rust_network
new_is_fresh mac = refl

-- so is whatever `make` answers to document 01's addresses and a lease of 86,400 seconds by name
pub made_is_new : (mac : List ℕ) (r : Result Guest BadRecord)
    → Makes mac rust_network.gateway rust_network.guest rust_network.mask (Some rust_network.lease) r
    → r ≡ Ok (record_of (new mac))
made_is_new mac r m = good_is_made m document01_good

-- For every frame and every backend, whatever it has pending, whose MAC and id are what their types say.
module _ (self : SlirpBackend) (frame : List ℕ) (typed : GuestTyped (record_of self)) (bytes : Bytes frame) where
  -- what the run's end says of what is to come
  at_end : (room : ℕ) (r : Run SlirpBackend) → send self (whole frame) ≡ r → Foretells self frame room r (outcome (record_of self) frame room)
  at_end room r e = subst (λ (x : Run SlirpBackend). Foretells self frame room x (outcome (record_of self) frame room)) e (foretells self frame typed bytes room)

  -- the Rust always ends: no loop wants more turns than its definition has
  pub rust_ends : send self (whole frame) ≡ unfinished → ⊥
  rust_ends e = at_end 0 unfinished e

  -- exactly where it panics
  pub rust_panics_exactly : (send self (whole frame) ≡ panics) ↔ (HeaderPast frame ⊎ TypeCut frame)
  rust_panics_exactly = (λ e. only_these (at_end 0 panics e), on_all)
    where
      only_these : AtPanic self frame (outcome (record_of self) frame 0) → HeaderPast frame ⊎ TypeCut frame
      only_these (inl (h, _)) = inl h
      only_these (inr (place, m, _)) = inr (place, m)

      on_all : HeaderPast frame ⊎ TypeCut frame → send self (whole frame) ≡ panics
      on_all (inl h) = header_past_panics self frame h
      on_all (inr (place, m)) = type_cut_panics self frame typed bytes place m

  -- exactly where it cuts a length
  pub rust_cuts_exactly : (send self (whole frame) ≡ cuts) ↔ PingOver frame
  rust_cuts_exactly = (λ e. (length (payload frame), (at_end 0 cuts e).0), λ p. ping_over_cuts self frame typed bytes p.0 p.1)

  -- everywhere else it gives a backend
  pub rust_gives_elsewhere : (HeaderPast frame → ⊥) → (TypeCut frame → ⊥) → (PingOver frame → ⊥) → (b : SlirpBackend) × (send self (whole frame) ≡ gives b)
  rust_gives_elsewhere no_Header no_type no_ping = go (send self (whole frame)) refl
    where
      no_panic : HeaderPast frame ⊎ TypeCut frame → ⊥
      no_panic (inl h) = no_Header h
      no_panic (inr c) = no_type c

      go : (r : Run SlirpBackend) → send self (whole frame) ≡ r → (b : SlirpBackend) × (send self (whole frame) ≡ gives b)
      go (gives b) e = (b, e)
      go panics e = absurd (no_panic (rust_panics_exactly.0 e))
      go cuts e = absurd (no_ping (rust_cuts_exactly.0 e))
      go unfinished e = absurd (rust_ends e)

  -- it keeps what was pending, and what it calls is handed the frame's own data, MAC, addresses and ports
  pub rust_keeps : (b : SlirpBackend) → send self (whole frame) ≡ gives b → Keeps self b
  rust_keeps b e = (at_end 0 (gives b) e).0

  pub rust_hands_over : (b : SlirpBackend) → send self (whole frame) ≡ gives b → AllHandedOver frame (added self.calls b.calls)
  rust_hands_over b e = (at_end 0 (gives b) e).1

  -- Document 02, 2/13 and 6/13, are all that is amended: either nothing is, or the frame is a client's DHCP message and the Rust's reply to it goes from 68 to 67 and has no checksum
  pub exactly_the_leases : (b : SlirpBackend) → send self (whole frame) ≡ gives b → Excepted frame (came_of self b)
  exactly_the_leases b e = (at_end 0 (gives b) e).2

  pub amends_dhcp_alone : ((xid : ℕ) → Message frame xid → ⊥) → (b : SlirpBackend) → send self (whole frame) ≡ gives b → amended_in (came_of self b) ≡ came_of self b
  amends_dhcp_alone no_dhcp b e = go (exactly_the_leases b e)
    where
      go : Excepted frame (came_of self b) → amended_in (came_of self b) ≡ came_of self b
      go (inl kept) = kept
      go (inr lease) = absurd (no_dhcp lease.asked.0 lease.asked.1)

  -- Whatever answers a call with any buffer as `handle` promises: `m` is what it ensures (crates/slirp/src/entry.rt).
  module _ (before after : List ℕ) (answer : Answer) (m : Meets (outcome (record_of self) frame (length before)) before after answer) where
    meets : (o : Outcome) → outcome (record_of self) frame (length before) ≡ o → Meets o before after answer
    meets o e = subst (λ (x : Outcome). Meets x before after answer) e m

    -- Where the Rust gives, and the buffer has room for the reply: the same verdict and values, the same reply bytes but for the ports and the UDP checksum of a DHCP reply, and after a drop or a reply the same record.
    -- (After a call of what is outside it is the record up to that call: `relay_datagram` can take ids at once.)
    pub handle_equals_the_rust : (b : SlirpBackend) → send self (whole frame) ≡ gives b → length (came_of self b).writing.image ≤ length before
        → Meets (amended_in (came_of self b)) before after answer
    handle_equals_the_rust b e room = meets (amended_in (came_of self b)) ((at_end (length before) (gives b) e).3.0 room)

    -- so each byte of the reply outside 34 to 37 and 40 to 41 is the Rust's
    pub handle_has_the_rusts_bytes : (b : SlirpBackend) → send self (whole frame) ≡ gives b → length (came_of self b).writing.image ≤ length before
        → (place : ℕ) → place < length (came_of self b).writing.image → (34 ≤ place → 38 ≤ place) → (40 ≤ place → 42 ≤ place)
        → get_or after place 0 ≡ get_or (came_of self b).writing.image place 0
    handle_has_the_rusts_bytes b e room place there out out' =
        let rust = (came_of self b).writing.image in
        ap (λ (l : List ℕ). get_or l place 0) (handle_equals_the_rust b e room).wrote.bytes
        ∙ get_or-append (amended rust) _ 0 place (omega (arith, amended_as_long rust, there))
        ∙ amended_elsewhere rust place out out'

    -- where the frame is no client's DHCP message, all bytes of the reply are the Rust's
    pub handle_equals_the_rust_whole : ((xid : ℕ) → Message frame xid → ⊥) → (b : SlirpBackend) → send self (whole frame) ≡ gives b
        → length (came_of self b).writing.image ≤ length before → Meets (came_of self b) before after answer
    handle_equals_the_rust_whole no_dhcp b e room =
        subst (λ (o : Outcome). Meets o before after answer) (amends_dhcp_alone no_dhcp b e) (handle_equals_the_rust b e room)

    -- where it gives, and the buffer is shorter than its reply: 5 with the reply's length, and nothing has changed
    pub handle_lacks_the_room : (b : SlirpBackend) → send self (whole frame) ≡ gives b → length before < length (came_of self b).writing.image
        → Meets (unwritten (5 ∷ length (came_of self b).writing.image ∷ []) (record_of self)) before after answer
    handle_lacks_the_room b e short = meets _ ((at_end (length before) (gives b) e).3.1 short)

    -- where a header runs past the frame, and the Rust panics: 0, and nothing has changed
    pub handle_at_a_header_past : HeaderPast frame → Meets (unwritten (0 ∷ []) (record_of self)) before after answer
    handle_at_a_header_past h = go (at_end (length before) panics (header_past_panics self frame h))
      where
        go : AtPanic self frame (outcome (record_of self) frame (length before)) → Meets (unwritten (0 ∷ []) (record_of self)) before after answer
        go (inl (_, o)) = meets _ o
        go (inr (_, c, _)) = absurd (omega (arith, h.past, c.message.datagram.there))

    -- where a message type is cut off, and it panics too: 7 with the option's place, and nothing has changed
    pub handle_at_a_cut_type : (place : ℕ) → CutMessage frame place → Meets (unwritten (7 ∷ place ∷ []) (record_of self)) before after answer
    unfolding outcome outcome_of
    handle_at_a_cut_type place c = meets _ (ap (outcome_of (record_of self) frame (length before)) (cut_decided frame place c))

    -- where it cuts a ping's length: 6 with the length, and nothing has changed
    pub handle_at_a_ping_over : PingOver frame → Meets (unwritten (6 ∷ length (payload frame) ∷ []) (record_of self)) before after answer
    handle_at_a_ping_over p = meets _ (at_end (length before) cuts (ping_over_cuts self frame typed bytes p.0 p.1)).1
