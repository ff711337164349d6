-- How much room a host has to lend so that no frame is ever answered 5, and how long a reply can be: 65,549 bytes.
use Prim.Native.Nat.{ℕ, zero, suc, ◌+◌, ◌*◌, ◌%◌, ◌≤◌}
use mathlib.Core.Bool.{Bool, true, false, cond}
use mathlib.Core.List.{List, [], ◌∷◌}
use mathlib.Core.Logic.{◌⊎◌, inl, inr}
use mathlib.Core.Path.{◌≡◌, refl, ap, sym, subst}
use native.Mathlib.Omega.{arith}
use borrow.Author.Tests.{le-ltb}
use lib.Dec.{ltb}
use lib.ListN.{length, drop, get_or, length-drop}
use Rattle.wire.specs.Rfc791.{header_length_lem}
use Rattle.wire.specs.Rfc894.{body}
use Rattle.record.specs.Answer.{Writing}
use Rattle.record.specs.Guest.{spent}
use Rattle.record.specs.declared.guest.Guest.{Guest}
use Rattle.record.specs.declared.network.Network.{Network}
use Rattle.rules.proofs.Says.{Says, says}
use Rattle.echo_reply.specs.Reply.{echo_frame}
use Rattle.arp_reply.specs.Reply.{arp_reply_lem}
use Rattle.dhcp_reply.specs.Reply.{dhcp_frame}
use Rattle.rules.specs.Room.{Ample, for_all, for_this}
use Rattle.rules.specs.Rules.{decision, outcome, outcome_of}
use Rattle.record.specs.Answer.{framing}
use Rattle.record.specs.Guest.{noting}
use Rattle.rules.specs.Seen.{EchoAsked}
use Rattle.std.specs.Prelude.{Result, Ok, Err}
use Rattle.record.specs.declared.answer.Refusal.{Refusal}
use Rattle.record.specs.declared.answer.Refusal.TheVariants.{NoRoom, TooLong, CutType}
use Rattle.rules.specs.declared.decision.Decision.{Decision}
use Rattle.rules.specs.declared.decision.Decision.TheVariants.{Drop, DropNoting, ArpReply, EchoReply, DhcpReply, Dns, Relay, Tcp}

-- A ping has a stated header of 4 bytes or more: with none, the byte that says so would be the one that says that it is a request, 8.
stated : (net : Network) (frame : List ℕ) → EchoAsked net frame → 4 ≤ header_length_lem (body frame)
stated net frame asked = go (get_or (drop 14 frame) 0 0 % 16) refl
  where
    go : (n : ℕ) → get_or (drop 14 frame) 0 0 % 16 ≡ n → 4 ≤ get_or (drop 14 frame) 0 0 % 16 * 4
    go zero e =
        let first : get_or (drop 14 frame) 0 0 ≡ 8 = subst (λ (k : ℕ). get_or (drop (14 + k * 4) frame) 0 0 ≡ 8) e asked.request in
        absurd (omega (arith, e, ap (λ (b : ℕ). b % 16) first))
    go (suc n) e = omega (arith, e)

module _ (guest : Guest) (frame : List ℕ) (room : ℕ) where
  abbrev net : Network
  net = guest.network

  -- the number that the answer has, and the first of its values
  number : Result Decision Refusal → ℕ
  number d = get_or (outcome_of guest frame room d).writing.numbers 0 0

  value : Result Decision Refusal → ℕ
  value d = get_or (outcome_of guest frame room d).writing.numbers 1 0

  framing_fits : (after : Guest) (need : ℕ) (image : List ℕ) → need ≤ room → get_or (framing guest after need room image).writing.numbers 0 0 ≡ 5 → ⊥
  unfolding framing
  framing_fits after need image h e =
      let one = rw (le-ltb _ _ h) at e in
      omega (arith, one)

  five : ℕ → Writing
  five need = record { numbers = 5 ∷ need ∷ []; image = [] }

  one : ℕ → List ℕ → Writing
  one need image = record { numbers = 1 ∷ need ∷ []; image = image }

  framing_tells : (after : Guest) (need : ℕ) (image : List ℕ) → get_or (framing guest after need room image).writing.numbers 1 0 ≡ need
  unfolding framing five one
  framing_tells after need image = go (ltb room need)
    where
      go : (t : Bool) → get_or (cond t (five need) (one need image)).numbers 1 0 ≡ need
      go true = refl
      go false = refl

  -- a ping's reply, in bytes
  echo_needs : (start : ℕ) → Says net frame (Ok (EchoReply start)) → (34 + length (drop start frame) ≤ 65549) × (34 + length (drop start frame) ≤ length frame + 16)
  unfolding Says
  echo_needs start s =
      let most = subst (λ (n : ℕ). length (drop n frame) ≤ 65515) (sym s.1) s.2 in
      (omega (arith, most), omega (arith, length-drop start frame, s.1, stated net frame s.0, subst (λ (n : ℕ). 8 ≤ length (drop n frame)) (sym s.1) s.0.whole))

  fits : (need : ℕ) → Ample frame room → need ≤ 65549 → (need ≤ 342) ⊎ (need ≤ length frame + 16) → need ≤ room
  fits need (for_all h) all this = omega (arith, h, all)
  fits need (for_this a b) all (inl h) = omega (arith, a, h)
  fits need (for_this a b) all (inr h) = omega (arith, b, h)

  no_five : (d : Result Decision Refusal) → Says net frame d → Ample frame room → number d ≡ 5 → ⊥
  unfolding Says number outcome_of
  no_five (Ok Drop) s ample e = omega (arith, e)
  no_five (Ok (DropNoting xid)) s ample e = omega (arith, e)
  no_five (Ok ArpReply) s ample e = framing_fits _ 42 _ (fits 42 ample (omega arith) (inl (omega arith))) e
  no_five (Ok (EchoReply start)) s ample e = framing_fits _ _ _ (fits _ ample (echo_needs start s).0 (inr (echo_needs start s).1)) e
  no_five (Ok (DhcpReply xid type)) s ample e = framing_fits _ 342 _ (fits 342 ample (omega arith) (inl (omega arith))) e
  no_five (Ok (Dns start len)) s ample e = omega (arith, e)
  no_five (Ok (Relay start len)) s ample e = omega (arith, e)
  no_five (Ok (Tcp len)) s ample e = omega (arith, e)
  no_five (Err (NoRoom needed)) s ample e = absurd s
  no_five (Err (TooLong len)) s ample e = omega (arith, e)
  no_five (Err (CutType place)) s ample e = omega (arith, e)

  -- with ample room 5 is never to come
  pub never_five : Ample frame room → get_or (outcome guest frame room).writing.numbers 0 0 ≡ 5 → ⊥
  unfolding outcome number
  never_five = no_five (decision net frame) (says net frame)

  no_longer : (d : Result Decision Refusal) → Says net frame d → number d ≡ 1 → value d ≤ 65549
  unfolding Says number value outcome_of
  no_longer (Ok Drop) s e = omega arith
  no_longer (Ok (DropNoting xid)) s e = omega arith
  no_longer (Ok ArpReply) s e = omega (arith, framing_tells guest 42 (arp_reply_lem net frame))
  no_longer (Ok (EchoReply start)) s e = omega (arith, framing_tells (spent guest) (34 + length (drop start frame)) (echo_frame guest frame start), (echo_needs start s).0)
  no_longer (Ok (DhcpReply xid type)) s e = omega (arith, framing_tells (spent (noting xid guest)) 342 (dhcp_frame guest frame xid type))
  no_longer (Ok (Dns start len)) s e = absurd (omega (arith, e))
  no_longer (Ok (Relay start len)) s e = absurd (omega (arith, e))
  no_longer (Ok (Tcp len)) s e = absurd (omega (arith, e))
  no_longer (Err (NoRoom needed)) s e = absurd s
  no_longer (Err (TooLong len)) s e = absurd (omega (arith, e))
  no_longer (Err (CutType place)) s e = absurd (omega (arith, e))

  -- a reply has at most 65,549 bytes
  pub never_longer : get_or (outcome guest frame room).writing.numbers 0 0 ≡ 1 → get_or (outcome guest frame room).writing.numbers 1 0 ≤ 65549
  unfolding outcome number value
  never_longer = no_longer (decision net frame) (says net frame)
