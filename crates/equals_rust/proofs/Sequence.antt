-- A guest's calls one after the other, and the same frames sent to one backend of the Rust: each answer is the Rust's, and the record is carried on alike.
use Prim.Native.Nat.{ℕ}
use mathlib.Core.Path.{sym, subst, ◌∙◌}
use mathlib.Core.Bool.{Bool, true, false, cond}
use mathlib.Core.List.{List, [], ◌∷◌}
use native.Mathlib.Omega.{arith}
use lib.Dec.{ltb}
use lib.ListN.{length}
use Rattle.equals_rust.specs.Network.{rust_network}
use Rattle.record.specs.Guest.{noting, spent}
use Rattle.record.specs.declared.guest.Guest.{Guest}
use Rattle.published.specs.Backend.{SlirpBackend}
use Rattle.rules.specs.Rules.{decision, outcome_of, outcome}
use Rattle.record.specs.Answer.{framing}
use Rattle.std.specs.Prelude.{Result, Ok, Err}
use Rattle.record.specs.declared.answer.Refusal.{Refusal}
use Rattle.record.specs.declared.answer.Refusal.TheVariants.{NoRoom, TooLong, CutType}
use Rattle.rules.specs.declared.decision.Decision.{Decision}
use Rattle.rules.specs.declared.decision.Decision.TheVariants.{Drop, DropNoting, ArpReply, EchoReply, DhcpReply, Dns, Relay, Tcp}
use Rattle.equals_rust.specs.Alike.{record_of}
use Rattle.equals_rust.specs.Sequence.{Exchange, Served, AsTheRust}
use Rattle.equals_rust.specs.Types.{GuestTyped}
use Rattle.equals_rust.proofs.Demand2.{handle_equals_the_rust}

-- a record stays what its types say: its MAC is kept, and its id is the old one or the next
module _ (guest : Guest) (typed : GuestTyped guest) where
  spent_typed : GuestTyped (spent guest)
  spent_typed = record { mac = typed.mac; id = omega arith }

  noted_typed : (xid : ℕ) → GuestTyped (noting xid guest)
  noted_typed xid = record { mac = typed.mac; id = typed.id }

  both_typed : (xid : ℕ) → GuestTyped (spent (noting xid guest))
  both_typed xid = record { mac = typed.mac; id = omega arith }

  framed_typed : (next : Guest) (need room : ℕ) (image : List ℕ) → GuestTyped next → GuestTyped (framing guest next need room image).guest
  unfolding framing
  framed_typed next need room image t = go (ltb room need)
    where
      go : (short : Bool) → GuestTyped (cond short guest next)
      go true = typed
      go false = t

  outcome_typed : (frame : List ℕ) (room : ℕ) (d : Result Decision Refusal) → GuestTyped (outcome_of guest frame room d).guest
  unfolding outcome_of
  outcome_typed frame room (Ok Drop) = typed
  outcome_typed frame room (Ok (DropNoting xid)) = noted_typed xid
  outcome_typed frame room (Ok ArpReply) = framed_typed guest 42 room _ typed
  outcome_typed frame room (Ok (EchoReply start)) = framed_typed _ _ room _ spent_typed
  outcome_typed frame room (Ok (DhcpReply xid type)) = framed_typed _ 342 room _ (both_typed xid)
  outcome_typed frame room (Ok (Dns start len)) = typed
  outcome_typed frame room (Ok (Relay start len)) = typed
  outcome_typed frame room (Ok (Tcp len)) = typed
  outcome_typed frame room (Err (NoRoom needed)) = typed
  outcome_typed frame room (Err (TooLong len)) = typed
  outcome_typed frame room (Err (CutType place)) = typed

-- however many frames
pub sequence_equals_the_rust : (xs : List Exchange) (self : SlirpBackend) → GuestTyped (record_of self) → Served (record_of self) xs → AsTheRust self xs
unfolding outcome
sequence_equals_the_rust [] self typed served = tt
sequence_equals_the_rust (x ∷ xs) self typed (m, rest) = λ b e room.
    let equal = handle_equals_the_rust self x.frame typed x.bytes x.before x.after x.answer m b e room in
    let kept = subst GuestTyped (sym m.guest ∙ equal.guest) (outcome_typed (record_of self) typed x.frame (length x.before) (decision rust_network x.frame)) in
    (equal, sequence_equals_the_rust xs b kept (subst (λ (g : Guest). Served g xs) equal.guest rest))
