-- Whatever comes of a frame, the record keeps its MAC and its network, decision by decision.
use Prim.Native.Nat.{ℕ}
use mathlib.Core.Bool.{Bool, true, false, cond}
use mathlib.Core.List.{List}
use mathlib.Core.Path.{refl}
use lib.Dec.{ltb}
use Rattle.record.specs.Answer.{framing}
use Rattle.record.specs.Guest.{Settled, noting, spent}
use Rattle.record.specs.declared.guest.Guest.{Guest}
use Rattle.rules.specs.Rules.{decision, outcome, outcome_of}
use Rattle.std.specs.Prelude.{Result, Ok, Err}
use Rattle.record.specs.declared.answer.Refusal.{Refusal}
use Rattle.record.specs.declared.answer.Refusal.TheVariants.{NoRoom, TooLong, CutType}
use Rattle.rules.specs.declared.decision.Decision.{Decision}
use Rattle.rules.specs.declared.decision.Decision.TheVariants.{Drop, DropNoting, ArpReply, EchoReply, DhcpReply, Dns, Relay, Tcp}

module _ (guest : Guest) (frame : List ℕ) (room : ℕ) where
  same : Settled guest guest
  same = record { mac_kept = refl; network_kept = refl }

  -- the old record, or the next one, by the room
  by_room : (t : Bool) (next : Guest) → Settled guest next → Settled guest (cond t guest next)
  by_room true next s = same
  by_room false next s = s

  settled_by : (d : Result Decision Refusal) → Settled guest (outcome_of guest frame room d).guest
  unfolding outcome_of framing
  settled_by (Ok Drop) = same
  settled_by (Ok (DropNoting xid)) = record { mac_kept = refl; network_kept = refl }
  settled_by (Ok ArpReply) = by_room (ltb room 42) guest same
  settled_by (Ok (EchoReply start)) = by_room (ltb room _) (spent guest) (record { mac_kept = refl; network_kept = refl })
  settled_by (Ok (DhcpReply xid type)) = by_room (ltb room 342) (spent (noting xid guest)) (record { mac_kept = refl; network_kept = refl })
  settled_by (Ok (Dns start len)) = same
  settled_by (Ok (Relay start len)) = same
  settled_by (Ok (Tcp len)) = same
  settled_by (Err (NoRoom needed)) = same
  settled_by (Err (TooLong len)) = same
  settled_by (Err (CutType place)) = same

  pub outcome_settled : Settled guest (outcome guest frame room).guest
  unfolding outcome
  outcome_settled = settled_by (decision guest.network frame)
