-- The walk run on a reply finds the type that was put in: the two definitions agree on what an option is.
-- With any number for a message without a type, so that a reply of type 0 is told from one without.
use Prim.Native.Nat.{ℕ}
use mathlib.Core.Path.{◌≡◌, refl}
use mathlib.Core.List.{List}
use lib.ListN.{length}
use Rattle.record.specs.declared.network.Network.{Network}
use Rattle.base.proofs.Lists.{all_bytes_lem}
use Rattle.dhcp_message.specs.Message.{reply}
use Rattle.options.specs.Rfc2132.{typed, walk, walk_or, walk_from}
use Rattle.record.specs.Network.{FourBytes}

pub round_trip_or : (none : ℕ) (net : Network) (mac : List ℕ) (xid type : ℕ) → FourBytes net → length mac ≡ 6 → walk_or none (reply net mac xid type) ≡ typed type
unfolding walk_or walk_from reply
round_trip_or none net mac xid type four six =
    rw (all_bytes_lem net.guest 4 four.guest, all_bytes_lem net.gateway 4 four.gateway, all_bytes_lem net.mask 4 four.mask, all_bytes_lem mac 6 six) refl

-- with document 01's number for it, 0
pub round_trip : (net : Network) (mac : List ℕ) (xid type : ℕ) → FourBytes net → length mac ≡ 6 → walk (reply net mac xid type) ≡ typed type
unfolding walk walk_or
round_trip net mac xid type four six = round_trip_or 0 net mac xid type four six
