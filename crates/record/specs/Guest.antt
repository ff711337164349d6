-- A guest's record (document 01, "The record", and document 02, 1/13), and all that makes or changes one. No other definition names its fields to make one.
use Rattle.std.specs.Prelude.{◌≡◌, ℕ, ◌+◌, ◌%◌, List, length}
use Rattle.record.specs.Network.{FourBytes}
use Rattle.record.specs.declared.guest.Guest.{Guest}
use Rattle.record.specs.declared.network.Network.{Network}

-- a record by what it holds
abbrev pub known : (mac : List ℕ) (id xid : ℕ) → Network → Guest
known mac id xid network = record { mac = mac; id = id; xid = xid; network = network }

-- a new guest's: "next IP id (starts at 1) and last DHCP xid (starts at 0)"
abbrev pub fresh : (mac : List ℕ) → Network → Guest
fresh mac network = known mac 1 0 network

-- the record with this id next
abbrev pub with_id : (id : ℕ) → Guest → Guest
with_id id g = record { mac = g.mac; id = id; xid = g.xid; network = g.network }

-- once its id is in a frame: the id "grows by 1 and goes from 65,535 to 0"
abbrev pub spent : Guest → Guest
spent g = with_id ((g.id + 1) % 65536) g

-- once it has a message with this xid
abbrev pub noting : (xid : ℕ) → Guest → Guest
noting xid g = record { mac = g.mac; id = g.id; xid = xid; network = g.network }

-- the lengths that a record's arrays have by their types
pub record Sized (guest : Guest) : Type 0 where
  pub mac : length guest.mac ≡ 6
  pub network : FourBytes guest.network

-- what no call changes in a record
pub record Settled (guest next : Guest) : Type 0 where
  pub mac_kept : next.mac ≡ guest.mac
  pub network_kept : next.network ≡ guest.network
