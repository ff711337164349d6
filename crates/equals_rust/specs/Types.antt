-- What the types of the code say, where natural numbers and lists stand for them.
use Rattle.std.specs.Prelude.{ℕ, ◌<◌, ◌≡◌, List, [], ◌∷◌, length}
use Rattle.record.specs.declared.guest.Guest.{Guest}
use Rattle.tcp.specs.declared.Endpoints.{Endpoints}

-- each element is a `u8`
abbrev pub Bytes : List ℕ → Type 0
Bytes [] = Unit
Bytes (b ∷ s) = (b < 256) × Bytes s

-- `[u8; n]`
pub record Array (n : ℕ) (s : List ℕ) : Type 0 where
  pub long : length s ≡ n
  pub bytes : Bytes s

-- a guest's record, as far as it matters: nothing hangs on its xid being a `u32`
pub record GuestTyped (guest : Guest) : Type 0 where
  pub mac : Array 6 guest.mac
  pub id : guest.id < 65536

-- the fields of the ends of a connection
pub record EndsTyped (ends : Endpoints) : Type 0 where
  pub mac : Array 6 ends.dst_mac
  pub source : Array 4 ends.src_ip
  pub source_port_lem : ends.src_port < 65536
  pub target : Array 4 ends.dst_ip
  pub target_port_lem : ends.dst_port < 65536
