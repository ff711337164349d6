-- The call over a record that stands already, as C makes it over memory that it lends.
use Rattle.std.specs.Prelude.{ℕ, cond, ◌≡◌, List, eqb, Option, Some, None}
use Rattle.record.specs.Guest.{fresh}
use Rattle.record.specs.declared.guest.Guest.{Guest}
use Rattle.making.specs.Making.{GoodNetwork, network_of}

-- any number but 0 names the lease time
abbrev pub lease_asked : (named seconds : ℕ) → Option ℕ
lease_asked named seconds = cond (eqb named 0) None (Some seconds)

-- What comes of it: 24 and a new guest's record exactly where its network is good; else 9, and what stood there stands there still.
pub data MadeOver (old : Guest) (mac gateway guest mask : List ℕ) (lease : Option ℕ) (number : ℕ) (stored : Guest) : Type 0 where
  made : GoodNetwork gateway guest mask → number ≡ 24 → stored ≡ fresh mac (network_of gateway guest mask lease)
      → MadeOver old mac gateway guest mask lease number stored
  refused : (GoodNetwork gateway guest mask → ⊥) → number ≡ 9 → stored ≡ old → MadeOver old mac gateway guest mask lease number stored
