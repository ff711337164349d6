-- "A record is made by one call" (document 02, 1/13), and what comes of it.
use Rattle.std.specs.Prelude.{ℕ, ◌≡◌, List, [], ◌∷◌, Option, Some, None, Result, Ok, Err}
use Rattle.record.specs.Guest.{fresh}
use Rattle.record.specs.Network.{number}
use Rattle.record.specs.declared.guest.Guest.{Guest}
use Rattle.record.specs.declared.network.Network.{Network}
use Rattle.good_network.specs.Good.{Good}
use Rattle.making.specs.declared.call.BadRecord.{BadRecord}

-- "if that names no lease time, it is 86,400 seconds"
abbrev pub default_lease : ℕ
default_lease = 86400

abbrev pub lease_of : Option ℕ → ℕ
lease_of (Some seconds) = seconds
lease_of None = default_lease

-- the network of these addresses
abbrev pub network_of : (gateway guest mask : List ℕ) → Option ℕ → Network
network_of gateway guest mask lease = record { gateway = gateway; guest = guest; mask = mask; lease = lease_of lease }

abbrev pub GoodNetwork : (gateway guest mask : List ℕ) → Type 0
GoodNetwork gateway guest mask = Good (number gateway) (number guest) (number mask)

-- the number of an answer: "9 bad record" is document 02's; the other is ours, past all of its
abbrev pub number_of : {A : Type 0} → Result A BadRecord → ℕ
number_of (Ok made) = 24
number_of (Err bad) = 9

abbrev pub paper : {A : Type 0} → Result A BadRecord → List ℕ
paper answer = number_of answer ∷ []

-- the one value of the error
abbrev pub bad_record : BadRecord
bad_record = record {}

-- What comes of the call: 24 and a new guest's record exactly where its network is good, and else 9 and no record.
pub data Makes (mac gateway guest mask : List ℕ) (lease : Option ℕ) (answer : Result Guest BadRecord) : Type 0 where
  made : GoodNetwork gateway guest mask → answer ≡ Ok (fresh mac (network_of gateway guest mask lease)) → Makes mac gateway guest mask lease answer
  refused : (GoodNetwork gateway guest mask → ⊥) → answer ≡ Err bad_record → Makes mac gateway guest mask lease answer
