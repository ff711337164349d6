-- What an exported call tells its caller in C: a number, and values behind it.
use Rattle.std.specs.Prelude.{ℕ, ◌≡◌, List, ◌∷◌, ◌++◌, length, drop}
use Rattle.frames.specs.Builders.{make_ip_frame_lem}
use Rattle.rules.specs.Rules.{outcome}
use Rattle.tcp.specs.Builders.{make_tcp_frame_lem}
use Rattle.tcp.specs.declared.Endpoints.{Endpoints}
use Rattle.verdict_numbers.specs.Numbers.{padded}
use Rattle.record.specs.Answer.{Writing, Outcome}
use Rattle.record.specs.declared.guest.Guest.{Guest}

-- The promise of a call that writes: the number and the values are those that are to come, and so is every byte of the buffer.
pub record Told (w : Writing) (before after : List ℕ) (number : ℕ) (values : List ℕ) : Type 0 where
  pub numbers : number ∷ values ≡ padded w.numbers
  pub bytes : after ≡ w.image ++ drop (length w.image) before

-- The promise of a call that is lent the record: besides, the record is the one that is to come.
pub record Sent (o : Outcome) (before after : List ℕ) (number : ℕ) (values : List ℕ) (stored : Guest) : Type 0 where
  pub told : Told o.writing before after number values
  pub guest : stored ≡ o.guest

-- The promise of a call that is lent the record's id alone: it is that of every record with this id.
pub record Built (lent : ℕ) (made : Guest → Outcome) (before after : List ℕ) (number : ℕ) (values : List ℕ) (stored : ℕ) : Type 0 where
  pub told : (guest : Guest) → guest.id ≡ lent → Told (made guest).writing before after number values
  pub id : (guest : Guest) → guest.id ≡ lent → stored ≡ (made guest).guest.id

-- What the exported calls on a record promise. `yavoledu_send` is lent the record,
abbrev pub Sends : (guest : Guest) (frame before after : List ℕ) (number : ℕ) (values : List ℕ) (stored : Guest) → Type 0
Sends guest frame before after number values stored = Sent (outcome guest frame (length before)) before after number values stored

-- the builders of frames its id.
abbrev pub MakesIpFrame : (id : ℕ) (mac source target : List ℕ) (protocol : ℕ) (payload before after : List ℕ) (number : ℕ) (values : List ℕ) (stored : ℕ) → Type 0
MakesIpFrame id mac source target protocol payload before after number values stored =
    Built id (λ (guest : Guest). make_ip_frame_lem guest mac source target protocol payload (length before)) before after number values stored

abbrev pub MakesTcpFrame : (id : ℕ) → Endpoints → (seq ack flags : ℕ) (body before after : List ℕ) (number : ℕ) (values : List ℕ) (stored : ℕ) → Type 0
MakesTcpFrame id ends seq ack flags body before after number values stored =
    Built id (λ (guest : Guest). make_tcp_frame_lem guest ends seq ack flags body (length before)) before after number values stored
