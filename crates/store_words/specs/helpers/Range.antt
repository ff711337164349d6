-- No reader has to believe this: that numbers are in the range of their types, from which it is proved that the words of a state are read as it.
use Rattle.std.specs.Prelude.{ℕ, ◌<◌, Option, Some, None}
use Rattle.fragment_packets.specs.declared.packet.Datagram.{Datagram}
use Rattle.fragment_rules.specs.declared.answer.State.{State}
use Rattle.fragment_rules.specs.declared.answer.State.TheVariants.{Empty, Filling, Complete}

-- the numbers of a datagram's name that have fewer bits than a word are in range
abbrev pub NameInRange : Datagram → Type 0
NameInRange d = (d.protocol < 256) × (d.id < 65536)

abbrev pub EndInRange : Option ℕ → Type 0
EndInRange None = Unit
EndInRange (Some end) = end < 65536

-- and those of a state
abbrev pub InRange : State → Type 0
InRange Empty = Unit
InRange (Filling d end) = NameInRange d × EndInRange end
InRange (Complete d length) = NameInRange d × (length < 65536)
