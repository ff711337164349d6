-- The calls on a store as a host in C makes them, one after the other on the same memory.
use Rattle.std.specs.Prelude.{ℕ, ◌≡◌, List, [], ◌∷◌, length, get_or}
use Rattle.base.specs.Runs as every
use Rattle.fragment_laws.specs.Calls.{Store, Asked, taking, releasing, Of64Bits}
use Rattle.fragment_laws.specs.Trains.{All, Covers, byte_for}
use Rattle.fragments.specs.Handing.{stored_payload}
use Rattle.fragment_packets.specs.declared.packet.Datagram.{Datagram}
use Rattle.fragment_rules.specs.declared.answer.State.TheVariants.{Complete}
use Rattle.host.specs.Reassembly.{Took, Freed}
use Rattle.store_words.specs.Words.{state_of}

-- what C lends for a guest: the six words, the bytes and the bits
pub record Lent : Type 0 where
  pub words : List ℕ
  pub bytes : List ℕ
  pub bits : List ℕ

-- the store that it is
abbrev pub store_of : Lent → Store
store_of lent = record { state = state_of lent.words; bytes = lent.bytes; bits = lent.bits }

-- A call that was made: what was asked, what it left in the memory, and what it told.
pub record Made : Type 0 where
  pub asked : Asked
  pub left : Lent
  pub number : ℕ
  pub place : List ℕ

-- what the exported function promises of what was asked (a release tells no place, and is lent the bytes to look at)
abbrev pub PromisedIt : Asked → Lent → Made → Type 0
PromisedIt (taking frame) lent made =
    Took lent.words frame lent.bytes lent.bits made.left.words made.left.bytes made.left.bits made.place made.number
    × Of64Bits made.left.bits
PromisedIt releasing lent made =
    Freed lent.words lent.bytes lent.bits made.left.words made.left.bits made.number
    × (made.left.bytes ≡ lent.bytes)
    × Of64Bits made.left.bits

-- a call kept it
abbrev pub KeepsIt : Lent → Made → Type 0
KeepsIt lent made = PromisedIt made.asked lent made

-- calls one after the other
abbrev pub Makes : Lent → List Made → Type 0
Makes = every.Runs KeepsIt (λ (made : Made). made.left)

-- what they leave
abbrev pub last_lent : Lent → List Made → Lent
last_lent = every.leaves KeepsIt (λ (made : Made). made.left)

-- what was asked in them
abbrev pub asks_of : List Made → List Asked
asks_of = every.each (λ (made : Made). made.asked)

-- the last call tells 22, complete, and the earlier ones 21, stored
abbrev pub Told21Then22 : List Made → Type 0
Told21Then22 [] = ⊥
Told21Then22 (made ∷ []) = made.number ≡ 22
Told21Then22 (made ∷ next ∷ rest) = (made.number ≡ 21) × Told21Then22 (next ∷ rest)

-- the payload that stands in C's memory, once it is complete: what the core hands out
abbrev pub payload_in : Store → List ℕ
payload_in store = stored_payload store.bytes store.state

-- The datagram has arrived in C's memory: the numbers told, the state, and the payload, byte by byte.
pub record ArrivedThere (datagram : Datagram) (end : ℕ) (frames : List (List ℕ)) (lent : Lent) (made : List Made) : Type 0 where
  pub numbers : Told21Then22 made
  pub held : state_of (last_lent lent made).words ≡ Complete datagram end
  pub as_long : length (payload_in (store_of (last_lent lent made))) ≡ end
  pub each_byte : (place : ℕ) → All (λ (frame : List ℕ). Covers place frame → get_or (payload_in (store_of (last_lent lent made))) place 0 ≡ byte_for place frame) frames
