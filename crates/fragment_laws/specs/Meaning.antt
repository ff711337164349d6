-- What a store means: which bytes of which datagram are known, and who brought them.
use Rattle.std.specs.Prelude.{Option, ℕ, ◌*◌, ◌/◌, ◌<◌, ◌≡◌, List, [], ◌∷◌, get_or}
use Rattle.bitmap.specs.Bitmap.{bit}
use Rattle.fragment_packets.specs.declared.packet.Datagram.{Datagram}
use Rattle.fragment_rules.specs.declared.answer.State.{State}
use Rattle.fragment_rules.specs.declared.answer.State.TheVariants.{Empty, Filling, Complete}
use Rattle.fragment_laws.specs.Trains.{Some, piece, Fit, Covers, byte_for}

-- a frame brought the byte that stands at a place: it is a fit fragment of the datagram, covers the place and has this byte for it
pub record Brought (d : Datagram) (bytes : List ℕ) (place : ℕ) (frame : List ℕ) : Type 0 where
  pub fit : Fit frame
  pub of_it : (piece frame).datagram ≡ d
  pub covers : Covers place frame
  pub byte : get_or bytes place 0 ≡ byte_for place frame

-- a place before the end, as far as the end is known
abbrev pub BeforeEnd : Option ℕ → (place : ℕ) → Type 0
BeforeEnd Option.None place = Unit
BeforeEnd (Option.Some end) place = place < end

-- each byte of a block that is there, before the end, was brought by one of the frames that have come
abbrev pub Knows : Datagram → Option ℕ → (bytes bits : List ℕ) (came : List (List ℕ)) → Type 0
Knows d end bytes bits came = (place : ℕ) → bit bits (place / 8) ≡ 1 → BeforeEnd end place → Some (Brought d bytes place) came

-- what a store means after these frames: empty, no block is there; filling, what is there was brought; complete, and nothing is missing
abbrev pub Means : State → (bytes bits : List ℕ) (came : List (List ℕ)) → Type 0
Means Empty bytes bits came = (b : ℕ) → bit bits b ≡ 0
Means (Filling d end) bytes bits came = Knows d end bytes bits came
Means (Complete d n) bytes bits came = Knows d (Option.Some n) bytes bits came × ((b : ℕ) → b * 8 < n → bit bits b ≡ 1)

-- the frames that have come, the latest first
abbrev pub onto : (frames came : List (List ℕ)) → List (List ℕ)
onto [] came = came
onto (frame ∷ frames) came = onto frames (frame ∷ came)
