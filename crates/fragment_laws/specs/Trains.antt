-- A train: the fragments of one datagram, and every order in which they can come. From document 02, request 4/13: "for fragments of one
-- datagram that none get 10, don't overlap, cover it from 0 and have exactly one last, which ends furthest, every order of arrival in an
-- empty store, with no release or other datagram's fragment between, ends complete, and each byte of the payload is the byte of the fragment
-- that covers its place".
use Rattle.std.specs.Prelude.{Option, ℕ, ◌+◌, ◌-◌, ◌≤◌, ◌<◌, true, cond, ◌⊎◌, ◌≡◌, List, [], ◌∷◌, length, get_or}
use Rattle.base.specs.Runs.{each}
use Rattle.wire.specs.Rfc894.{body}
use Rattle.fragments.specs.Answer.{stored, complete, refused, said_for}
use Rattle.fragments.specs.Handing.{stored_payload}
use Rattle.fragment_packets.specs.Packets.{packet_of, fragment_of}
use Rattle.fragment_packets.specs.Packets.{end_of}
use Rattle.fragment_packets.specs.declared.packet.Datagram.{Datagram}
use Rattle.fragment_rules.specs.declared.answer.State.TheVariants.{Complete}
use Rattle.fragment_packets.specs.declared.packet.Fragment.{Fragment}
use Rattle.fragment_packets.specs.declared.packet.Packet.TheVariants.{Part}
use Rattle.fragment_laws.specs.Calls.{Store, Sized, Vacant, Call, Asked, taking, after, Runs, asks, leaves}

-- one list is the other in another order
pub data Permuted {A : Type 0} : List A → List A → Type 0 where
  done : Permuted [] []
  keep : {x : A} {xs ys : List A} → Permuted xs ys → Permuted (x ∷ xs) (x ∷ ys)
  swap : {x y : A} {xs : List A} → Permuted (x ∷ y ∷ xs) (y ∷ x ∷ xs)
  join : {xs ys zs : List A} → Permuted xs ys → Permuted ys zs → Permuted xs zs

-- what holds of each, of some, of each two
abbrev pub All : {A : Type 0} → (A → Type 0) → List A → Type 0
All P [] = Unit
All P (x ∷ xs) = P x × All P xs

abbrev pub Some : {A : Type 0} → (A → Type 0) → List A → Type 0
Some P [] = ⊥
Some P (x ∷ xs) = P x ⊎ Some P xs

abbrev pub EachTwo : {A : Type 0} → (A → A → Type 0) → List A → Type 0
EachTwo R [] = Unit
EachTwo R (x ∷ xs) = All (R x) xs × EachTwo R xs

-- the fragment in a frame
abbrev pub piece : (frame : List ℕ) → Fragment
piece frame = fragment_of (body frame)

-- a fragment that doesn't get 10 from a store of the right size
abbrev pub Fit : (frame : List ℕ) → Type 0
Fit frame = packet_of frame ≡ Option.Some (Part (piece frame))

-- the fragment covers a place of the datagram's payload, and has this byte for it
abbrev pub Covers : (place : ℕ) (frame : List ℕ) → Type 0
Covers place frame = ((piece frame).offset ≤ place) × (place < end_of (piece frame))

abbrev pub byte_for : (place : ℕ) (frame : List ℕ) → ℕ
byte_for place frame = get_or frame ((piece frame).start + (place - (piece frame).offset)) 0

-- two fragments don't overlap
abbrev pub Apart : (one other : List ℕ) → Type 0
Apart one other = (end_of (piece one) ≤ (piece other).offset) ⊎ (end_of (piece other) ≤ (piece one).offset)

-- how many lasts there are
abbrev pub lasts : (frames : List (List ℕ)) → ℕ
lasts [] = 0
lasts (frame ∷ frames) = cond (piece frame).last 1 0 + lasts frames

-- the fragments of a datagram whose payload is `end` bytes long
pub record Train (datagram : Datagram) (end : ℕ) (frames : List (List ℕ)) : Type 0 where
  pub none_gets_10 : All Fit frames
  pub of_one_datagram : All (λ (frame : List ℕ). (piece frame).datagram ≡ datagram) frames
  pub do_not_overlap : EachTwo Apart frames
  pub cover_from_0 : (place : ℕ) → place < end → Some (Covers place) frames
  pub one_last : lasts frames ≡ 1
  pub which_ends : Some (λ (frame : List ℕ). ((piece frame).last ≡ true) × (end_of (piece frame) ≡ end)) frames
  pub furthest : All (λ (frame : List ℕ). end_of (piece frame) ≤ end) frames

-- each frame taken, in the order of the list
abbrev pub takings : (frames : List (List ℕ)) → List Asked
takings = each taking

-- "the last call answers complete and the earlier ones stored"
abbrev pub StoredThenComplete : List Call → Type 0
StoredThenComplete [] = ⊥
StoredThenComplete (call ∷ []) = said_for call.taken.answer ≡ complete
StoredThenComplete (call ∷ next ∷ rest) = (said_for call.taken.answer ≡ stored) × StoredThenComplete (next ∷ rest)

-- a frame that is no fit fragment, of this or another datagram: it passes or gets 10
abbrev pub PassesBy : (frame : List ℕ) → Type 0
PassesBy frame = (f : Fragment) → packet_of frame ≡ Option.Some (Part f) → ⊥

-- Calls of a train among all calls: between them frames pass by, and there is "no release or other datagram's fragment between".
pub data Among : (its calls : List Call) → Type 0 where
  none : Among [] []
  its_own : {call : Call} {its calls : List Call} → Among its calls → Among (call ∷ its) (call ∷ calls)
  passing : {call : Call} {its calls : List Call} (frame : List ℕ) → call.asked ≡ taking frame → PassesBy frame → Among its calls → Among its (call ∷ calls)

-- The datagram has arrived: the answers of its own calls, and in the store that is left the state and the payload that is handed out, byte by byte.
pub record Arrived (datagram : Datagram) (end : ℕ) (frames : List (List ℕ)) (its : List Call) (left : Store) : Type 0 where
  pub answers : StoredThenComplete its
  pub held : left.state ≡ Complete datagram end
  pub as_long : length (stored_payload left.bytes left.state) ≡ end
  pub each_byte : (place : ℕ) → All (λ (frame : List ℕ). Covers place frame → get_or (stored_payload left.bytes left.state) place 0 ≡ byte_for place frame) frames

-- A complete store stands: a call leaves it as it was, and a fit fragment gets 11.
pub record Stands (store : Store) (call : Call) : Type 0 where
  pub as_it_was : after call ≡ store
  pub gets_11 : Sized store → (frame : List ℕ) → call.asked ≡ taking frame → Fit frame → said_for call.taken.answer ≡ refused 11

-- the order theorem's statement
abbrev pub EveryOrder : Type 0
EveryOrder =
    (datagram : Datagram) (end : ℕ) (frames order : List (List ℕ)) (store : Store) (its calls : List Call)
    → Train datagram end frames → Permuted frames order → Vacant store → Runs store calls → Among its calls → asks its ≡ takings order
    → Arrived datagram end frames its (leaves store calls)
