-- A host's calls on stores, one after the other: what was asked, and what came back.
use Rattle.std.specs.Prelude.{ℕ, ◌^◌, ◌<◌, ◌≡◌, List, length, get_or}
use Rattle.base.specs.Runs as every
use Rattle.bitmap.specs.Bitmap.{bit}
use Rattle.fragments.specs.Promises.{Takes, Releases}
use Rattle.fragment_rules.specs.declared.answer.State.{State}
use Rattle.fragment_rules.specs.declared.answer.State.TheVariants.{Empty}
use Rattle.fragments.specs.declared.answer.Taken.{Taken}

-- A guest's store: its state, its payload bytes and its bitmap.
pub record Store : Type 0 where
  pub state : State
  pub bytes : List ℕ
  pub bits : List ℕ

-- "65,515 payload bytes, and 128 words"
pub record Sized (store : Store) : Type 0 where
  pub bytes_lent : length store.bytes ≡ 65515
  pub bits_lent : length store.bits ≡ 128

-- an empty store: nothing is held and no block is there
pub record Vacant (store : Store) : Type 0 where
  pub sized : Sized store
  pub holds_nothing : store.state ≡ Empty
  pub no_block : (b : ℕ) → bit store.bits b ≡ 0

-- what is asked: that a frame be taken, or that the store be released
pub data Asked : Type 0 where
  taking : (frame : List ℕ) → Asked
  releasing : Asked

-- A call: whose store it is, what is asked, and what came back with the bytes and bits afterwards.
pub record Call : Type 0 where
  pub who : ℕ
  pub asked : Asked
  pub taken : Taken
  pub bytes : List ℕ
  pub bits : List ℕ

-- the store that a call leaves
abbrev pub after : Call → Store
after call = record { state = call.taken.state; bytes = call.bytes; bits = call.bits }

-- a bitmap is lent as numbers of 64 bits
abbrev pub Of64Bits : List ℕ → Type 0
Of64Bits bits = (i : ℕ) → get_or bits i 0 < 2 ^ 64

-- What came back is as promised of what was asked. (A release is lent the bytes to look at, so they stay; how large a number of the bitmap is, its type says.)
abbrev pub Promised : Asked → (before after : Store) → Taken → Type 0
Promised (taking frame) before after taken =
    Takes before.state frame before.bytes before.bits after.bytes after.bits taken × Of64Bits after.bits
Promised releasing before after taken =
    Releases before.state before.bytes before.bits after.bits taken × (after.bytes ≡ before.bytes) × Of64Bits after.bits

-- a call on a store keeps its promise
abbrev pub Keeps : Store → Call → Type 0
Keeps store call = Promised call.asked store (after call) call.taken

-- calls on one store, one after the other
abbrev pub Runs : Store → List Call → Type 0
Runs = every.Runs Keeps after

-- the store that they leave
abbrev pub leaves : Store → List Call → Store
leaves = every.leaves Keeps after

-- what was asked in them
abbrev pub asks : List Call → List Asked
asks = every.each (λ (call : Call). call.asked)

-- calls on the stores of any guests in any order: each is on its guest's own
abbrev pub Serves : (host : ℕ → Store) → List Call → Type 0
Serves = every.Serves Keeps after (λ (call : Call). call.who)

-- the calls of one guest
abbrev pub calls_of : (guest : ℕ) → List Call → List Call
calls_of = every.calls_of (λ (call : Call). call.who)

-- what a call answers and leaves
pub record Got : Type 0 where
  pub taken : Taken
  pub bytes : List ℕ
  pub bits : List ℕ

abbrev pub got : Call → Got
got call = record { taken = call.taken; bytes = call.bytes; bits = call.bits }

abbrev pub gets : List Call → List Got
gets = every.each got
