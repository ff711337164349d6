-- What each call on a store promises: the answer, the state, every byte and every bit, for a store of any size, any frame and any state.
use Rattle.std.specs.Prelude.{ℕ, ◌≡◌, Result, Ok, Err, List, length, replicate, cond}
use Rattle.bitmap.specs.Bitmap.{bit, Marked}
use Rattle.base.specs.Bytes.{part}
use Rattle.base.specs.Buffer.{put}
use Rattle.fragments.specs.Answer.{released, refused, said_for}
use Rattle.fragment_packets.specs.Packets.{first_block, stop_block}
use Rattle.fragment_rules.specs.Rules.{of_size_lem, ruling}
use Rattle.fragments.specs.Outcomes.{outcome_of}
use Rattle.fragment_rules.specs.declared.answer.Refusal.{Refusal}
use Rattle.fragment_rules.specs.declared.answer.State.{State}
use Rattle.fragment_rules.specs.declared.answer.State.TheVariants.{Empty}
use Rattle.fragments.specs.declared.answer.Taken.{Taken}
use Rattle.fragment_rules.specs.declared.ruling.Ruling.{Ruling}
use Rattle.fragment_rules.specs.declared.ruling.Ruling.TheVariants.{Pass, Write}

-- the store's bytes and bits are as they were
pub record Untouched (bytes bits bytes' bits' : List ℕ) : Type 0 where
  pub kept_bytes : bytes' ≡ bytes
  pub kept_bits : bits' ≡ bits

-- What a ruling does to the store: nothing, or the fragment's payload stands at its place and its blocks are marked.
abbrev pub Effect : Result Ruling Refusal → (frame bytes bits bytes' bits' : List ℕ) → Type 0
Effect (Err refusal) frame bytes bits bytes' bits' = Untouched bytes bits bytes' bits'
Effect (Ok Pass) frame bytes bits bytes' bits' = Untouched bytes bits bytes' bits'
Effect (Ok (Write f end)) frame bytes bits bytes' bits' =
    (bytes' ≡ put f.offset (part frame f.start f.length) bytes) × Marked (first_block f) (stop_block f) bits bits'

-- A ruling is carried out: what is answered, the state, and the store.
pub record Does (ruling : Result Ruling Refusal) (state : State) (frame bytes bits bytes' bits' : List ℕ) (taken : Taken) : Type 0 where
  pub answers : said_for taken.answer ≡ (outcome_of state (bit bits) ruling).said
  pub next : taken.state ≡ (outcome_of state (bit bits) ruling).state
  pub store : Effect ruling frame bytes bits bytes' bits'

-- the call that takes a frame
abbrev pub Takes : State → (frame bytes bits bytes' bits' : List ℕ) → Taken → Type 0
Takes state frame bytes bits bytes' bits' taken = Does (ruling state frame (length bytes) bits) state frame bytes bits bytes' bits' taken

-- "a release at any time empties the store for the next, or gets 10 where it is lent at another size": no bit is left
pub record Releases (state : State) (bytes bits bits' : List ℕ) (taken : Taken) : Type 0 where
  pub answers : said_for taken.answer ≡ cond (of_size_lem (length bytes) (length bits)) released (refused 10)
  pub next : taken.state ≡ cond (of_size_lem (length bytes) (length bits)) Empty state
  pub cleared : bits' ≡ cond (of_size_lem (length bytes) (length bits)) (replicate 128 0) bits
