-- Calls one after the other, over any state and any call: what one leaves is what the next finds. `Keeps state call` says that the call,
-- made on this state, was answered as promised; `after call` is the state that it left.
use Rattle.std.specs.Prelude.{ℕ, cond, List, [], ◌∷◌, ◌++◌, eqb}

module _ {S C : Type 0} (Keeps : S → C → Type 0) (after : C → S) where
  -- calls on one state, each kept
  abbrev pub Runs : S → List C → Type 0
  Runs state [] = Unit
  Runs state (call ∷ rest) = Keeps state call × Runs (after call) rest

  -- the state that they leave
  abbrev pub leaves : S → List C → S
  leaves state [] = state
  leaves state (call ∷ rest) = leaves (after call) rest

-- the states of many guests, told apart by a number, once the guest `who` has this one
abbrev pub storing : {S : Type 0} → (ℕ → S) → (who : ℕ) → S → (ℕ → S)
storing host who state other = cond (eqb who other) state (host other)

-- the calls of one guest
abbrev pub calls_of : {C : Type 0} → (C → ℕ) → (guest : ℕ) → List C → List C
calls_of who guest [] = []
calls_of who guest (call ∷ rest) = cond (eqb (who call) guest) (call ∷ calls_of who guest rest) (calls_of who guest rest)

module _ {S C : Type 0} (Keeps : S → C → Type 0) (after : C → S) (who : C → ℕ) where
  -- calls of any guests in any order: each is made on its guest's own state
  abbrev pub Serves : (ℕ → S) → List C → Type 0
  Serves host [] = Unit
  Serves host (call ∷ rest) = Keeps (host (who call)) call × Serves (storing host (who call) (after call)) rest

  -- the states that they leave
  abbrev pub leaves_all : (ℕ → S) → List C → (ℕ → S)
  leaves_all host [] = host
  leaves_all host (call ∷ rest) = leaves_all (storing host (who call) (after call)) rest

-- what is told of each call: what was asked in it, or what came of it
abbrev pub each : {C A : Type 0} → (C → A) → List C → List A
each told [] = []
each told (call ∷ rest) = told call ∷ each told rest

-- A run in which the host may put another state in the place of the one that its calls left: a step of it is a call, or such a change.
pub data Step (S C : Type 0) : Type 0 where
  called : C → Step S C
  replaced : (who : ℕ) → S → Step S C

-- the state that a step leaves
abbrev pub step_leaves : {S C : Type 0} → (C → S) → Step S C → S
step_leaves after (called call) = after call
step_leaves after (replaced who other) = other

-- whose state it is on
abbrev pub step_of : {S C : Type 0} → (C → ℕ) → Step S C → ℕ
step_of who (called call) = who call
step_of who (replaced guest other) = guest

-- steps in none of which the state is replaced
abbrev pub Unreplaced : {S C : Type 0} → List (Step S C) → Type 0
Unreplaced [] = Unit
Unreplaced (called call ∷ rest) = Unreplaced rest
Unreplaced (replaced who other ∷ rest) = ⊥

-- what the calls of these steps made, in order, each any number of things
abbrev pub gathered : {S C A : Type 0} → (C → List A) → List (Step S C) → List A
gathered made [] = []
gathered made (called call ∷ rest) = made call ++ gathered made rest
gathered made (replaced who other ∷ rest) = gathered made rest

module _ {S C : Type 0} (Keeps : S → C → Type 0) (after : C → S) (Possible : S → Type 0) where
  -- a step is kept: its call is, or the state that is put in place is a possible one
  abbrev pub StepKeeps : S → Step S C → Type 0
  StepKeeps state (called call) = Keeps state call
  StepKeeps state (replaced who other) = Possible other

  -- steps one after the other from this state, each kept
  abbrev pub StepRuns : S → List (Step S C) → Type 0
  StepRuns = Runs StepKeeps (step_leaves after)

  -- the state that they leave
  abbrev pub steps_leave : S → List (Step S C) → S
  steps_leave = leaves StepKeeps (step_leaves after)

  -- on the states of many guests, in any order
  abbrev pub StepServes : (who : C → ℕ) → (ℕ → S) → List (Step S C) → Type 0
  StepServes who = Serves StepKeeps (step_leaves after) (step_of who)

  -- A stretch of a run: steps in none of which the state is replaced, with those before and behind it.
  pub record Stretch (state : S) (earlier stretch later : List (Step S C)) : Type 0 where
    pub possible : Possible state
    pub run : StepRuns state (earlier ++ stretch ++ later)
    pub unreplaced : Unreplaced stretch
