-- A counter of 16 bits over any run of calls: if each call shows it and moves it on by 1, or does neither, then what is shown counts on, from
-- wherever the counter was last put. By induction over the steps.
use Prim.Native.Nat.{ℕ, zero, suc, ◌+◌, ◌%◌, ◌<◌}
use mathlib.Core.Path.{◌≡◌, ap, subst, ◌∙◌}
use mathlib.Core.List.{List, [], ◌∷◌, ◌++◌, append_assoc, append-nil}
use native.Mathlib.Omega.{arith}
use lib.ListN.{length, get_or}
use Rattle.base.specs.Counting.{CountsOn}
use Rattle.base.specs.Runs.{each, Step, called, replaced, step_leaves, Unreplaced, gathered, StepKeeps, StepRuns, steps_leave, Stretch}
use Rattle.base.proofs.CountsOn.{counts_on}
use Rattle.base.proofs.Runs.{holds_after, runs_before, runs_behind, leaves_behind}

-- what one call does with the counter: it makes nothing and leaves it, or makes one thing that shows it and moves it on
pub data Counted {F : Type 0} (mark : F → ℕ) (now : ℕ) (made : List F) (then : ℕ) : Type 0 where
  none : made ≡ [] → then ≡ now → Counted mark now made then
  one : (thing : F) → made ≡ thing ∷ [] → mark thing ≡ now → then ≡ (now + 1) % 65536 → Counted mark now made then

-- it keeps its 16 bits
pub counter_in_16_bits : {F : Type 0} {mark : F → ℕ} {now then : ℕ} {made : List F} → now < 65536 → Counted mark now made then → then < 65536
counter_in_16_bits small (none e stood) = omega (arith, stood, small)
counter_in_16_bits small (one thing e shown moved) = omega (arith, moved)

-- and moves on by as many as were made
pub counter_moved : {F : Type 0} {mark : F → ℕ} {now then : ℕ} {made : List F} → now < 65536 → Counted mark now made then → then ≡ (now + length made) % 65536
counter_moved small (none e stood) = omega (arith, stood, ap length e, small)
counter_moved small (one thing e shown moved) = omega (arith, moved, ap length e)

-- A counter over runs of calls: what a run asks of a call and what a call leaves, which states there can be, where the counter stands in one, what a call makes and the number that
-- this shows; that the counter has 16 bits, that a state stays possible, and that each call counts or leaves the counter alone.
pub record Counter (S C F : Type 0) : Type 1 where
  pub Keeps : S → C → Type 0
  pub after : C → S
  pub Possible : S → Type 0
  pub next : S → ℕ
  pub made : C → List F
  pub mark : F → ℕ
  pub in_16_bits : (state : S) → Possible state → next state < 65536
  pub stays : (state : S) (call : C) → Possible state → Keeps state call → Possible (after call)
  pub counts : (state : S) (call : C) → Possible state → Keeps state call → Counted mark (next state) (made call) (next (after call))

module _ {S C F : Type 0} (c : Counter S C F) where
  abbrev Keeps : S → C → Type 0
  Keeps = c.Keeps

  abbrev after : C → S
  after = c.after

  abbrev Possible : S → Type 0
  Possible = c.Possible

  abbrev next : S → ℕ
  next = c.next

  abbrev made : C → List F
  made = c.made

  abbrev mark : F → ℕ
  mark = c.mark

  abbrev Run : S → List (Step S C) → Type 0
  Run = StepRuns Keeps after Possible

  abbrev left : S → List (Step S C) → S
  left = steps_leave Keeps after Possible

  abbrev marks : List (Step S C) → List ℕ
  marks steps = each mark (gathered made steps)

  -- thing number k shows the counter's start plus k
  numbered : (state : S) (steps : List (Step S C)) → Possible state → Run state steps → Unreplaced steps
      → (k : ℕ) → k < length (marks steps) → get_or (marks steps) k 0 ≡ (next state + k) % 65536
  numbered state [] possible run unreplaced k there = absurd (omega arith)
  numbered state (replaced who other ∷ rest) possible run unreplaced k there = absurd unreplaced
  numbered state (called call ∷ rest) possible (kept, run) unreplaced k there =
      go (c.counts state call possible kept) (numbered (after call) rest (c.stays state call possible kept) run unreplaced) k there
    where
      go : Counted mark (next state) (made call) (next (after call))
          → ((k : ℕ) → k < length (marks rest) → get_or (marks rest) k 0 ≡ (next (after call) + k) % 65536)
          → (k : ℕ) → k < length (marks (called call ∷ rest)) → get_or (marks (called call ∷ rest)) k 0 ≡ (next state + k) % 65536
      go (none e stood) ih k there =
          let same : marks (called call ∷ rest) ≡ marks rest = ap (λ (l : List F). each mark (l ++ gathered made rest)) e in
          ap (λ (l : List ℕ). get_or l k 0) same ∙ ih k (omega (arith, ap length same)) ∙ ap (λ (n : ℕ). (n + k) % 65536) stood
      go (one thing e shown moved) ih zero there =
          let same : marks (called call ∷ rest) ≡ mark thing ∷ marks rest = ap (λ (l : List F). each mark (l ++ gathered made rest)) e in
          ap (λ (l : List ℕ). get_or l 0 0) same ∙ omega (arith, shown, c.in_16_bits state possible)
      go (one thing e shown moved) ih (suc k) there =
          let same : marks (called call ∷ rest) ≡ mark thing ∷ marks rest = ap (λ (l : List F). each mark (l ++ gathered made rest)) e in
          ap (λ (l : List ℕ). get_or l (suc k) 0) same ∙ ih k (omega (arith, ap length same)) ∙ omega (arith, moved)

  -- and behind them the counter is its start plus their number
  stands : (state : S) (steps : List (Step S C)) → Possible state → Run state steps → Unreplaced steps
      → next (left state steps) ≡ (next state + length (marks steps)) % 65536
  stands state [] possible run unreplaced = omega (arith, c.in_16_bits state possible)
  stands state (replaced who other ∷ rest) possible run unreplaced = absurd unreplaced
  stands state (called call ∷ rest) possible (kept, run) unreplaced =
      let moved = counter_moved (c.in_16_bits state possible) (c.counts state call possible kept) in
      let ih = stands (after call) rest (c.stays state call possible kept) run unreplaced in
      let long : length (marks (called call ∷ rest)) ≡ length (made call) + length (marks rest) = length_marks (made call) (gathered made rest) in
      omega (arith, ih, moved, long)
    where
      length_marks : (now then : List F) → length (each mark (now ++ then)) ≡ length now + length (each mark then)
      length_marks [] then = omega arith
      length_marks (thing ∷ now) then = omega (arith, length_marks now then)

  -- what every step keeps
  step_stays : (state : S) (step : Step S C) → Possible state → StepKeeps Keeps after Possible state step → Possible (step_leaves after step)
  step_stays state (called call) possible kept = c.stays state call possible kept
  step_stays state (replaced who other) possible kept = kept

  -- So in any stretch of a run what is shown counts on from where the steps before it left the counter.
  module _ (state : S) (earlier stretch later : List (Step S C)) (s : Stretch Keeps after Possible state earlier stretch later) where
    up_to_its_end : Run state (earlier ++ stretch)
    up_to_its_end = runs_before (StepKeeps Keeps after Possible) (step_leaves after) state (earlier ++ stretch) later s.run

    its_run : Run (left state earlier) stretch
    its_run = runs_behind (StepKeeps Keeps after Possible) (step_leaves after) state earlier stretch up_to_its_end

    possible_there : Possible (left state earlier)
    possible_there =
        holds_after (StepKeeps Keeps after Possible) (step_leaves after) Possible step_stays state earlier s.possible
        (runs_before (StepKeeps Keeps after Possible) (step_leaves after) state earlier stretch up_to_its_end)

    pub stretch_counts_on : CountsOn (next (left state earlier)) (marks stretch)
    stretch_counts_on = counts_on (next (left state earlier)) (marks stretch) (numbered (left state earlier) stretch possible_there its_run s.unreplaced)

    -- and the state behind it has the next number
    pub stretch_leaves : next (left state (earlier ++ stretch)) ≡ (next (left state earlier) + length (marks stretch)) % 65536
    stretch_leaves =
        ap next (leaves_behind (StepKeeps Keeps after Possible) (step_leaves after) state earlier stretch)
        ∙ stands (left state earlier) stretch possible_there its_run s.unreplaced

  -- a run in which the state isn't replaced is one stretch
  pub whole_counts_on : (state : S) (steps : List (Step S C)) → Possible state → Run state steps → Unreplaced steps → CountsOn (next state) (marks steps)
  whole_counts_on state steps possible run unreplaced =
      stretch_counts_on state [] steps [] (record { possible = possible; run = rw append-nil run; unreplaced = unreplaced })

  -- behind a change of state the count starts anew
  pub counts_anew : (state other : S) (who : ℕ) (earlier stretch later : List (Step S C)) → Possible state
      → Run state (earlier ++ replaced who other ∷ stretch ++ later) → Unreplaced stretch → CountsOn (next other) (marks stretch)
  counts_anew state other who earlier stretch later possible run unreplaced =
      subst (λ (x : S). CountsOn (next x) (marks stretch)) (leaves_behind (StepKeeps Keeps after Possible) (step_leaves after) state earlier (replaced who other ∷ []))
      (stretch_counts_on state (earlier ++ replaced who other ∷ []) stretch later
      (record { possible = possible; run = rw (append_assoc earlier (replaced who other ∷ []) stretch) run; unreplaced = unreplaced }))
