-- The blocks of a bitmap, run by run: counting them word by word, and which are there once a run is marked.
use Prim.Native.Nat.{ℕ, zero, suc, ◌+◌, ◌-◌, ◌*◌, ◌/◌, ◌%◌, ◌^◌, ◌≤◌, ◌<◌}
use mathlib.Core.Bool.{Bool, true, false, ◌&&◌, cond}
use mathlib.Core.List.{List}
use mathlib.Core.Path.{◌≡◌, refl, sym, ap, ap₂, ◌∙◌}
use native.Mathlib.Nat.{add_assoc, zero-add, add-zero, suc-add, not-le_of_lt, lt_of_le_of_lt}
use native.Mathlib.Omega.{arith}
use borrow.Author.Tests.{leb-true, leb-false, ltb-true, ltb-false, eqb-true, eqb-false, lt-ltb, le-ltb, le-leb, lt-leb}
use lib.Bits.{bit_or}
use lib.Count.{ones_in}
use lib.Dec.{leb, ltb, eqb}
use lib.ListN.{length, get_or, set}
use lib.Pow.{shr-shr}
use lib.Seq.{get_or-set_same, get_or-set_other}
use Rattle.base.proofs.Choice.{by_test}
use Rattle.bitmap.specs.Bitmap.{bit, count, having}
use Rattle.bitmap.proofs.Digits.{digit, run, or_inside, or_below, or_above}

-- a run counted in two pieces
pub count_split : (there : ℕ → ℕ) (first n m : ℕ) → count there first (n + m) ≡ count there first n + count there (first + n) m
unfolding count
count_split there first zero m =
    ap (count there first) (zero-add m) ∙ sym (zero-add (count there first m)) ∙ ap (λ (k : ℕ). 0 + count there k m) (sym (add-zero first))
count_split there first (suc n) m =
    ap (count there first) (suc-add n m)
    ∙ ap (λ (k : ℕ). there first + k) (count_split there (suc first) n m)
    ∙ sym (add_assoc (there first) (count there (suc first) n) (count there (suc first + n) m))
    ∙ ap (λ (k : ℕ). there first + count there (suc first) n + count there k m) (omega arith)

-- the blocks of a run inside one word are the word's digits
count_in_word : (bits : List ℕ) (w lo n : ℕ) → lo + n ≤ 64 → ones_in n (get_or bits w 0 / 2 ^ lo) ≡ count (bit bits) (w * 64 + lo) n
unfolding ones_in count bit
count_in_word bits w lo zero h = refl
count_in_word bits w lo (suc n) h =
    ap₂ (λ (a b : ℕ). a + b)
    (ap₂ (λ (v i : ℕ). digit (get_or bits v 0) i) (omega arith) (omega arith))
    (ap (ones_in n) (shr-shr (get_or bits w 0) lo 1) ∙ count_in_word bits w (lo + 1) n (omega arith)
    ∙ ap (λ (k : ℕ). count (bit bits) k n) (omega arith))

-- the same where the run starts at any block
pub count_in_word_of : (bits : List ℕ) (at n : ℕ) → at % 64 + n ≤ 64 → ones_in n (get_or bits (at / 64) 0 / 2 ^ (at % 64)) ≡ count (bit bits) at n
count_in_word_of bits at n h = count_in_word bits (at / 64) (at % 64) n h ∙ ap (λ (k : ℕ). count (bit bits) k n) {x = at / 64 * 64 + at % 64} (omega arith)

-- the first `n` blocks of a run, and the rest
pub count_rest : (there : ℕ → ℕ) (at n stop : ℕ) → at + n ≤ stop → count there at n + count there (at + n) (stop - (at + n)) ≡ count there at (stop - at)
count_rest there at n stop h = sym (count_split there at n (stop - (at + n))) ∙ ap (count there at) {x = n + (stop - (at + n))} (omega arith)

-- what is there once a run is marked: all of the run, and outside it what was
pub inside : (there : ℕ → ℕ) (first stop b : ℕ) → first ≤ b → b < stop → having there first stop b ≡ 1
unfolding having
inside there first stop b h k = simp (le-leb first b h, lt-ltb b stop k)

pub below : (there : ℕ → ℕ) (first stop b : ℕ) → b < first → having there first stop b ≡ there b
unfolding having
below there first stop b h = simp (lt-leb first b h)

pub above : (there : ℕ → ℕ) (first stop b : ℕ) → stop ≤ b → having there first stop b ≡ there b
unfolding having
above there first stop b h = go (leb first b)
  where
    go : (t : Bool) → cond (t && ltb b stop) 1 (there b) ≡ there b
    go true = simp (le-ltb b stop h)
    go false = refl

-- before, inside or behind a run
pub data Where (first stop b : ℕ) : Type 0 where
  before : b < first → Where first stop b
  within : first ≤ b → b < stop → Where first stop b
  behind : first ≤ b → stop ≤ b → Where first stop b

pub where_is : (first stop b : ℕ) → Where first stop b
where_is first stop b =
    by_test (ltb b first) (λ e. before (ltb-true b first e))
    (λ e. by_test (ltb b stop) (λ f. within (ltb-false b first e) (ltb-true b stop f)) (λ f. behind (ltb-false b first e) (ltb-false b stop f)))

-- a run of no block
pub having_none : (there : ℕ → ℕ) (first stop b : ℕ) → stop ≤ first → having there first stop b ≡ there b
having_none there first stop b h = go (where_is first stop b)
  where
    go : Where first stop b → having there first stop b ≡ there b
    go (before k) = below there first stop b k
    go (within j k) = absurd (not-le_of_lt (lt_of_le_of_lt j k) h)
    go (behind j k) = above there first stop b k

-- a run that grows from `at` to `stop` changes nothing outside what is new
grown_before : (there : ℕ → ℕ) (first at stop b : ℕ) → b < at → at ≤ stop → having there first at b ≡ having there first stop b
grown_before there first at stop b h k = go (where_is first at b)
  where
    go : Where first at b → having there first at b ≡ having there first stop b
    go (before j) = below there first at b j ∙ sym (below there first stop b j)
    go (within i j) = inside there first at b i j ∙ sym (inside there first stop b i (omega arith))
    go (behind i j) = absurd (not-le_of_lt h j)

grown_behind : (there : ℕ → ℕ) (first at stop b : ℕ) → at ≤ stop → stop ≤ b → having there first at b ≡ having there first stop b
grown_behind there first at stop b h k = above there first at b (omega arith) ∙ sym (above there first stop b k)

-- a run marked until its end has been reached, or from the first not to be marked
pub run_to : (there : ℕ → ℕ) (first at stop b : ℕ) → stop ≤ at → first ≤ at → at ≤ stop + (first - stop) → having there first at b ≡ having there first stop b
run_to there first at stop b h j k =
    by_test (leb first stop)
    (λ e. ap (λ (n : ℕ). having there first n b) {x = at} {y = stop} (omega (arith, leb-true first stop e)))
    (λ e. having_none there first at b (omega (arith, leb-false first stop e)) ∙ sym (having_none there first stop b (omega (arith, leb-false first stop e))))

-- One word more is marked: its digits from `lo` on, `n` of them. `cur` holds what is there once the run up to that place is marked.
module _ (there : ℕ → ℕ) (cur : List ℕ) (first w lo n : ℕ) (in-word : lo + n ≤ 64) (started : first ≤ w * 64 + lo) (reached : w < length cur)
    (so_far : (b : ℕ) → bit cur b ≡ having there first (w * 64 + lo) b) where
  abbrev marked : List ℕ
  marked = set cur w (bit_or (get_or cur w 0) (run lo n))

  -- a block of that word, and one of another
  own : (b : ℕ) → b / 64 ≡ w → bit marked b ≡ digit (bit_or (get_or cur w 0) (run lo n)) (b % 64)
  unfolding bit
  own b e =
      ap (λ (v : ℕ). digit (get_or marked v 0) (b % 64)) e
      ∙ ap (λ (x : ℕ). digit x (b % 64)) (get_or-set_same cur w (bit_or (get_or cur w 0) (run lo n)) 0 reached)

  other : (b : ℕ) → (b / 64 ≡ w → ⊥) → bit marked b ≡ bit cur b
  unfolding bit
  other b h = ap (λ (x : ℕ). digit x (b % 64)) (get_or-set_other cur w (b / 64) (bit_or (get_or cur w 0) (run lo n)) 0 h)

  was : (b : ℕ) → b / 64 ≡ w → digit (get_or cur w 0) (b % 64) ≡ bit cur b
  unfolding bit
  was b e = ap (λ (v : ℕ). digit (get_or cur v 0) (b % 64)) (sym e)

  in_own_word : (b : ℕ) → b / 64 ≡ w → Where (w * 64 + lo) (w * 64 + lo + n) b → bit marked b ≡ having there first (w * 64 + lo + n) b
  in_own_word b e (within h k) =
      own b e ∙ or_inside (get_or cur w 0) lo n (b % 64) (omega arith) (omega arith) ∙ sym (inside there first (w * 64 + lo + n) b (omega arith) k)
  in_own_word b e (before h) =
      own b e ∙ or_below (get_or cur w 0) lo n (b % 64) (omega arith) ∙ was b e ∙ so_far b
      ∙ grown_before there first (w * 64 + lo) (w * 64 + lo + n) b h (omega arith)
  in_own_word b e (behind h k) =
      own b e ∙ or_above (get_or cur w 0) lo n (b % 64) (omega arith) ∙ was b e ∙ so_far b
      ∙ grown_behind there first (w * 64 + lo) (w * 64 + lo + n) b (omega arith) k

  in_other_word : (b : ℕ) → (b / 64 ≡ w → ⊥) → Where (w * 64 + lo) (w * 64 + lo + n) b → bit marked b ≡ having there first (w * 64 + lo + n) b
  in_other_word b e (within h k) = absurd (e (omega arith))
  in_other_word b e (before h) = other b e ∙ so_far b ∙ grown_before there first (w * 64 + lo) (w * 64 + lo + n) b h (omega arith)
  in_other_word b e (behind h k) = other b e ∙ so_far b ∙ grown_behind there first (w * 64 + lo) (w * 64 + lo + n) b (omega arith) k

  one_word_more : (b : ℕ) → bit marked b ≡ having there first (w * 64 + lo + n) b
  one_word_more b =
      by_test (eqb (b / 64) w)
      (λ e. in_own_word b (eqb-true (b / 64) w e) (where_is (w * 64 + lo) (w * 64 + lo + n) b))
      (λ e. in_other_word b (eqb-false (b / 64) w e) (where_is (w * 64 + lo) (w * 64 + lo + n) b))

-- the same where the run has come to any block
pub marked_to : (there : ℕ → ℕ) (cur : List ℕ) (first at n : ℕ) → at % 64 + n ≤ 64 → first ≤ at → at / 64 < length cur
    → ((b : ℕ) → bit cur b ≡ having there first at b)
    → (b : ℕ) → bit (set cur (at / 64) (bit_or (get_or cur (at / 64) 0) (run (at % 64) n))) b ≡ having there first (at + n) b
marked_to there cur first at n h started reached so_far b =
    let e : at / 64 * 64 + at % 64 ≡ at = omega arith in
    one_word_more there cur first (at / 64) (at % 64) n h (omega arith) reached (λ b. so_far b ∙ ap (λ (k : ℕ). having there first k b) (sym e)) b
    ∙ ap (λ (k : ℕ). having there first (k + n) b) e
