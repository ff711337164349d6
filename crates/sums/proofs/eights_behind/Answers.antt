-- `eights_behind` meets its contract. The invariant: there is a sum of the lower halves, which the sum of all tells; 256 times the sums so far and the
-- sum of what is left fold as the whole; and each is as large as as many halves can be at most, the lower ones with what was there before.
use Rattle.std.proofs.Common.{◌≡◌, ℕ, w64, ◌+◌, ◌*◌, ◌/◌, ◌%◌, ◌^◌, ◌<◌, List, [], get_or, drop, flat_map, sym, ap, ◌∙◌, arith}
use Rattle.std.specs.Int.{from_le_bytes}
use Rattle.sums.specs.Rfc1071.{total, fold}
use Rattle.sums.proofs.Folding.{fold_to_32_scaled}
use Rattle.sums.proofs.Chunks.{fold_step, joined_from, none_joined}
use Rattle.sums.proofs.eights_behind.Goals as goal

-- what is carried out of the sum of all is lost, and the sum of the lower halves is not
wrapped : (a l u x y : ℕ) → a ≡ (l + u * 2 ^ 32) % 2 ^ 64 → (a + (x + y * 2 ^ 32)) % 2 ^ 64 ≡ (l + x + (u + y) * 2 ^ 32) % 2 ^ 64
wrapped a l u x y e = omega arith

unwrapped : (r l u : ℕ) → (r + u) % 2 ^ 64 ≡ (l + u) % 2 ^ 64 → r < 2 ^ 64 → l < 2 ^ 64 → r ≡ l
unwrapped r l u e h k = omega arith

-- the two halves of a step's number fold as the number
halved : (so_far next left : ℕ) → fold ((so_far + (next / 2 ^ 32 + next % 2 ^ 32)) * 256 + left) ≡ fold ((so_far + next) * 256 + left)
halved so_far next left = ap fold (omega arith) ∙ fold_to_32_scaled next (so_far * 256 + left) ∙ ap fold (omega arith)

pub loop-eight-init : goal.loop-eight-init
loop-eight-init c = record {
  lower = c.args.so_far;
  tells = omega arith;
  folds = ap fold (omega arith);
  lower-le = omega arith;
  upper-le = omega arith;
}

pub loop-eight-preserved : goal.loop-eight-preserved
loop-eight-preserved c =
    let l = c.loop-eight in
    let s = c.args.eights.now in
    let eight = get_or s l.eight-index [] in
    let behind = flat_map (λ (e : List ℕ). e) (drop (l.eight-index + 1) s) in
    let next = c.from_le_bytes-next.result in
    let low_first : next ≡ from_le_bytes w64 eight = omega (arith, c.from_le_bytes-next.ensures) in
    let halves = l.invariant in
    let so_far = halves.lower + l.upper in record {
      lower = halves.lower + next % 2 ^ 32;
      tells = ap (λ (n : ℕ). (l.all + n) % 2 ^ 64) {x = next} {y = next % 2 ^ 32 + next / 2 ^ 32 * 2 ^ 32} (omega arith)
          ∙ wrapped l.all halves.lower l.upper (next % 2 ^ 32) (next / 2 ^ 32) halves.tells
          ∙ ap (λ (n : ℕ). (halves.lower + next % 2 ^ 32 + n * 2 ^ 32) % 2 ^ 64) (sym c.with_upper_half-upper.ensures.value);
      folds =
          ap fold (omega (arith, c.with_upper_half-upper.ensures.value))
          ∙ halved so_far next (total behind)
          ∙ ap (λ (n : ℕ). fold ((so_far + n) * 256 + total behind)) low_first
          ∙ fold_step eight behind so_far (c.told-eights l.eight-index (omega arith))
          ∙ ap (λ (left : List ℕ). fold (so_far * 256 + total left)) (sym (joined_from s l.eight-index (omega arith)))
          ∙ halves.folds;
      lower-le = omega arith;
      upper-le = omega arith;
    }

-- what `lower_halves` answers is the sum of the lower halves
lower-is : (c : goal.After-lower_halves) → c.lower_halves.result ≡ c.loop-eight.invariant.lower
lower-is c =
    let l = c.loop-eight in
    unwrapped c.lower_halves.result l.invariant.lower (l.upper * 2 ^ 32) (c.lower_halves.ensures ∙ l.invariant.tells) (omega arith) (omega arith)

pub returns-clause-value : goal.returns-clause-value
returns-clause-value c =
    let l = c.loop-eight in
    let s = c.args.eights.now in
    ap fold (omega (arith, lower-is c, none_joined s l.eight-index (omega arith))) ∙ l.invariant.folds

pub returns-clause-upper_bound : goal.returns-clause-upper_bound
returns-clause-upper_bound c = omega (arith, lower-is c)
