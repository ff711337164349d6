-- Pieces put one behind the other, from a buffer's first byte on, are one piece at its front.
use Prim.Native.Nat.{ℕ, ◌+◌, ◌≤◌}
use mathlib.Core.Path.{◌≡◌, refl, ap, sym, ◌∙◌}
use mathlib.Core.List.{List, [], ◌++◌}
use native.Mathlib.Omega.{arith}
use native.Mathlib.Nat.{zero-add}
use lib.ListN.{length, length-append}
use Rattle.base.specs.Buffer.{put, put_if_fits}
use Rattle.base.proofs.Lists.{fits, length-put, put-put, put_front}

-- the buffer `b` once `front`, of `len` bytes, stands at its front
pub record Front (b front : List ℕ) (len : ℕ) (now : List ℕ) : Type 0 where
  pub bytes : now ≡ put 0 front b
  pub long : length front ≡ len

pub nothing_yet : (b : List ℕ) → Front b [] 0 b
nothing_yet b = record { bytes = sym (put_front [] b); long = refl }

-- a piece put right behind the front is part of the front
pub behind : {b front now : List ℕ} {len : ℕ} → Front b front len now → (piece : List ℕ) (n : ℕ) → length piece ≡ n → len + n ≤ length b
    → {after : List ℕ} → after ≡ put_if_fits len piece now → Front b (front ++ piece) (len + n) after
behind {b} {front} {now} {len} f piece n e room {after} p =
    record {
      bytes =
          p
          ∙ ap (put_if_fits len piece) f.bytes
          ∙ fits len piece (put 0 front b) (omega (arith, long, e, same))
          ∙ ap (λ (at : ℕ). put at piece (put 0 front b)) (sym (zero-add (length front) ∙ long))
          ∙ put-put 0 front piece b (omega (arith, long, e));
      long = length-append front piece ∙ omega (arith, long, e);
    }
  where
    long : length front ≡ len
    long = f.long

    same : length (put 0 front b) ≡ length b
    same = length-put 0 front b (omega (arith, long))

-- the same of a piece that is known to be this one
pub behind_as : {b front now : List ℕ} {len : ℕ} → Front b front len now → (piece : List ℕ) (n : ℕ) → length piece ≡ n → len + n ≤ length b
    → (put_there : List ℕ) → put_there ≡ piece → {after : List ℕ} → after ≡ put_if_fits len put_there now → Front b (front ++ piece) (len + n) after
behind_as {b} {front} {now} {len} f piece n e room put_there same p = behind f piece n e room (p ∙ ap (λ (s : List ℕ). put_if_fits len s now) same)

-- two pieces, one behind the other, that fit together
pub two_pieces : (first second : List ℕ) (n m : ℕ) (b one two now after : List ℕ) → length first ≡ n → length second ≡ m → n + m ≤ length b → one ≡ first → two ≡ second
    → now ≡ put_if_fits 0 one b → after ≡ put_if_fits n two now → after ≡ put_if_fits 0 (first ++ second) b
two_pieces first second n m b one two now after ln lm room e f p q =
    let alone = behind (nothing_yet b) first n ln (omega arith) (p ∙ ap (λ (x : List ℕ). put_if_fits 0 x b) e) in
    let front : Front b first n now = record { bytes = alone.bytes; long = ln } in
    let both = behind front second m lm room (q ∙ ap (λ (x : List ℕ). put_if_fits n x now) f) in
    both.bytes ∙ sym (fits 0 (first ++ second) b (omega (arith, both.long)))
