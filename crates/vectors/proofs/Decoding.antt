-- Where a line starts, ends and has a comment: `decode` reads the characters that count.
use Rattle.std.proofs.Common.{◌≡◌, ℕ, ◌+◌, ◌<◌, ◌≤◌, min, Option, Some, List, length, take, drop, sym, refl, ◌∙◌, arith, drop_of_length-le, take-take}
use native.Mathlib.Nat.{min-eq_right, min-le_left, min-le_right, le-min}
use Rattle.vectors.specs.Lines.{index_of, up_to, signs_at, next_line, digits, pairs, are_bytes, bytes_of, read_of, line_at, ReadInto, Decoded}

-- past the text's end there is an empty line
pub past_end : (text : List ℕ) (at room : ℕ) (line : List ℕ) → length text ≤ at → Decoded text at room line (record { len = Some 0; next = length text })
unfolding line_at read_of bytes_of signs_at up_to next_line digits pairs are_bytes
past_end text at room line h =
    record {
      says = simp (drop_of_length-le text h, min-eq_right {n = length text} {m = at + 0 + 1} (omega arith));
      bytes = simp (drop_of_length-le text h);
      fits = omega arith;
      within = omega arith;
      moves = min-le_right (at + 1) (length text);
    }

-- a line inside the text, where `end` is its length and `stop` that of what comes before a comment
module _
    (text : List ℕ)
    (at end stop : ℕ)
    (e : end ≡ index_of 10 (drop at text))
    (s : stop ≡ index_of 35 (take end (drop at text))) where
  stops : stop ≡ index_of 35 (up_to 10 (drop at text))
  unfolding up_to
  stops = s ∙ rw e refl

  signs : stop ≤ end → take stop (drop at text) ≡ signs_at text at
  unfolding signs_at up_to
  signs before =
      let d = drop at text in
      rw stops (sym (take-take (index_of 35 (up_to 10 d)) (index_of 10 d) d (omega (arith, e, stops))))

  pub inside : at < length text → stop ≤ end → (room : ℕ) (line : List ℕ) (read : Option ℕ) (next : ℕ) → ReadInto room (take stop (drop at text)) line read → next ≡ min (at + end + 1) (length text) → Decoded text at room line (record { len = read; next = next })
  unfolding line_at next_line
  inside h before room line read next r n =
      record {
        says = rw (n, e, rw (signs before) at r.says) refl;
        bytes = rw (signs before) at r.bytes;
        fits = r.fits;
        within = omega (arith, min-le_right (at + end + 1) (length text));
        moves = rw n (le-min {a = at + end + 1} {b = length text} (omega (arith, min-le_left (at + 1) (length text))) (min-le_right (at + 1) (length text)));
      }
