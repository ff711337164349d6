-- The headers put in front of a payload that lies at 34 make its frame and leave the rest of the buffer alone; a payload put there first is framed so.
use Prim.Native.Nat.{ℕ, ◌+◌, ◌≤◌}
use mathlib.Core.Path.{◌≡◌, ap, sym, ◌∙◌}
use mathlib.Core.List.{List, ◌++◌}
use native.Mathlib.Omega.{arith}
use native.Mathlib.Nat.{zero-add}
use lib.ListN.{length, drop, length-take, length-drop}
use Rattle.base.specs.Bytes.{part}
use Rattle.base.specs.Buffer.{put}
use Rattle.frames.specs.Frames.{headers, ip_frame}
use Rattle.base.proofs.Lists.{put_before, put-put, put_front}
use Rattle.frames.proofs.Lengths.{length_headers, length_ip_frame}

module _ (mac source target : List ℕ) (six : length mac ≡ 6) (four : length source ≡ 4) (four' : length target ≡ 4) where
  module _ (id protocol len : ℕ) (b : List ℕ) (fits : 34 + len ≤ length b) where
    length_part : length (part b 34 len) ≡ len
    length_part = simp (length-take, length-drop) (omega arith)

    framed_by_number : put 0 (headers mac (20 + len) id protocol source target) b ≡ ip_frame mac id protocol source target (part b 34 len) ++ drop (34 + len) b
    unfolding ip_frame
    framed_by_number =
        let long = length_headers source target four four' mac (20 + len) id protocol six in
        rw length_part (rw long at (put_before (headers mac (20 + len) id protocol source target) b len (omega (arith, long))))

    pub framed : put 0 (headers mac (20 + len) id protocol source target) b
        ≡ ip_frame mac id protocol source target (part b 34 len) ++ drop (length (ip_frame mac id protocol source target (part b 34 len))) b
    framed = rw (length_ip_frame source target four four' mac (part b 34 len) id protocol six, length_part) framed_by_number

  -- the headers of that length, with a payload put behind them
  pub put_behind_headers : (id protocol : ℕ) (p b : List ℕ) → 34 + length p ≤ length b
      → put 34 p (put 0 (headers mac (20 + length p) id protocol source target) b)
      ≡ ip_frame mac id protocol source target p ++ drop (length (ip_frame mac id protocol source target p)) b
  unfolding ip_frame
  put_behind_headers id protocol p b fits =
      let front = headers mac (20 + length p) id protocol source target in
      let long : length front ≡ 34 = length_headers source target four four' mac (20 + length p) id protocol six in
      ap (λ (n : ℕ). put n p (put 0 front b)) (sym (zero-add (length front) ∙ long)) ∙ put-put 0 front p b (omega (arith, long)) ∙ put_front (front ++ p) b

  -- the same where what lay at 34 was framed before
  pub framed_over : (id protocol : ℕ) (p b : List ℕ) → 34 + length p ≤ length b
      → put 34 p (ip_frame mac id protocol source target (part b 34 (length p)) ++ drop (length (ip_frame mac id protocol source target (part b 34 (length p)))) b)
      ≡ ip_frame mac id protocol source target p ++ drop (length (ip_frame mac id protocol source target p)) b
  framed_over id protocol p b fits = rw (← framed id protocol (length p) b fits) (put_behind_headers id protocol p b fits)
