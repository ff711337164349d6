-- The echo reply in the pieces in which it is written: type, code and checksum 0 add nothing to the message's sum; and the cases of its frame.
use Prim.Native.Nat.{ℕ, ◌+◌, ◌-◌, ◌≤◌, ◌<◌}
use mathlib.Core.Path.{◌≡◌, refl, ap, ap₂, sym, ◌∙◌}
use mathlib.Core.List.{List, ◌∷◌, ◌++◌}
use native.Mathlib.Omega.{arith}
use borrow.Author.Tests.{le-leb, lt-leb}
use lib.ListN.{length, drop, length-drop}
use Rattle.base.specs.Bytes.{be16}
use Rattle.base.specs.Buffer.{put, put_if_fits}
use Rattle.base.proofs.Lists.{fits, no_fit, length-put, put-put}
use Rattle.base.proofs.Front.{two_pieces}
use Rattle.echo_reply.specs.Reply.{put_echo_lem}
use Rattle.frames.proofs.Lengths.{length_headers, length_ip_frame}
use Rattle.frames.specs.Frames.{headers, ip_frame}
use Rattle.sums.specs.Rfc1071.{words, sum, total, fold, checksum}
use Rattle.wire.specs.Rfc792.{echo, echo_with}

-- with a checksum field of 0 the message sums as what lies behind it
pub blank_sum : (request : List ℕ) → checksum (echo_with 0 request) ≡ checksum (drop 4 request)
unfolding checksum total words sum echo_with
blank_sum request =
    let e : 0 + (0 + sum (words (drop 4 request))) ≡ sum (words (drop 4 request)) = omega arith in
    ap (λ (n : ℕ). 65535 - fold n) e

pub length_echo : (request : List ℕ) → 4 ≤ length request → length (echo request) ≡ length request
unfolding echo echo_with
length_echo request h = omega (arith, length-drop 4 request)

-- four bytes put at `at`, and the request's others put behind them
pub echo_put : (at c : ℕ) (request copied b b' after : List ℕ) → 4 ≤ length request → at + length request ≤ length b → copied ≡ drop 4 request → c ≡ checksum copied
    → b' ≡ put_if_fits at (0 ∷ 0 ∷ be16 c) b → after ≡ put_if_fits (at + 4) copied b' → after ≡ put at (echo request) b
unfolding echo echo_with
echo_put at c request copied b b' after h room t e first second =
    let head : List ℕ = 0 ∷ 0 ∷ be16 c in
    let rest = length-drop 4 request in
    let same : length (put at head b) ≡ length b = length-put at head b (omega arith) in
    second
    ∙ ap₂ (put_if_fits (at + 4)) t (first ∙ fits at head b (omega arith))
    ∙ fits (at + 4) (drop 4 request) (put at head b) (omega (arith, rest, same))
    ∙ put-put at head (drop 4 request) b (omega (arith, rest))
    ∙ ap (λ (n : ℕ). put at (0 ∷ 0 ∷ be16 n ++ drop 4 request) b) (e ∙ ap checksum t ∙ sym (blank_sum request))

-- The cases of a call that writes the frame, each from the tests that lead to it.
module _ (mac : List ℕ) (id : ℕ) (source target request b : List ℕ) where
  pub no_checksum : length request < 4 → put_echo_lem mac id source target request b ≡ b
  unfolding put_echo_lem
  no_checksum h = simp (lt-leb 4 (length request) h)

  pub too_long : 4 ≤ length request → 65515 < length request → put_echo_lem mac id source target request b ≡ b
  unfolding put_echo_lem
  too_long h l = simp (le-leb 4 (length request) h, lt-leb (length request) 65515 l)

  module _ (h : 4 ≤ length request) (l : length request ≤ 65515) (six : length mac ≡ 6) (four : length source ≡ 4) (four' : length target ≡ 4) where
    pub there : put_echo_lem mac id source target request b ≡ put_if_fits 0 (ip_frame mac id 1 source target (echo request)) b
    unfolding put_echo_lem
    there = simp (le-leb 4 (length request) h, le-leb (length request) 65515 l)

    pub long : length (ip_frame mac id 1 source target (echo request)) ≡ 34 + length request
    long = length_ip_frame source target four four' mac (echo request) id 1 six ∙ ap (λ (n : ℕ). 34 + n) (length_echo request h)

    pub no_room : length b < 34 + length request → put_echo_lem mac id source target request b ≡ b
    no_room r = there ∙ no_fit 0 (ip_frame mac id 1 source target (echo request)) b (omega (arith, long))

    -- the headers, and the echo behind them
    pub framed : (now after : List ℕ) → 34 + length request ≤ length b → now ≡ put_if_fits 0 (headers mac (20 + length request) id 1 source target) b
        → after ≡ put 34 (echo request) now → after ≡ put_echo_lem mac id source target request b
    unfolding ip_frame
    framed now after r p q =
        let size = length_echo request h in
        let total : headers mac (20 + length request) id 1 source target ≡ headers mac (20 + length (echo request)) id 1 source target =
        ap (λ (n : ℕ). headers mac (20 + n) id 1 source target) (sym size) in
        let front = length_headers source target four four' mac (20 + length request) id 1 six in
        let same : length now ≡ length b =
        ap length (p ∙ fits 0 (headers mac (20 + length request) id 1 source target) b (omega (arith, front))) ∙ length-put 0 (headers mac (20 + length request) id 1 source target) b (omega (arith, front)) in
        two_pieces (headers mac (20 + length (echo request)) id 1 source target) (echo request) 34 (length request) b _ (echo request) now after
        (length_headers source target four four' mac (20 + length (echo request)) id 1 six) size r total refl p (q ∙ sym (fits 34 (echo request) now (omega (arith, size, same))))
        ∙ sym there
