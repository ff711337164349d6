-- The sum behind the pseudo-header: the header that the code lays out is the grammar's, and its length is even, so that the sum goes on.
use Rattle.std.proofs.Common.{◌≡◌, ℕ, ◌+◌, ◌*◌, ◌≤◌, List, ◌++◌, length, refl, ap, ◌∙◌, ap₂, arith}
use Rattle.base.specs.Bytes.{u8_at, bytes_at}
use Rattle.wire.specs.Rfc768.{pseudo_header_lem as Rfc768·pseudoHeader}
use Rattle.base.proofs.Lists.{part_bytes}
use Rattle.sums.specs.Rfc1071.{total, fold}
use Rattle.sums.proofs.Laws.{fold_more}
use Rattle.grammar.specs.Grammar.{payload, pseudo_header_lem}

-- the pseudo-header of `len` bytes from the packet's fields
abbrev pub from_fields : (p : List ℕ) (len : ℕ) → List ℕ
from_fields p len = Rfc768·pseudoHeader (bytes_at p 12 4) (bytes_at p 16 4) (u8_at p 9) len

-- is the grammar's
same_header : (p : List ℕ) → 20 ≤ length p → from_fields p (length (payload p)) ≡ pseudo_header_lem p
unfolding Rfc768·pseudoHeader
same_header p h = rw (part_bytes p 8 12 (omega arith)) refl

-- and its sum, continued over the payload, is the sum of both
pub sums_on : (p : List ℕ) → 20 ≤ length p → (first all : ℕ)
    → first ≡ fold (0 + total (from_fields p (length (payload p))))
    → all ≡ fold (first + total (payload p))
    → all ≡ fold (0 + total (pseudo_header_lem p ++ payload p))
sums_on p h first all e f =
    let even : length (pseudo_header_lem p) ≡ 6 * 2 = rw (part_bytes p 8 12 (omega arith)) refl in
    f
    ∙ ap (λ (n : ℕ). fold (n + total (payload p))) (e ∙ ap (λ (l : List ℕ). fold (0 + total l)) (same_header p h))
    ∙ fold_more 0 6 (pseudo_header_lem p) (payload p) even

-- the bytes that the code lays out, from the fields that it read
pub laid_out : {bytes from to : List ℕ} {protocol len : ℕ} (p : List ℕ) → bytes ≡ Rfc768·pseudoHeader from to protocol len
    → from ≡ bytes_at p 12 4 → to ≡ bytes_at p 16 4 → protocol ≡ u8_at p 9 → len ≡ length (payload p)
    → fold (0 + total bytes) ≡ fold (0 + total (from_fields p (length (payload p))))
laid_out {bytes} {from} {to} {protocol} {len} p e f t n l =
    ap (λ (b : List ℕ). fold (0 + total b))
    (e ∙ ap₂ (λ (a b : List ℕ). Rfc768·pseudoHeader a b protocol len) f t ∙ ap₂ (λ (k m : ℕ). Rfc768·pseudoHeader (bytes_at p 12 4) (bytes_at p 16 4) k m) n l)
