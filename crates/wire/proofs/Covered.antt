-- What a checksum of UDP or TCP covers: how long its pseudo-header is, and that its sum is that of the pseudo-header and that of what lies behind it.
use Prim.Native.Nat.{ℕ, ◌+◌, ◌≤◌}
use mathlib.Core.Path.{◌≡◌}
use mathlib.Core.List.{List}
use native.Mathlib.Omega.{arith}
use lib.ListN.{length, length-append}
use Rattle.base.proofs.Lists.{all_bytes_lem}
use Rattle.sums.proofs.Laws.{total_append}
use Rattle.sums.specs.Rfc1071.{words, sum, total}
use Rattle.wire.specs.Rfc768.{pseudo_header_lem, covered}

module _ (from to : List ℕ) (four : length from ≡ 4) (four' : length to ≡ 4) (protocol : ℕ) where
  pub length_pseudo_header : (n : ℕ) → length (pseudo_header_lem from to protocol n) ≡ 12
  unfolding pseudo_header_lem
  length_pseudo_header n = simp length-append (omega arith)

  pub total_covered : (s : List ℕ) → total (covered protocol from to s) ≡ total (pseudo_header_lem from to protocol (length s)) + total s
  unfolding covered
  total_covered s = total_append 6 (pseudo_header_lem from to protocol (length s)) s (length_pseudo_header (length s))

  -- the protocol is a word of it
  pub protocol_counts : (n : ℕ) → protocol ≤ total (pseudo_header_lem from to protocol n)
  unfolding total words sum pseudo_header_lem
  protocol_counts n = rw (all_bytes_lem from 4 four, all_bytes_lem to 4 four') (omega arith)
