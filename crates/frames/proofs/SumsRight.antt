-- The header of what is built sums right: its checksum field holding c adds c to the sum of the words.
use Prim.Native.Nat.{ℕ, ◌+◌}
use mathlib.Core.Path.{◌≡◌}
use mathlib.Core.List.{List}
use native.Mathlib.Omega.{arith}
use lib.ListN.{length}
use lib.Seq.{take_at}
use Rattle.base.specs.Bytes.{part}
use Rattle.sums.specs.Rfc1071.{words, sum, total, SumsRight}
use Rattle.wire.specs.Rfc791.{header_with_lem, header}
use Rattle.frames.specs.Frames.{ip_frame}
use Rattle.base.proofs.Lists.{all_bytes_lem}
use Rattle.sums.proofs.Laws.{sums_right}
use Rattle.frames.proofs.Lengths.{length_header, drop_14}

module _ (source target : List ℕ) (four : length source ≡ 4) (four' : length target ≡ 4) where
  total_header_with : (c n id protocol : ℕ) → total (header_with_lem c n id protocol source target) ≡ total (header_with_lem 0 n id protocol source target) + c
  unfolding total words sum header_with_lem
  total_header_with c n id protocol = rw (all_bytes_lem source 4 four, all_bytes_lem target 4 four') (omega arith)

  -- RFC 791, section 3.1: the header's words, its checksum among them, fold to 65,535
  pub header_sums_right : (n id protocol : ℕ) → SumsRight (header n id protocol source target)
  unfolding header
  header_sums_right n id protocol = sums_right _ (header_with_lem 0 n id protocol source target) (total_header_with _ n id protocol)

  -- the header of a frame, for every payload
  pub frame_header_sums_right : (mac payload : List ℕ) (id protocol : ℕ) → length mac ≡ 6
      → SumsRight (part (ip_frame mac id protocol source target payload) 14 20)
  frame_header_sums_right mac payload id protocol six =
      rw (
        drop_14 mac source target payload id protocol six four four',
        take_at (header (20 + length payload) id protocol source target) payload 20 (length_header source target four four' _ id protocol),
      )
      (header_sums_right (20 + length payload) id protocol)
