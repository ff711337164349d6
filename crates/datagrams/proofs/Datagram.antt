-- A datagram sums right with its pseudo-header, and its checksum is never 0. The field holding c adds c to the sum of the words; all ones for 0 is 65,535 more, which folds to the same.
use Prim.Native.Nat.{ℕ, zero, suc, ◌+◌, ◌-◌, ◌≤◌}
use mathlib.Core.Path.{◌≡◌, refl, ap, ◌∙◌}
use mathlib.Core.List.{List, ◌++◌}
use mathlib.Core.Logic.{◌⊎◌, inl, inr}
use native.Mathlib.Omega.{arith}
use lib.ListN.{length}
use Rattle.base.proofs.Lists.{all_bytes_lem}
use Rattle.sums.specs.Rfc1071.{words, sum, total, fold, checksum, SumsRight}
use Rattle.sums.proofs.Laws.{total_append, fold_fold, fold_most, fold_few_rounds, sums_right}
use Rattle.wire.specs.Rfc768.{datagram_header, pseudo_header_lem, covered, transmitted, checksum_of, datagram}
use Rattle.wire.proofs.Covered.{total_covered, protocol_counts}

-- a datagram is 8 bytes longer than its data
pub length_datagram : (from to : List ℕ) (source target : ℕ) (d : List ℕ) → length (datagram from to source target d) ≡ 8 + length d
unfolding datagram
length_datagram from to source target d = omega arith

-- "An all zero transmitted checksum value means that the transmitter generated no checksum"
transmitted_some : (computed : ℕ) → transmitted computed ≡ 0 → ⊥
unfolding transmitted
transmitted_some zero e = omega arith
transmitted_some (suc n) e = omega arith

-- the computed checksum, or all ones for 0
transmitted_cases : (computed : ℕ) → (transmitted computed ≡ computed) ⊎ ((computed ≡ 0) × (transmitted computed ≡ 65535))
unfolding transmitted
transmitted_cases zero = inr (refl, refl)
transmitted_cases (suc n) = inl refl

-- bytes whose sum is that of others plus their checksum, as it is transmitted, sum right where there is something to sum
transmitted_sums_right : (s t : List ℕ) → 1 ≤ total t → total s ≡ total t + transmitted (checksum t) → SumsRight s
unfolding SumsRight checksum
transmitted_sums_right s t some e = go (transmitted_cases (checksum t))
  where
    go : (transmitted (checksum t) ≡ checksum t) ⊎ ((checksum t ≡ 0) × (transmitted (checksum t) ≡ 65535)) → fold (total s) ≡ 65535
    go (inl same) = sums_right s t (e ∙ ap (λ (n : ℕ). total t + n) same)
    go (inr (none, ones)) = ap fold (e ∙ omega (arith, ones)) ∙ fold_few_rounds (total t) 1 some ∙ omega (arith, none, fold_most (total t))

-- the header with a checksum in it, in words
total_header : (c source target len : ℕ) → total (datagram_header c source target len) ≡ total (datagram_header 0 source target len) + c
unfolding total words sum
total_header c source target len = omega arith

module _ (from to : List ℕ) (four : length from ≡ 4) (four' : length to ≡ 4) (source target : ℕ) (d : List ℕ) where
  abbrev front : ℕ
  front = total (pseudo_header_lem from to 17 (8 + length d)) + total (datagram_header 0 source target (8 + length d))

  -- header and data, with this checksum, behind the pseudo-header
  total_with : (c : ℕ) → total (covered 17 from to (datagram_header c source target (8 + length d) ++ d)) ≡ front + total d + c
  total_with c =
      let header = datagram_header c source target (8 + length d) in
      let long : length (header ++ d) ≡ 8 + length d = omega arith in
      total_covered from to four four' 17 (header ++ d)
      ∙ ap (λ (n : ℕ). total (pseudo_header_lem from to 17 n) + total (header ++ d)) long
      ∙ omega (arith, total_append 4 header d refl, total_header c source target (8 + length d))

  -- a sum that is begun over what stands before the data, and continued over that, is the sum of all: so its complement, as it is transmitted, is the checksum
  pub checksum_continued : (begun all : ℕ) → begun ≡ fold front → all ≡ fold (begun + total d) → transmitted (65535 - all) ≡ checksum_of from to source target d
  unfolding checksum_of checksum
  checksum_continued begun all e f =
      ap (λ (n : ℕ). transmitted (65535 - n)) (f ∙ ap (λ (n : ℕ). fold (n + total d)) e ∙ fold_fold front (total d) ∙ ap fold (omega (arith, total_with 0)))

  -- RFC 768, "Fields": the datagram's words with those of its pseudo-header fold to 65,535
  pub datagram_sums_right : SumsRight (covered 17 from to (datagram from to source target d))
  unfolding datagram checksum_of
  datagram_sums_right =
      let blank = covered 17 from to (datagram_header 0 source target (8 + length d) ++ d) in
      let some : 1 ≤ total blank = omega (arith, protocol_counts from to four four' 17 (8 + length d), total_with 0) in
      transmitted_sums_right _ blank some (omega (arith, total_with (transmitted (checksum blank)), total_with 0))

-- and its checksum is not 0, which would say that there is none
pub checksum_some : (from to : List ℕ) (source target : ℕ) (d : List ℕ) → checksum_of from to source target d ≡ 0 → ⊥
unfolding checksum_of
checksum_some from to source target d = transmitted_some _

-- The two addresses exchanged give the same checksum, and so do the two ports: the words are the same, in another order.
module _ (from to : List ℕ) (four : length from ≡ 4) (four' : length to ≡ 4) (source target : ℕ) (d : List ℕ) where
  same_addresses : (len : ℕ) → total (pseudo_header_lem to from 17 len) ≡ total (pseudo_header_lem from to 17 len)
  unfolding total words sum pseudo_header_lem
  same_addresses len = rw (all_bytes_lem from 4 four, all_bytes_lem to 4 four') (omega arith)

  same_ports : (len : ℕ) → total (datagram_header 0 target source len) ≡ total (datagram_header 0 source target len)
  unfolding total words sum
  same_ports len = omega arith

  pub addresses_exchanged : checksum_of to from source target d ≡ checksum_of from to source target d
  unfolding checksum_of checksum
  addresses_exchanged =
      ap (λ (n : ℕ). transmitted (65535 - fold n)) (omega (arith, total_with to from four' four source target d 0, total_with from to four four' source target d 0, same_addresses (8 + length d)))

  pub ports_exchanged : checksum_of from to target source d ≡ checksum_of from to source target d
  unfolding checksum_of checksum
  ports_exchanged =
      ap (λ (n : ℕ). transmitted (65535 - fold n)) (omega (arith, total_with from to four four' target source d 0, total_with from to four four' source target d 0, same_ports (8 + length d)))
