-- The fields of a datagram, read from its bytes at their offsets, are the ones that were put in; and it sums right.
use Prim.Native.Nat.{ℕ}
use mathlib.Core.Path.{◌≡◌, refl, sym, ◌∙◌}
use mathlib.Core.List.{List}
use native.Mathlib.Omega.{arith}
use lib.ListN.{length, drop}
use Rattle.sums.specs.Rfc1071.{SumsRight}
use Rattle.wire.specs.Rfc768 as Udp
use Rattle.wire.specs.Rfc768.{covered, checksum_of, datagram}
use Rattle.datagrams.proofs.Datagram.{datagram_sums_right, checksum_some}

-- RFC 768, "Fields": `s` is a datagram from one address and port to another, around this data
pub record DatagramOf (s from to : List ℕ) (source target : ℕ) (d : List ℕ) : Type 0 where
  pub source_port_lem : Udp.source_port s ≡ source
  pub target_port_lem : Udp.target_port s ≡ target
  pub length_is : Udp.length_field s ≡ length s
  pub checksum_is : Udp.checksum_field s ≡ checksum_of from to source target d
  pub not_zero : Udp.checksum_field s ≡ 0 → ⊥
  pub sums : SumsRight (covered 17 from to s)
  pub carried : drop 8 s ≡ d

module _ (from to : List ℕ) (four : length from ≡ 4) (four' : length to ≡ 4) (source target : ℕ) (d : List ℕ) where
  stored : Udp.checksum_field (datagram from to source target d) ≡ checksum_of from to source target d
  unfolding datagram
  stored = omega arith

  data_behind : drop 8 (datagram from to source target d) ≡ d
  unfolding datagram
  data_behind = refl

  pub datagram_reads_back : DatagramOf (datagram from to source target d) from to source target d
  unfolding datagram
  datagram_reads_back =
      record {
        source_port_lem = omega arith;
        target_port_lem = omega arith;
        length_is = omega arith;
        checksum_is = stored;
        not_zero = λ e. checksum_some from to source target d (sym stored ∙ e);
        sums = datagram_sums_right from to four four' source target d;
        carried = data_behind;
      }
