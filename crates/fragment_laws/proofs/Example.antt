-- The order theorem speaks of something: two frames of one datagram are a train, the last one in front.
use Prim.Native.Nat.{ℕ}
use mathlib.Core.Path.{refl}
use mathlib.Core.Logic.{inl, inr}
use mathlib.Core.List.{List, [], ◌∷◌}
use native.Mathlib.Omega.{arith}
use borrow.Author.Tests.{ltb-true, ltb-false}
use lib.Dec.{ltb}
use Rattle.base.proofs.Choice.{by_test}
use Rattle.sums.specs.Rfc1071.{words, sum, total, fold}
use Rattle.fragment_packets.specs.Packets.{sound_header, sound, is_whole_lem, payload_length, good_length, datagram_of_lem, fragment_of, packet_of}
use Rattle.wire.specs.Rfc791.{more_fragments_lem, fragment_offset_lem}
use Rattle.fragment_packets.specs.declared.packet.Datagram.{Datagram}
use Rattle.fragment_laws.specs.Trains.{Train}

-- 1 to 8 at 0, more fragments to come
unfoldable pub one : List ℕ
one = 82 ∷ 84 ∷ 0 ∷ 0 ∷ 0 ∷ 1 ∷ 82 ∷ 84 ∷ 0 ∷ 18 ∷ 52 ∷ 86 ∷ 8 ∷ 0 ∷ 69 ∷ 0 ∷ 0 ∷ 28 ∷ 0 ∷ 7 ∷ 32 ∷ 0 ∷ 64 ∷ 17 ∷ 66 ∷ 186 ∷ 10 ∷ 0 ∷ 2 ∷ 15 ∷ 10 ∷ 0 ∷ 2 ∷ 2 ∷ 1 ∷ 2 ∷ 3 ∷ 4 ∷ 5 ∷ 6 ∷ 7 ∷ 8 ∷ []

-- 9, 10, 11 at 8, the last
unfoldable pub two : List ℕ
two = 82 ∷ 84 ∷ 0 ∷ 0 ∷ 0 ∷ 1 ∷ 82 ∷ 84 ∷ 0 ∷ 18 ∷ 52 ∷ 86 ∷ 8 ∷ 0 ∷ 69 ∷ 0 ∷ 0 ∷ 23 ∷ 0 ∷ 7 ∷ 0 ∷ 1 ∷ 64 ∷ 17 ∷ 98 ∷ 190 ∷ 10 ∷ 0 ∷ 2 ∷ 15 ∷ 10 ∷ 0 ∷ 2 ∷ 2 ∷ 9 ∷ 10 ∷ 11 ∷ []

-- from 10.0.2.15 to 10.0.2.2, UDP, id 7
unfoldable pub datagram : Datagram
datagram = record { source = 0x0a00020f; target = 0x0a000202; protocol = 17; id = 7 }

pub a_train : Train datagram 11 (two ∷ one ∷ [])
unfolding one two datagram words sum total fold sound_header sound more_fragments_lem fragment_offset_lem is_whole_lem payload_length good_length datagram_of_lem fragment_of packet_of
a_train =
    record {
      none_gets_10 = (refl, (refl, tt));
      of_one_datagram = (refl, (refl, tt));
      do_not_overlap = ((inr (omega arith), tt), (tt, tt));
      cover_from_0 = λ place h. by_test (ltb place 8) (λ e. inr (inl (omega arith, ltb-true place 8 e))) (λ e. inl (ltb-false place 8 e, h));
      one_last = refl;
      which_ends = inl (refl, refl);
      furthest = (omega arith, (omega arith, tt));
    }
