-- A datagram of `make_udp_payload` in the frame that `make_ip_frame` or `make_ip_frame_in_place` makes around it, between the same addresses, as it stands in the buffer: it reads back and sums right.
use Prim.Native.Nat.{ℕ}
use mathlib.Core.Path.{◌≡◌}
use mathlib.Core.List.{List, [], ◌∷◌}
use lib.ListN.{length, take, drop}
use Rattle.record.specs.Answer.{paper, Wrote, Meets}
use Rattle.record.specs.declared.answer.Answer.{Answer}
use Rattle.std.specs.Prelude.{Result}
use Rattle.record.specs.declared.answer.Refusal.{Refusal}
use Rattle.record.specs.declared.answer.Verdict.{Verdict}
use Rattle.record.specs.declared.guest.Guest.{Guest}
use Rattle.wire.specs.Rfc768.{datagram}
use Rattle.frames.specs.Builders.{make_ip_frame_lem, make_ip_frame_in_place_lem}
use Rattle.frames.specs.Frames.{ip_frame}
use Rattle.frames.proofs.InBuffer.{ip_frame_in_buffer, ip_frame_in_place_in_buffer}
use Rattle.frames.proofs.Lengths.{drop_34}
use Rattle.datagrams.specs.Builders.{make_udp_payload_lem}
use Rattle.datagrams.proofs.InBuffer.{datagram_in_buffer}
use Rattle.datagrams.proofs.ReadBack.{DatagramOf, datagram_reads_back}

module _ (from to : List ℕ) (four : length from ≡ 4) (four' : length to ≡ 4) (source target : ℕ) (d mac : List ℕ) (six : length mac ≡ 6) where
  pub datagram_frame_reads_back : (id : ℕ) → DatagramOf (drop 34 (ip_frame mac id 17 from to (datagram from to source target d))) from to source target d
  datagram_frame_reads_back id = rw (drop_34 mac from to (datagram from to source target d) id 17 six four four') (datagram_reads_back from to four four' source target d)

  -- what the two calls left: a datagram of `n` bytes at the front of one buffer, and its frame of `m` at the front of another
  module _ (before after : List ℕ) (v : Result Verdict Refusal) (n : ℕ) (one : paper v ≡ 1 ∷ n ∷ []) (w : Wrote (make_udp_payload_lem from to source target d (length before)) before after v)
      (guest : Guest) (before' after' : List ℕ) (a : Answer) (m : ℕ) (one' : paper a.verdict ≡ 1 ∷ m ∷ []) where
    built : take n after ≡ datagram from to source target d
    built = (datagram_in_buffer before after v n from to source target d one w).front

    pub datagram_in_frame_reads_back : Meets (make_ip_frame_lem guest mac from to 17 (take n after) (length before')) before' after' a → DatagramOf (drop 34 (take m after')) from to source target d
    datagram_in_frame_reads_back meets =
        let framed = rw built at (ip_frame_in_buffer guest before' after' a m one' mac from to 17 six four four' (take n after) meets) in
        rw framed.front (datagram_frame_reads_back guest.id)

    -- the same where the datagram was built at 34 of the frame's own buffer
    pub datagram_in_place_reads_back : drop 34 before' ≡ after → Meets (make_ip_frame_in_place_lem guest mac from to 17 n before') before' after' a
        → DatagramOf (drop 34 (take m after')) from to source target d
    datagram_in_place_reads_back there meets =
        let framed = rw (there, built) at (ip_frame_in_place_in_buffer guest before' after' a m one' mac from to 17 six four four' n meets) in
        rw framed.front (datagram_frame_reads_back guest.id)
