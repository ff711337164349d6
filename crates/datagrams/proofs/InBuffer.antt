-- The datagram that the call leaves in the buffer where it answers 1.
use Prim.Native.Nat.{ℕ, ◌+◌}
use mathlib.Core.Path.{◌≡◌}
use mathlib.Core.List.{List, [], ◌∷◌}
use lib.ListN.{length, take}
use Rattle.record.specs.Answer.{paper, Wrote}
use Rattle.std.proofs.Common.{Result}
use Rattle.record.specs.declared.answer.Verdict.{Verdict}
use Rattle.record.specs.declared.answer.Refusal.{Refusal}
use Rattle.record.proofs.InBuffer.{InBuffer, in_buffer}
use Rattle.wire.specs.Rfc768.{datagram}
use Rattle.datagrams.specs.Builders.{make_udp_payload_lem}
use Rattle.datagrams.proofs.Datagram.{length_datagram}
use Rattle.datagrams.proofs.ReadBack.{DatagramOf, datagram_reads_back}

module _ (before after : List ℕ) (v : Result Verdict Refusal) (n : ℕ) (from to : List ℕ) (source target : ℕ) (d : List ℕ) (one : paper v ≡ 1 ∷ n ∷ [])
    (w : Wrote (make_udp_payload_lem from to source target d (length before)) before after v) where
  pub datagram_in_buffer : InBuffer (datagram from to source target d) before after n
  datagram_in_buffer =
      in_buffer 65527 (length d) (8 + length d) (length before) (datagram from to source target d) before after v n (λ h. length_datagram from to source target d) w one

  module _ (four : length from ≡ 4) (four' : length to ≡ 4) where
    -- it reads back as it stands there
    pub datagram_in_buffer_reads_back : DatagramOf (take n after) from to source target d
    datagram_in_buffer_reads_back = rw datagram_in_buffer.front (datagram_reads_back from to four four' source target d)
