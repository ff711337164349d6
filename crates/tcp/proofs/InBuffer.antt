-- What a call leaves in the buffer where it answers 1 with n: the first n bytes are the frame, of length n, and the others are as they were.
use Prim.Native.Nat.{ℕ, ◌+◌}
use mathlib.Core.Path.{◌≡◌}
use mathlib.Core.List.{List, [], ◌∷◌}
use lib.ListN.{length, take, drop}
use Rattle.sums.specs.Rfc1071.{SumsRight}
use Rattle.wire.specs.Rfc768.{covered}
use Rattle.record.specs.Answer.{paper, Meets, spending}
use Rattle.record.specs.declared.guest.Guest.{Guest}
use Rattle.record.specs.declared.answer.Answer.{Answer}
use Rattle.record.proofs.InBuffer.{InBuffer, in_buffer}
use Rattle.tcp.specs.Builders.{make_tcp_frame_lem, data_limit_lem}
use Rattle.tcp.specs.Rfc9293.{options, tcp_frame}
use Rattle.tcp.specs.declared.Endpoints.{Endpoints}
use Rattle.tcp.proofs.TcpLaws.{length_tcp_frame}
use Rattle.tcp.proofs.SumsRight.{frame_segment_sums_right}

module _ (guest : Guest) (before after : List ℕ) (a : Answer) (n : ℕ) (one : paper a.verdict ≡ 1 ∷ n ∷ []) where
  module _ (ends : Endpoints) (seq ack flags : ℕ) (d : List ℕ) (six : length ends.dst_mac ≡ 6) (four : length ends.src_ip ≡ 4)
      (four' : length ends.dst_ip ≡ 4) (m : Meets (make_tcp_frame_lem guest ends seq ack flags d (length before)) before after a) where
    pub tcp_frame_in_buffer : InBuffer (tcp_frame guest.id ends seq ack flags d) before after n
    unfolding spending
    tcp_frame_in_buffer =
        in_buffer (data_limit_lem flags) (length d) (54 + length (options flags) + length d) (length before) (tcp_frame guest.id ends seq ack flags d) before after a.verdict n
        (λ h. length_tcp_frame guest.id ends seq ack flags d six four four') m.wrote one

    -- its segment, as it stands in the buffer, with the pseudo-header
    pub segment_in_buffer_sums_right : SumsRight (covered 6 ends.src_ip ends.dst_ip (drop 34 (take n after)))
    segment_in_buffer_sums_right = rw tcp_frame_in_buffer.front (frame_segment_sums_right guest.id ends seq ack flags d six four four')
