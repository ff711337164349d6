-- The frame that the two calls leave in the buffer where they answer 1.
use Prim.Native.Nat.{ℕ, ◌+◌}
use mathlib.Core.Path.{◌≡◌, ap, ◌∙◌}
use mathlib.Core.List.{List, [], ◌∷◌}
use native.Mathlib.Omega.{arith}
use lib.ListN.{length, take, length-take, length-drop}
use Rattle.base.specs.Bytes.{part}
use Rattle.sums.specs.Rfc1071.{SumsRight}
use Rattle.record.specs.Answer.{paper, Meets, spending}
use Rattle.frames.specs.Builders.{make_ip_frame_lem, make_ip_frame_in_place_lem}
use Rattle.frames.specs.Frames.{ip_frame}
use Rattle.record.specs.declared.guest.Guest.{Guest}
use Rattle.record.specs.declared.answer.Answer.{Answer}
use Rattle.record.proofs.InBuffer.{InBuffer, in_buffer}
use Rattle.frames.proofs.Lengths.{length_ip_frame}
use Rattle.frames.proofs.SumsRight.{frame_header_sums_right}

module _ (guest : Guest) (before after : List ℕ) (a : Answer) (n : ℕ) (one : paper a.verdict ≡ 1 ∷ n ∷ []) where
  module _ (mac source target : List ℕ) (protocol : ℕ) (six : length mac ≡ 6) (four : length source ≡ 4) (four' : length target ≡ 4) where
    pub ip_frame_in_buffer : (payload : List ℕ) → Meets (make_ip_frame_lem guest mac source target protocol payload (length before)) before after a
        → InBuffer (ip_frame mac guest.id protocol source target payload) before after n
    unfolding spending
    ip_frame_in_buffer payload m =
        in_buffer 65515 (length payload) (34 + length payload) (length before) (ip_frame mac guest.id protocol source target payload) before after a.verdict n
        (λ e. length_ip_frame source target four four' mac payload guest.id protocol six) m.wrote one

    -- its IPv4 header, as it stands in the buffer
    pub header_in_buffer_sums_right : (payload : List ℕ) → Meets (make_ip_frame_lem guest mac source target protocol payload (length before)) before after a
        → SumsRight (part (take n after) 14 20)
    header_in_buffer_sums_right payload m =
        rw (ip_frame_in_buffer payload m).front (frame_header_sums_right source target four four' mac payload guest.id protocol six)

    pub ip_frame_in_place_in_buffer : (len : ℕ) → Meets (make_ip_frame_in_place_lem guest mac source target protocol len before) before after a
        → InBuffer (ip_frame mac guest.id protocol source target (part before 34 len)) before after n
    unfolding spending
    ip_frame_in_place_in_buffer len m =
        in_buffer 65515 len (34 + len) (length before) (ip_frame mac guest.id protocol source target (part before 34 len)) before after a.verdict n
        (λ h.
        let within : length (part before 34 len) ≡ len = simp (length-take, length-drop) (omega arith) in
        length_ip_frame source target four four' mac (part before 34 len) guest.id protocol six ∙ ap (λ (k : ℕ). 34 + k) within)
        m.wrote one
