-- ICMP: the frame around an echo reply, as document 01 has it.
use Rattle.std.specs.Prelude.{ℕ, ◌&&◌, cond, List, leb, length, drop}
use Rattle.base.specs.Buffer.{put_if_fits}
use Rattle.wire.specs.Rfc791.{source_of}
use Rattle.wire.specs.Rfc792.{echo}
use Rattle.wire.specs.Rfc894.{body, source_mac}
use Rattle.frames.specs.Frames.{ip_frame}
use Rattle.record.specs.declared.guest.Guest.{Guest}

-- "to the sender's MAC and address, from the gateway": the frame around the echo of what lies from `start` on
abbrev pub echo_frame : Guest → (frame : List ℕ) (start : ℕ) → List ℕ
echo_frame guest frame start = ip_frame (source_mac frame) guest.id 1 guest.network.gateway (source_of (body frame)) (echo (drop start frame))

-- A buffer once the frame around the echo of `request` stands at its front: a request that has a checksum and no more bytes than a packet carries,
-- and where there is room; else the buffer as it was.
unfoldable pub put_echo_lem : (mac : List ℕ) (id : ℕ) (source target request buffer : List ℕ) → List ℕ
put_echo_lem mac id source target request buffer =
    cond (leb 4 (length request) && leb (length request) 65515) (put_if_fits 0 (ip_frame mac id 1 source target (echo request)) buffer)
    buffer
