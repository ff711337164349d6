-- Where the Rust panics on a guest frame and where it cuts a length, in the words of the laws (`rules/specs/Seen.antt`).
use Rattle.std.specs.Prelude.{ℕ, ◌<◌, ◌⊎◌, ◌≡◌, List, length}
use Rattle.wire.specs.Rfc791.{target_of}
use Rattle.wire.specs.Rfc894.{body}
use Rattle.equals_rust.specs.Network.{rust_network}
use Rattle.rules.specs.Rules.{payload_at_lem}
use Rattle.rules.specs.Seen.{Carries, CutMessage, TooLongPing}

-- an ICMP message to the gateway, or a datagram, whose IPv4 header runs past the end of its frame
pub record HeaderPast (frame : List ℕ) : Type 0 where
  pub read : (Carries frame 1 × (target_of (body frame) ≡ rust_network.gateway)) ⊎ Carries frame 17
  pub past : length frame < payload_at_lem frame

-- a DHCP message whose type is cut off
abbrev pub TypeCut : (frame : List ℕ) → Type 0
TypeCut frame = (place : ℕ) × CutMessage frame place

-- a ping whose payload is over 65,515 bytes
abbrev pub PingOver : (frame : List ℕ) → Type 0
PingOver frame = (len : ℕ) × TooLongPing rust_network frame len
