-- No reader has to believe this: what `read` has found out of a frame when it hands it on. Its promise (`Reads`) is proved from it.
use Rattle.std.specs.Prelude.{ℕ, ◌≡◌, List}
use Rattle.grammar.specs.Grammar.{Ethernet, IPv4, body, ethernet_layer, ip_layer, payload_at_lem}
use Rattle.reader.specs.Reported.{layer_of}
use Rattle.reader.specs.declared.parts.Layer.{Layer as Parts-as-Layer}

-- a frame with a right IPv4 header
pub record Framed (frame : List ℕ) : Type 0 where
  pub ethernet : Ethernet frame 0x0800
  pub ip : IPv4 (body frame)

-- where its payload starts, and its two outer layers
pub record Opened (frame : List ℕ) (ethernet ip : Parts-as-Layer) : Type 0 where
  pub starts : ip.payload ≡ payload_at_lem frame
  pub ethernet_is : layer_of ethernet ≡ ethernet_layer frame
  pub ip_is : layer_of ip ≡ ip_layer frame
