-- The network that the comparison is on has the constants of the Rust's text, and it is document 01's, by computation.
use mathlib.Core.Path.{◌≡◌, refl}
use Rattle.record.specs.Network.{broadcast_of, document01, FourBytes}
use Rattle.published.specs.Frames.{GW_IP, GUEST_IP, SUBNET, BCAST_IP}
use Rattle.equals_rust.specs.Network.{rust_network}

pub record OfTheText : Type 0 where
  pub gateway : rust_network.gateway ≡ GW_IP
  pub guest : rust_network.guest ≡ GUEST_IP
  pub mask : rust_network.mask ≡ SUBNET
  pub broadcast : broadcast_of rust_network ≡ BCAST_IP

pub of_the_text : OfTheText
of_the_text = record { gateway = refl; guest = refl; mask = refl; broadcast = refl }

pub of_document_01 : rust_network ≡ document01
of_document_01 = refl

pub four_bytes : FourBytes rust_network
four_bytes = record { guest = refl; gateway = refl; mask = refl }
