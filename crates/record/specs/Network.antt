-- A guest's network (document 01, "The record", and document 02, 1/13): its addresses, and document 01's.
use Rattle.std.specs.Prelude.{◌≡◌, ℕ, ◌-◌, ◌^◌, List, [], ◌∷◌, length, bit_or}
use Rattle.base.specs.Bytes.{be32, u32_at}
use Rattle.record.specs.declared.network.Network.{Network}

-- the gateway's MAC, 52:54:00:00:00:01
abbrev pub gateway_mac : List ℕ
gateway_mac = 0x52 ∷ 0x54 ∷ 0x00 ∷ 0x00 ∷ 0x00 ∷ 0x01 ∷ []

-- document 01's: gateway 10.0.2.2, guest 10.0.2.15, mask 255.255.255.0, a lease of 86,400 seconds
abbrev pub document01 : Network
document01 =
    record {
      gateway = 10 ∷ 0 ∷ 2 ∷ 2 ∷ [];
      guest = 10 ∷ 0 ∷ 2 ∷ 15 ∷ [];
      mask = 255 ∷ 255 ∷ 255 ∷ 0 ∷ [];
      lease = 86400;
    }

-- an address or a mask as a number of 32 bits, its first byte the highest
abbrev pub number : List ℕ → ℕ
number address = u32_at address 0

-- "broadcast is the guest address with every host bit set": the bits that the mask leaves to the host are those that it has not
abbrev pub broadcast : (guest mask : ℕ) → ℕ
broadcast guest mask = bit_or guest (2 ^ 32 - 1 - mask)

abbrev pub broadcast_of : Network → List ℕ
broadcast_of net = be32 (broadcast (number net.guest) (number net.mask))

-- the lengths that a network's arrays have by their types
pub record FourBytes (net : Network) : Type 0 where
  pub guest : length net.guest ≡ 4
  pub gateway : length net.gateway ≡ 4
  pub mask : length net.mask ≡ 4
