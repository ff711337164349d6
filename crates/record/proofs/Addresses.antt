-- Document 01's network, by computation: its broadcast address.
use Rattle.std.proofs.Common.{◌≡◌, [], ◌∷◌, refl}
use Rattle.record.specs.Network.{document01, broadcast_of}

-- every host bit of 10.0.2.15 set under 255.255.255.0
pub broadcast_is : broadcast_of document01 ≡ 10 ∷ 0 ∷ 2 ∷ 255 ∷ []
broadcast_is = refl
