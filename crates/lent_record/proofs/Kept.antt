-- A record in which id and xid alone are stored is the whole next one, where that keeps its MAC and its network.
use mathlib.Core.Path.{◌≡◌, sym, ap}
use Rattle.record.specs.Guest.{Settled, known}
use Rattle.record.specs.declared.guest.Guest.{Guest}

pub stored : (guest next promised : Guest) → Settled guest promised → next ≡ promised → known guest.mac next.id next.xid guest.network ≡ promised
stored guest next promised s e i = record { mac = sym s.mac_kept i; id = ap (λ (g : Guest). g.id) e i; xid = ap (λ (g : Guest). g.xid) e i; network = sym s.network_kept i }
