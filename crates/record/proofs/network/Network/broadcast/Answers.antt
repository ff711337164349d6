-- `Network::broadcast` meets its contract: std's numbers of four bytes are the wire's.
use Rattle.std.proofs.Common.{ℕ, ◌-◌, ◌^◌, ◌∙◌, ap₂, arith}
use Rattle.std.proofs.lemmas.Nat.{or_lt}
use Rattle.base.specs.Bytes.{be32}
use Rattle.base.proofs.BigEndian.{be32_is, u32_is}
use Rattle.record.specs.Network.{broadcast}
use Rattle.record.proofs.network.Network.broadcast.Goals as goal

pub returns : goal.returns
returns c =
    c.to_be_bytes.ensures
    ∙ be32_is _ (or_lt 32 c.from_be_bytes-guest.result (2 ^ 32 - 1 - c.from_be_bytes-mask.result) (omega arith) (omega arith))
    ∙ ap₂ (λ (guest mask : ℕ). be32 (broadcast guest mask))
    (c.from_be_bytes-guest.ensures ∙ u32_is c.args.self.guest)
    (c.from_be_bytes-mask.ensures ∙ u32_is c.args.self.mask)
