-- `Packet::header_with` meets its contract: byte by byte the literal is the definition.
use mathlib.Core.Path.{◌∙◌}
use native.Mathlib.Omega.{arith}
use Rattle.wire.specs.Rfc791.{header_with_lem}
use Rattle.base.proofs.BigEndian.{be16_is}
use Rattle.base.proofs.Lists.{all_bytes_lem}
use Rattle.frames.proofs.ipv4.Packet.header_with.Goals as goal

pub returns : goal.returns
unfolding header_with_lem
returns c =
    let s = c.args.self in
    rw (
      all_bytes_lem s.src_ip 4 (omega arith),
      all_bytes_lem s.dst_ip 4 (omega arith),
      c.to_be_bytes-total.ensures ∙ be16_is s.total (omega arith),
      c.to_be_bytes-id.ensures ∙ be16_is s.id (omega arith),
      c.to_be_bytes-csum.ensures ∙ be16_is c.args.csum (omega arith),
    )
