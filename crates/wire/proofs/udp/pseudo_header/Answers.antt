-- `udp::pseudo_header` meets its contract: byte by byte the literal is the definition.
use Rattle.std.proofs.Common.{arith, ◌∙◌}
use Rattle.wire.specs.Rfc768.{pseudo_header_lem}
use Rattle.base.proofs.Lists.{all_bytes_lem}
use Rattle.base.proofs.BigEndian.{be16_is}
use Rattle.wire.proofs.udp.pseudo_header.Goals as goal

pub returns : goal.returns
unfolding pseudo_header_lem
returns c =
    rw (all_bytes_lem c.args.src_ip 4 (omega arith), all_bytes_lem c.args.dst_ip 4 (omega arith), c.to_be_bytes.ensures ∙ be16_is c.args.len (omega arith))
