-- `reply_packet` meets its contract: byte by byte the literal is the definition.
use native.Mathlib.Omega.{arith}
use mathlib.Core.Path.{sym}
use Rattle.arp_reply.proofs.Lengths.{packet_bytes}
use Rattle.arp_reply.proofs.reply_packet.Goals as goal

pub returns : goal.returns
returns c =
    rw (c.to_be_bytes-hardware.ensures, c.to_be_bytes-protocol.ensures, c.to_be_bytes-operation.ensures)
    (sym (packet_bytes c.args.gateway c.args.mac c.args.address (omega arith) (omega arith) (omega arith)))
