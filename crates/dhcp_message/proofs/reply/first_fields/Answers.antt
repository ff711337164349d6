-- `reply::first_fields` meets its contract: each address is its bytes.
use mathlib.Core.Path.{◌∙◌}
use native.Mathlib.Omega.{arith}
use Rattle.base.proofs.BigEndian.{be32_is}
use Rattle.base.proofs.Lists.{all_bytes_lem}
use Rattle.dhcp_message.proofs.reply.first_fields.Goals as goal

pub returns : goal.returns
returns c =
    let a = c.args in
    rw (c.to_be_bytes-id.ensures ∙ be32_is a.xid (omega arith), all_bytes_lem a.guest 4 (omega arith), all_bytes_lem a.gateway 4 (omega arith), all_bytes_lem a.mac 6 (omega arith))
