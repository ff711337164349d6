-- `reply::write_reply_of` meets its contract: what is written in pieces at the buffer's front is the reply.
use Prim.Native.Nat.{ℕ}
use mathlib.Core.List.{List}
use mathlib.Core.Path.{ap₂, ◌∙◌}
use Rattle.dhcp_message.proofs.Pieces.{reply_pieces}
use Rattle.dhcp_message.specs.helpers.Pieces.{written}
use Rattle.dhcp_message.proofs.reply.write_reply_of.Goals as goal

pub returns : goal.returns
returns c =
    let a = c.args in
    c.write_reply.ensures
    ∙ ap₂ (λ (f : List ℕ) (v : List (List ℕ)). written f a.kind v) c.first_fields-fields.ensures c.option_values.ensures
    ∙ reply_pieces a.net a.mac a.xid a.kind
