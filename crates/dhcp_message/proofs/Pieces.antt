-- The reply's pieces make the reply.
use Prim.Native.Nat.{ℕ}
use mathlib.Core.Path.{◌≡◌, ap, sym, ◌∙◌}
use mathlib.Core.List.{List, [], ◌∷◌, ◌++◌, append_assoc}
use native.Mathlib.Omega.{arith}
use lib.ListN.{length, length-append, replicate}
use Rattle.base.specs.Bytes.{be32}
use Rattle.base.specs.Buffer.{put}
use Rattle.record.specs.declared.network.Network.{Network}
use Rattle.base.proofs.Front.{Front}
use Rattle.dhcp_message.specs.helpers.Pieces.{first_fields_lem, fixed_part, values, written}
use Rattle.wire.specs.Rfc2131.{cookie}
use Rattle.dhcp_message.specs.Message.{reply}
use Rattle.options.specs.Rfc2132.{option}

-- what stands before the options, written at a buffer's front
pub fixed_front : (b fields : List ℕ) {now : List ℕ} → length fields ≡ 34 → now ≡ put 0 (fixed_part fields) b → Front b (fixed_part fields) 240 now
unfolding fixed_part
fixed_front b fields e p = record { bytes = p; long = simp length-append (omega (arith, e)) }

-- the zeros of chaddr, sname and file in one
zeros : (s : List ℕ) → s ++ replicate 202 0 ≡ s ++ replicate 10 0 ++ replicate 64 0 ++ replicate 128 0
zeros s = sym (append_assoc (s ++ replicate 10 0) (replicate 64 0) (replicate 128 0) ∙ append_assoc s (replicate 10 0) (replicate 192 0))

-- the reply in its pieces
pub reply_pieces : (net : Network) (mac : List ℕ) (xid type : ℕ) → written (first_fields_lem net.guest net.gateway mac xid) type (values net) ≡ reply net mac xid type
unfolding written fixed_part reply
reply_pieces net mac xid type =
    ap
    (λ (l : List ℕ).
    l ++ cookie ++ option 53 (type ∷ []) ++ option 54 net.gateway ++ option 51 (be32 net.lease) ++ option 1 net.mask ++ option 3 net.gateway
    ++ option 6 net.gateway
    ++ (255 ∷ [])
    ++ replicate 26 0)
    (zeros (first_fields_lem net.guest net.gateway mac xid))
