-- The pieces in which the reply is written. That they make the reply is proved (`proofs/Pieces.antt`): no reader has to believe them.
use Rattle.std.specs.Prelude.{ℕ, List, [], ◌∷◌, ◌++◌, get_or, replicate}
use Rattle.base.specs.Bytes.{be32}
use Rattle.record.specs.declared.network.Network.{Network}
use Rattle.wire.specs.Rfc2131.{cookie}
use Rattle.options.specs.Rfc2132.{option}

-- all fields up to the MAC
abbrev pub first_fields_lem : (guest gateway mac : List ℕ) (xid : ℕ) → List ℕ
first_fields_lem guest gateway mac xid = (2 ∷ 1 ∷ 6 ∷ 0 ∷ []) ++ be32 xid ++ replicate 8 0 ++ guest ++ gateway ++ replicate 4 0 ++ mac

-- what stands before the options
unfoldable pub fixed_part : (fields : List ℕ) → List ℕ
fixed_part fields = fields ++ replicate 202 0 ++ cookie

-- "five four-byte option values, held as rows"
abbrev pub values : Network → List (List ℕ)
values net = net.gateway ∷ be32 net.lease ∷ net.mask ∷ net.gateway ∷ net.gateway ∷ []

abbrev pub row : List (List ℕ) → ℕ → List ℕ
row values i = get_or values i []

unfoldable pub written : (fields : List ℕ) (type : ℕ) (values : List (List ℕ)) → List ℕ
written fields type values =
    fixed_part fields
    ++ option 53 (type ∷ [])
    ++ option 54 (row values 0)
    ++ option 51 (row values 1)
    ++ option 1 (row values 2)
    ++ option 3 (row values 3)
    ++ option 6 (row values 4)
    ++ (255 ∷ [])
    ++ replicate 26 0
