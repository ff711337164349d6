-- DHCP: the reply, a message of RFC 2131, figure 1, with document 01's values ("DHCP reply: 300 bytes"), and what it answers.
use Rattle.std.specs.Prelude.{ℕ, zero, suc, cond, Option, Some, None, List, [], ◌∷◌, ◌++◌, replicate, eqb}
use Rattle.base.specs.Bytes.{be16, be32}
use Rattle.options.specs.Rfc2132.{option}
use Rattle.record.specs.Answer.{Writing, fitting}
use Rattle.record.specs.declared.network.Network.{Network}
use Rattle.wire.specs.Rfc2131.{cookie}

-- The reply, field by field at its offset. All that has no value of its own is 0.
unfoldable pub reply : Network → (mac : List ℕ) (xid type : ℕ) → List ℕ
reply net mac xid type =
    (2 ∷ 1 ∷ 6 ∷ 0 ∷ [])  -- 0: op, a reply; htype, Ethernet; hlen; hops
    ++ be32 xid  -- 4: xid
    ++ be16 0 ++ be16 0  -- 8: secs; flags
    ++ replicate 4 0  -- 12: ciaddr
    ++ net.guest  -- 16: yiaddr, the guest's address
    ++ net.gateway  -- 20: siaddr
    ++ replicate 4 0  -- 24: giaddr
    ++ mac ++ replicate 10 0  -- 28: chaddr, the record's MAC
    ++ replicate 64 0  -- 44: sname
    ++ replicate 128 0  -- 108: file
    ++ cookie  -- 236
    ++ option 53 (type ∷ [])  -- 240: DHCP message type
    ++ option 54 net.gateway  -- 243: server identifier
    ++ option 51 (be32 net.lease)  -- 249: IP address lease time
    ++ option 1 net.mask  -- 255: subnet mask
    ++ option 3 net.gateway  -- 261: router
    ++ option 6 net.gateway  -- 267: domain name server
    ++ (255 ∷ [])  -- 273: end
    ++ replicate 26 0  -- 274, to 300 bytes

-- what is to come of a call that builds the reply
abbrev pub build_reply_lem : Network → (mac : List ℕ) (xid type room : ℕ) → Writing
build_reply_lem net mac xid type room = fitting 300 room (reply net mac xid type)

-- "Message type 1 gives an offer (2), 3 an acknowledgement (5), any other a drop": the reply's type, 0 where there is none
abbrev pub answering : (type : ℕ) → ℕ
answering type = cond (eqb type 1) 2 (cond (eqb type 3) 5 0)

-- that 0 as what `reply_type` answers
abbrev pub some_answer : (answer : ℕ) → Option ℕ
some_answer zero = None
some_answer (suc n) = Some (suc n)
