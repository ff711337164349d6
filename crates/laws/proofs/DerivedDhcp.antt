-- A DHCP reply in its frame is derived by the grammar: its list is taken apart option by option, and the rest is read back.
use Prim.Native.Nat.{ℕ, ◌+◌, ◌≤◌}
use mathlib.Core.Path.{◌≡◌, refl, ap, sym, subst, ◌∙◌}
use mathlib.Core.Logic.{inl, inr}
use mathlib.Core.List.{List, [], ◌∷◌, ◌++◌}
use native.Mathlib.Omega.{arith}
use lib.ListN.{length, get_or, drop, replicate}
use lib.Seq.{drop-drop}
use Rattle.dhcp_message.specs.Message.{reply}
use Rattle.dhcp_reply.specs.Reply.{reply_source, reply_target}
use Rattle.record.specs.Network.{FourBytes}
use Rattle.dhcp_message.proofs.ReadBack.{reply_reads_back}
use Rattle.base.specs.Bytes.{be32, u8_at, u16_at}
use Rattle.wire.specs.Rfc768.{datagram}
use Rattle.record.specs.declared.network.Network.{Network}
use Rattle.datagrams.proofs.Datagram.{length_datagram}
use Rattle.base.proofs.Lists.{all_bytes_lem}
use Rattle.grammar.specs.Grammar.{body, payload, ItemList, END, item, option, IsList, options53, DHCP, data_at, Derives}
use Rattle.grammar.specs.Report.{parts_of}
use Rattle.grammar.proofs.Places.{placed}
use Rattle.std.specs.Prelude.{Ok}
use Rattle.rules.specs.declared.decision.Decision.TheVariants.{DhcpReply}
use Rattle.laws.specs.Derivations.{reply_items, DerivedAs}
use Rattle.laws.proofs.DerivedIp.{Packet, payload_placed, payload_byte_law}
use Rattle.laws.proofs.Derived.{datagram_summed, datagram_derived}

-- an option in front of a list
option_then : (at code len next : ℕ) (value rest : List ℕ) (items : ItemList) → 1 ≤ code → code ≤ 254 → length value ≡ len → next ≡ at + 2 + len
    → IsList next rest items → IsList at (code ∷ len ∷ value ++ rest) (item (option at code len) items)
unfolding IsList
option_then at code len next value rest items least most e f list =
    let there : next ≡ at + length (code ∷ len ∷ value) = omega arith in
    (code ∷ len ∷ value, rest, refl, (value, refl, least, most, e, refl), subst (λ (k : ℕ). IsList k rest items) there list)

-- a list that is END and its zeros
end_there : (at zeros : ℕ) → IsList at (255 ∷ replicate zeros 0) (END at zeros)
unfolding IsList
end_there at zeros = (refl, refl)

module _ (net : Network) (mac : List ℕ) (xid type : ℕ) (four : FourBytes net) (six : length mac ≡ 6) where
  -- what stands behind the cookie
  behind_cookie : drop 240 (reply net mac xid type)
      ≡ 53 ∷ 1 ∷ (type ∷ [])
      ++ (54 ∷ 4 ∷ net.gateway
      ++ (51 ∷ 4 ∷ be32 net.lease
      ++ (1 ∷ 4 ∷ net.mask
      ++ (3 ∷ 4 ∷ net.gateway
      ++ (6 ∷ 4 ∷ net.gateway
      ++ (255 ∷ replicate 26 0))))))
  unfolding reply
  behind_cookie = rw (all_bytes_lem net.guest 4 four.guest, all_bytes_lem net.gateway 4 four.gateway, all_bytes_lem net.mask 4 four.mask, all_bytes_lem mac 6 six)

  reply_list : IsList 282 (drop 240 (reply net mac xid type)) reply_items
  reply_list =
      rw behind_cookie
      (option_then 282 53 1 285 (type ∷ []) _ _ (omega arith) (omega arith) refl refl
      (option_then 285 54 4 291 net.gateway _ _ (omega arith) (omega arith) four.gateway refl
      (option_then 291 51 4 297 (be32 net.lease) _ _ (omega arith) (omega arith) refl refl
      (option_then 297 1 4 303 net.mask _ _ (omega arith) (omega arith) four.mask refl
      (option_then 303 3 4 309 net.gateway _ _ (omega arith) (omega arith) four.gateway refl
      (option_then 309 6 4 315 net.gateway _ _ (omega arith) (omega arith) four.gateway refl
      (end_there 315 26)))))))

  -- the message, from the place 42 of its frame on
  message_derived : (frame : List ℕ) → drop 42 frame ≡ reply net mac xid type → u8_at frame 284 ≡ type → 1 ≤ type → type ≤ 8 → DHCP frame 42 reply_items
  unfolding options53
  message_derived frame inner t least most =
      let r = reply_reads_back net mac xid type four six in
      record {
        header =
            rw inner
            (record {
              least = omega (arith, r.long);
              most = omega (arith, r.long);
              operation = inr r.is_reply;
              hardware = r.ethernet;
              hardware_length_lem = r.mac_length;
              cookie = r.cookie_is;
            });
        list = rw (← drop-drop 240 42 frame, inner) reply_list;
        type = record { place = 282; once = refl; least = omega (arith, t); most = omega (arith, t) };
      }

  -- its frame
  pub dhcp_derived : (frame : List ℕ) (n : ℕ) (source target : List ℕ) → length source ≡ 4 → length target ≡ 4
      → Packet frame n 17 source target (datagram source target reply_source reply_target (reply net mac xid type)) → 1 ≤ type → type ≤ 8
      → DerivedAs n frame (Ok (DhcpReply xid type))
  unfolding Derives parts_of options53 datagram
  dhcp_derived frame n source target source-4 target-4 p least most =
      let m = reply net mac xid type in
      let r = reply_reads_back net mac xid type four six in
      let inner : drop 42 frame ≡ m = sym (drop-drop 8 34 frame) ∙ ap (drop 8) p.behind in
      let t : u8_at frame 284 ≡ type = payload_byte_law p 250 ∙ ap (λ (s : List ℕ). get_or s 2 0) r.type_is in
      let from : u16_at (payload (body frame)) 0 ≡ 67 = rw p.payload_is in
      let to : u16_at (payload (body frame)) 2 ≡ 68 = rw p.payload_is in
      let at : data_at frame ≡ 42 = omega (arith, p.payload_at) in
      let stop : n ≡ 42 + length (drop 42 frame) = omega (arith, p.long, r.long, length_datagram source target reply_source reply_target m, ap length inner) in (
        (
          p.ethernet,
          p.ip,
          datagram_derived frame n source target source-4 target-4 reply_source reply_target m p,
          p.ethernet_placed,
          p.ip_placed,
          payload_placed p 8 42 refl,
          inl (from, to),
          rw at (message_derived frame inner t least most),
          rw at (placed 42 240 (drop 42 frame) 42 282 n refl refl stop),
        ),
        rw t,
        from,
        to,
        datagram_summed frame n source target source-4 target-4 reply_source reply_target m p,
      )
