-- No constant is left behind: the replies of two records that differ in their networks alone differ at the places of these and nowhere else, and at each place stands the record's own
-- value. By computation, once the addresses are written out byte by byte; outside the places the two are the same list with the places blanked out.
use Prim.Native.Nat.{ℕ, zero, suc, ◌+◌, ◌≤◌}
use mathlib.Core.Bool.{Bool, false, cond}
use mathlib.Core.Path.{◌≡◌, refl, ap, ap₂, sym, subst, ◌∙◌}
use mathlib.Core.List.{List, [], ◌∷◌}
use native.Mathlib.Nat.{add-zero, zero-add}
use native.Mathlib.Omega.{arith}
use lib.ListN.{length, get_or}
use Rattle.base.proofs.Lists.{all_bytes_lem}
use Rattle.base.specs.Bytes.{be16, bytes_at}
use Rattle.record.specs.Guest.{Sized, known}
use Rattle.record.specs.Network.{FourBytes}
use Rattle.record.specs.declared.guest.Guest.{Guest}
use Rattle.record.specs.declared.network.Network.{Network}
use Rattle.arp_reply.specs.Reply.{arp_reply_lem, reply_to}
use Rattle.dhcp_message.specs.Message.{reply}
use Rattle.dhcp_reply.specs.Reply.{dhcp_frame, dhcp_frame_to}
use Rattle.echo_reply.proofs.Echo.{length_echo}
use Rattle.frames.specs.Frames.{ip_frame}
use Rattle.sums.specs.Rfc1071.{checksum}
use Rattle.wire.specs.Rfc768.{datagram}
use Rattle.wire.specs.Rfc791.{header, header_with_lem, source_of}
use Rattle.wire.specs.Rfc792.{echo}
use Rattle.wire.specs.Rfc826 as Arp
use Rattle.wire.specs.Rfc894.{body, source_mac}
use Rattle.rules.specs.Rules.{decision, payload}
use Rattle.rules.specs.Seen.{EchoAsked}
use Rattle.std.specs.Prelude.{Ok}
use Rattle.rules.specs.declared.decision.Decision.TheVariants.{ArpReply, DhcpReply}
use Rattle.rules.proofs.Says.{Says, says, dhcp_decided, echo_answered}
use Rattle.laws.specs.Table.{reply_at_ample_room}
use Rattle.laws.specs.OwnNetwork.{Place, at, within, DifferAt, arp_places, echo_places, dhcp_places, on_network, SameRequest, SamePing}

-- a frame, from its byte `k` on, with 0 at the places
blanked : List Place → (k : ℕ) (frame : List ℕ) → List ℕ
blanked places k [] = []
blanked places k (b ∷ frame) = cond (within places k) 0 b ∷ blanked places (suc k) frame

-- elsewhere it is the frame
blanked_elsewhere : (places : List Place) (k i : ℕ) (frame : List ℕ) → within places (k + i) ≡ false → get_or (blanked places k frame) i 0 ≡ get_or frame i 0
unfolding blanked
blanked_elsewhere places k i [] e = refl
blanked_elsewhere places k zero (b ∷ frame) e = ap (λ (t : Bool). cond t 0 b) (subst (λ (n : ℕ). within places n ≡ false) (add-zero k) e)
blanked_elsewhere places k (suc i) (b ∷ frame) e = blanked_elsewhere places (suc k) i frame (subst (λ (n : ℕ). within places n ≡ false) (omega arith) e)

same_but_there : (places : List Place) (s t : List ℕ) → blanked places 0 s ≡ blanked places 0 t → (k : ℕ) → within places k ≡ false → get_or s k 0 ≡ get_or t k 0
same_but_there places s t e k out =
    let out' = subst (λ (n : ℕ). within places n ≡ false) (sym (zero-add k)) out in
    sym (blanked_elsewhere places 0 k s out') ∙ ap (λ (l : List ℕ). get_or l k 0) e ∙ blanked_elsewhere places 0 k t out'

-- a record's addresses and MAC, byte by byte
spelt : Network → Network
spelt net = record { gateway = bytes_at net.gateway 0 4; guest = bytes_at net.guest 0 4; mask = bytes_at net.mask 0 4; lease = net.lease }

is_spelt : (net : Network) → FourBytes net → net ≡ spelt net
unfolding spelt
is_spelt net four i = record { gateway = all_bytes_lem net.gateway 4 four.gateway i; guest = all_bytes_lem net.guest 4 four.guest i; mask = all_bytes_lem net.mask 4 four.mask i; lease = net.lease }

-- what is shown of two records with their arrays written out holds of them
module _ (P : Network → List ℕ → Network → Type 0) (net : Network) (mac : List ℕ) (net' : Network) (four : FourBytes net) (six : length mac ≡ 6) (four' : FourBytes net') where
  by_bytes : P (spelt net) (bytes_at mac 0 6) (spelt net') → P net mac net'
  by_bytes p =
      subst (λ (n : Network). P n mac net') (sym (is_spelt net four))
      (subst (λ (m : List ℕ). P (spelt net) m net') (sym (all_bytes_lem mac 6 six))
      (subst (λ (n : Network). P (spelt net) (bytes_at mac 0 6) n) (sym (is_spelt net' four')) p))

-- DHCP: one message from two records that differ in their networks alone
module _ (id xid : ℕ) (frame : List ℕ) (xid' type : ℕ) where
  abbrev of : Network → List ℕ → Guest
  of net mac = known mac id xid net

  Lease : Network → List ℕ → Network → Type 0
  Lease net mac net' = DifferAt (dhcp_places (of net mac) xid' type) (dhcp_places (of net' mac) xid' type) (dhcp_frame (of net mac) frame xid' type) (dhcp_frame (of net' mac) frame xid' type)

  leases_differ : (net : Network) (mac : List ℕ) (net' : Network) → Lease (spelt net) (bytes_at mac 0 6) (spelt net')
  unfolding Lease spelt dhcp_frame_to ip_frame datagram reply header header_with_lem blanked
  leases_differ net mac net' =
      record {
        own = (refl, (refl, (refl, (refl, (refl, (refl, (refl, (refl, (refl, (refl, (refl, tt)))))))))));
        own' = (refl, (refl, (refl, (refl, (refl, (refl, (refl, (refl, (refl, (refl, (refl, tt)))))))))));
        as_long = refl;
        same_elsewhere = same_but_there (dhcp_places (of (spelt net) (bytes_at mac 0 6)) xid' type) (dhcp_frame (of (spelt net) (bytes_at mac 0 6)) frame xid' type) (dhcp_frame (of (spelt net') (bytes_at mac 0 6)) frame xid' type) refl;
      }

-- The replies to one DHCP message, which is answered whatever the network.
pub dhcp_replies_differ : (guest : Guest) (net : Network) (frame : List ℕ) (xid type : ℕ) → Sized guest → FourBytes net → decision guest.network frame ≡ Ok (DhcpReply xid type)
    → DifferAt (dhcp_places guest xid type) (dhcp_places (on_network net guest) xid type) (reply_at_ample_room guest frame) (reply_at_ample_room (on_network net guest) frame)
unfolding reply_at_ample_room Says Lease
dhcp_replies_differ guest net frame xid type sized four e =
    let m = (subst (Says guest.network frame) e (says guest.network frame)).0 in
    let e' : decision net frame ≡ Ok (DhcpReply xid type) =
    dhcp_decided net frame m.datagram m.from_68 m.to_67 ∙ sym (dhcp_decided guest.network frame m.datagram m.from_68 m.to_67) ∙ e in
    rw (e, e')
    (by_bytes (Lease guest.id guest.xid frame xid type) guest.network guest.mac net sized.network sized.mac four
    (leases_differ guest.id guest.xid frame xid type guest.network guest.mac net))

-- the places of an echo reply around `len` bytes
headed : (len id : ℕ) (target gateway : List ℕ) → List Place
headed len id target gateway = at 24 2 (be16 (checksum (header_with_lem 0 (20 + len) id 1 gateway target))) ∷ at 26 4 gateway ∷ []

-- the gateway's address, in an ARP reply and in the header of an echo reply, and what stands around it
module _ (gateway gateway' : List ℕ) (four : length gateway ≡ 4) (four' : length gateway' ≡ 4) where
  arp_at : (frame : List ℕ)
      → DifferAt (at 28 4 gateway ∷ []) (at 28 4 gateway' ∷ []) (reply_to gateway (Arp.sender_mac_lem (body frame)) (Arp.sender_address (body frame))) (reply_to gateway' (Arp.sender_mac_lem (body frame)) (Arp.sender_address (body frame)))
  unfolding reply_to blanked
  arp_at frame =
      rw (all_bytes_lem gateway 4 four, all_bytes_lem gateway' 4 four')
      (record { own = (refl, tt); own' = (refl, tt); as_long = refl; same_elsewhere = same_but_there (at 28 4 (bytes_at gateway 0 4) ∷ []) (reply_to (bytes_at gateway 0 4) (Arp.sender_mac_lem (body frame)) (Arp.sender_address (body frame))) (reply_to (bytes_at gateway' 0 4) (Arp.sender_mac_lem (body frame)) (Arp.sender_address (body frame))) refl })

  echo_at : (id : ℕ) (frame message : List ℕ)
      → DifferAt (headed (length message) id (source_of (body frame)) gateway) (headed (length message) id (source_of (body frame)) gateway')
      (ip_frame (source_mac frame) id 1 gateway (source_of (body frame)) message) (ip_frame (source_mac frame) id 1 gateway' (source_of (body frame)) message)
  unfolding headed ip_frame header header_with_lem blanked
  echo_at id frame message =
      rw (all_bytes_lem gateway 4 four, all_bytes_lem gateway' 4 four')
      (record {
        own = (refl, (refl, tt));
        own' = (refl, (refl, tt));
        as_long = refl;
        same_elsewhere = same_but_there (headed (length message) id (source_of (body frame)) (bytes_at gateway 0 4)) (ip_frame (source_mac frame) id 1 (bytes_at gateway 0 4) (source_of (body frame)) message)
            (ip_frame (source_mac frame) id 1 (bytes_at gateway' 0 4) (source_of (body frame)) message) refl;
      })

-- The replies to one ARP request, sent to each record's own gateway.
pub arp_replies_differ : (guest guest' : Guest) (frame frame' : List ℕ) → Sized guest → Sized guest' → SameRequest frame frame'
    → decision guest.network frame ≡ Ok ArpReply → decision guest'.network frame' ≡ Ok ArpReply
    → DifferAt (arp_places guest) (arp_places guest') (reply_at_ample_room guest frame) (reply_at_ample_room guest' frame')
unfolding reply_at_ample_room
arp_replies_differ guest guest' frame frame' sized sized' same e e' =
    rw (e, e')
    (subst (λ (r : List ℕ). DifferAt (arp_places guest) (arp_places guest') (arp_reply_lem guest.network frame) r)
    (ap₂ (reply_to guest'.network.gateway) same.mac same.address)
    (arp_at guest.network.gateway guest'.network.gateway sized.network.gateway sized'.network.gateway frame))

-- The replies to one ping, sent to each record's own gateway.
pub echo_replies_differ : (guest : Guest) (net : Network) (frame frame' : List ℕ) → Sized guest → FourBytes net → SamePing frame frame'
    → EchoAsked guest.network frame → EchoAsked net frame' → length (payload frame) ≤ 65515
    → DifferAt (echo_places guest frame) (echo_places (on_network net guest) frame') (reply_at_ample_room guest frame) (reply_at_ample_room (on_network net guest) frame')
unfolding reply_at_ample_room headed
echo_replies_differ guest net frame frame' sized four same asked asked' within =
    let id = guest.id in
    let ours = guest.network.gateway in
    let theirs = net.gateway in
    let target = source_of (body frame) in
    let message = echo (payload frame) in
    let reply = ip_frame (source_mac frame) id 1 ours target message in
    let reply' = ip_frame (source_mac frame) id 1 theirs target message in
    let here : DifferAt (headed (length (payload frame)) id target ours) (headed (length (payload frame)) id target theirs) reply reply' =
    subst (λ (n : ℕ). DifferAt (headed n id target ours) (headed n id target theirs) reply reply') (length_echo (payload frame) (omega (arith, asked.whole)))
    (echo_at ours theirs sized.network.gateway four.gateway id frame message) in
    rw (echo_answered guest.network frame asked within, echo_answered net frame' asked' (subst (λ (l : List ℕ). length l ≤ 65515) same.message within))
    (subst (λ (r : List ℕ). DifferAt (echo_places guest frame) (echo_places (on_network net guest) frame') reply r) (λ i. ip_frame (same.mac i) id 1 theirs (same.address i) (echo (same.message i)))
    (subst (λ (places : List Place). DifferAt (echo_places guest frame) places reply reply') (λ i. headed (length (same.message i)) id (same.address i) theirs) here))
