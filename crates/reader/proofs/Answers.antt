-- What `read` answers keeps its promise, one law for each way its tests end: the code's layers are the grammar's, and a kind that is left out is no
-- derivation's (`Unique`).
use Prim.Native.Nat.{ℕ, ◌+◌, ◌-◌, ◌*◌, ◌≤◌, ◌<◌}
use mathlib.Core.Path.{◌≡◌, refl, ap, ap₂, sym, subst, ◌∙◌}
use mathlib.Core.Bool.{Bool, true, false}
use mathlib.Core.Logic.{◌⊎◌, inl, inr}
use mathlib.Core.List.{List, [], ◌∷◌}
use native.Mathlib.Nat.{zero-add}
use native.Mathlib.Omega.{arith}
use lib.ListN.{length, take, drop, length-drop}
use lib.Seq.{drop-drop}
use Rattle.std.proofs.Common.{Some, None}
use Rattle.std.specs.Bool.{then_some}
use Rattle.reader.specs.declared.parts.Reading.{Reading}
use Rattle.base.specs.Bytes.{u16_at}
use Rattle.base.specs.Tells.{Tells}
use Rattle.base.proofs.Lists.{from_on}
use Rattle.grammar.specs.Grammar.{Layer, Derivation, arp, other_ipv4, icmp, udp, dhcp, tcp, body, header_length_lem, payload, protocol, data_offset, Ethernet, ARP, IPv4, OtherIPv4, ICMP, UDP, TCP, CarriesDHCP, ethernet_layer, ip_layer, payload_at_lem, payload_layer, data_at, message_layer, Derives}
use Rattle.reader.specs.helpers.Opened.{Framed, Opened}
use Rattle.dhcp_strict.specs.MessageRead.{MessageRead}
use Rattle.grammar.specs.Report.{parts, parts_of, Reads, takes, refuses, arp_kind, icmp_kind, udp_kind, dhcp_kind, tcp_kind, other_ipv4_kind}
use Rattle.reader.specs.Reported.{layer_of, report_of}
use Rattle.reader.specs.declared.parts.Layer.{Layer as Parts-as-Layer}
use Rattle.reader.specs.declared.parts.Reading.TheVariants.{Arp, OtherIpv4, Icmp, Udp, Dhcp, Tcp}
use Rattle.base.proofs.Telling.{first_of, second_of}
use Rattle.grammar.proofs.Places.{placed}
use Rattle.grammar.proofs.Unique.{clash, arp_or_ipv4, icmp_only, dhcp_only, tcp_only}

-- a layer as the code has it
abbrev at : (header payload stop : ℕ) → Parts-as-Layer
at header payload stop = record { header = header; payload = payload; stop = stop }

module _ (s : List ℕ) where
  abbrev p : List ℕ
  p = body s

  -- the frame's own layer
  pub ethernet_placed : (l : Parts-as-Layer) → l ≡ at 0 14 (length s) → layer_of l ≡ ethernet_layer s
  ethernet_placed l e = ap layer_of e ∙ placed 0 14 s 0 14 (length s) refl refl (sym (zero-add (length s)))

  -- what a test tells of the packet as the code takes it from the frame, it tells of the body
  pub of_rest : (A : List ℕ → Type 0) → A (take (length s - 14) (drop 14 s)) → A p
  of_rest A = subst A (from_on 14 s)

  pub to_rest : (A : List ℕ → Type 0) → A p → A (take (length s - 14) (drop 14 s))
  to_rest A = subst A (sym (from_on 14 s))

  -- where a test decides between a report and a refusal
  pub decided : {A : Type 0} (b : Bool) (r : Reading) → Tells b A → (A → Reads s (report_of (Some r))) → ((A → ⊥) → Reads s (report_of None))
      → Reads s (report_of (then_some b r))
  decided {A} true r t taken refusal = taken t
  decided {A} false r t taken refusal = refusal t

  -- no derivation at all
  refusing : ((d : Derivation) → Derives s d → ⊥) → Reads s (report_of None)
  unfolding report_of
  refusing f = refuses refl f

  whole : (Ethernet s 0x0806 × ARP p) ⊎ (Ethernet s 0x0800 × IPv4 p) → 14 ≤ length s
  whole (inl a) = a.0.whole
  whole (inr i) = i.0.whole

  pub short-frame : length s < 14 → Reads s (report_of None)
  short-frame h = refusing (λ d g. let w = whole (arp_or_ipv4 s d g) in omega (arith, w))

  pub no-arp : u16_at s 12 ≡ 0x0806 → (ARP p → ⊥) → Reads s (report_of None)
  no-arp t f = refusing (λ d g. f (first_of (arp_or_ipv4 s d g) (λ i. clash (u16_at s 12) 0x0800 0x0806 refl i.0.typed t)).1)

  pub no_ipv4 : (u16_at s 12 ≡ 0x0806 → ⊥) → (u16_at s 12 ≡ 0x0800 → IPv4 p → ⊥) → Reads s (report_of None)
  no_ipv4 a f = refusing (λ d g. let i = second_of (arp_or_ipv4 s d g) (λ x. a x.0.typed) in f i.0.typed i.1)

  pub arp-taken : Ethernet s 0x0806 → ARP p → (l : Parts-as-Layer) → l ≡ at 0 14 (length s) → Reads s (report_of (Some (Arp l)))
  unfolding report_of Derives parts_of
  arp-taken w a l e = takes (arp (ethernet_layer s)) (w, a, refl) (ap (λ (k : Layer). parts arp_kind (k ∷ []) []) (ethernet_placed l e))

  -- behind a right IPv4 header
  module _ (f : Framed s) where
    inside : header_length_lem p ≤ length p
    inside = subst (λ (n : ℕ). header_length_lem p ≤ n) f.ip.total f.ip.inside

    body-length : length s ≡ 14 + length p
    body-length = let long = f.ethernet.whole in omega (arith, long, length-drop 14 s)

    -- where a payload stops
    pub stop_is : length s ≡ payload_at_lem s + length (payload p)
    stop_is = omega (arith, body-length, inside, length-drop (header_length_lem p) p)

    -- the payload, as the code takes it from the frame
    pub payload_is : (start : ℕ) → start ≡ payload_at_lem s → take (length s - start) (drop start s) ≡ payload p
    payload_is start e = from_on start s ∙ ap (λ (n : ℕ). drop n s) e ∙ sym (drop-drop (header_length_lem p) 14 s)

    pub opened : (start : ℕ) (ethernet ip : Parts-as-Layer) → start ≡ payload_at_lem s → ethernet ≡ at 0 14 (length s) → ip ≡ at 14 start (length s) → Opened s ethernet ip
    opened start ethernet ip e l m =
        record {
          starts = ap (λ (l : Parts-as-Layer). l.payload) m ∙ e;
          ethernet_is = ethernet_placed ethernet l;
          ip_is = ap layer_of m ∙ placed 14 (header_length_lem p) p 14 start (length s) refl e body-length;
        }

    pub no_icmp : protocol p ≡ 1 → (ICMP p → ⊥) → Reads s (report_of None)
    unfolding Derives
    no_icmp c g = refusing (λ d h. g (subst (Derives s) (icmp_only s d h f.ethernet.typed c) h).2)

    pub no_tcp : protocol p ≡ 6 → (TCP p → ⊥) → Reads s (report_of None)
    unfolding Derives
    no_tcp c g = refusing (λ d h. g (subst (Derives s) (tcp_only s d h f.ethernet.typed c) h).2)

    -- a derivation with protocol 17 has a right datagram, with DHCP in it or not
    datagram-right : protocol p ≡ 17 → (d : Derivation) → Derives s d → UDP p
    unfolding Derives
    datagram-right c (arp e) h = absurd (clash (u16_at s 12) 0x0806 0x0800 refl h.0.typed f.ethernet.typed)
    datagram-right c (icmp e i m) h = absurd (clash (protocol p) 1 17 refl h.2.carried c)
    datagram-right c (udp e i u) h = h.2
    datagram-right c (dhcp e i u m items) h = h.2
    datagram-right c (tcp e i g) h = absurd (clash (protocol p) 6 17 refl h.2.carried c)
    datagram-right c (other_ipv4 e i) h = absurd (h.2.no_udp c)

    pub no_udp : protocol p ≡ 17 → (UDP p → ⊥) → Reads s (report_of None)
    no_udp c g = refusing (λ d h. g (datagram-right c d h))

    -- behind its two outer layers
    module _ (ethernet ip : Parts-as-Layer) (o : Opened s ethernet ip) where
      abbrev start : ℕ
      start = ip.payload

      -- the layer of a payload whose header has `m` bytes
      inner-placed : (l : Parts-as-Layer) (n m : ℕ) → n ≡ m → l ≡ at start (start + n) (length s) → layer_of l ≡ payload_layer m s
      inner-placed l n m same e =
          ap layer_of e ∙ placed (payload_at_lem s) m (payload p) start (start + n) (length s) o.starts (ap₂ ◌+◌ o.starts same) stop_is

      pub other-taken : OtherIPv4 p → Reads s (report_of (Some (OtherIpv4 ethernet ip)))
      unfolding report_of Derives parts_of
      other-taken x =
          takes (other_ipv4 (ethernet_layer s) (ip_layer s)) (f.ethernet, f.ip, x, refl, refl)
          (ap₂ (λ (a b : Layer). parts other_ipv4_kind (a ∷ b ∷ []) []) o.ethernet_is o.ip_is)

      pub icmp-taken : ICMP p → (l : Parts-as-Layer) → l ≡ at start (start + 8) (length s) → Reads s (report_of (Some (Icmp ethernet ip l)))
      unfolding report_of Derives parts_of
      icmp-taken x l e =
          takes (icmp (ethernet_layer s) (ip_layer s) (payload_layer 8 s)) (f.ethernet, f.ip, x, refl, refl, refl)
          (ap₂ (λ (a b : Layer). parts icmp_kind (a ∷ b ∷ layer_of l ∷ []) []) o.ethernet_is o.ip_is
          ∙ ap (λ (c : Layer). parts icmp_kind (ethernet_layer s ∷ ip_layer s ∷ c ∷ []) []) (inner-placed l 8 8 refl e))

      pub tcp-taken : TCP p → (n : ℕ) → n ≡ data_offset p * 4 → (l : Parts-as-Layer) → l ≡ at start (start + n) (length s) → Reads s (report_of (Some (Tcp ethernet ip l)))
      unfolding report_of Derives parts_of
      tcp-taken x n same l e =
          takes (tcp (ethernet_layer s) (ip_layer s) (payload_layer (data_offset p * 4) s)) (f.ethernet, f.ip, x, refl, refl, refl)
          (ap₂ (λ (a b : Layer). parts tcp_kind (a ∷ b ∷ layer_of l ∷ []) []) o.ethernet_is o.ip_is
          ∙ ap (λ (c : Layer). parts tcp_kind (ethernet_layer s ∷ ip_layer s ∷ c ∷ []) []) (inner-placed l n _ same e))

      pub udp-taken : UDP p → (CarriesDHCP p → ⊥) → (l : Parts-as-Layer) → l ≡ at start (start + 8) (length s) → Reads s (report_of (Some (Udp ethernet ip l)))
      unfolding report_of Derives parts_of
      udp-taken x g l e =
          takes (udp (ethernet_layer s) (ip_layer s) (payload_layer 8 s)) (f.ethernet, f.ip, x, refl, refl, refl, g)
          (ap₂ (λ (a b : Layer). parts udp_kind (a ∷ b ∷ layer_of l ∷ []) []) o.ethernet_is o.ip_is
          ∙ ap (λ (c : Layer). parts udp_kind (ethernet_layer s ∷ ip_layer s ∷ c ∷ []) []) (inner-placed l 8 8 refl e))

      pub no_dhcp : protocol p ≡ 17 → CarriesDHCP p → MessageRead s (start + 8) None → Reads s (report_of None)
      unfolding Derives MessageRead
      no_dhcp c g r =
          let r' = subst (λ (k : ℕ). MessageRead s (k + 8) None) o.starts r in
          refusing (λ d h. let i = dhcp_only s d h f.ethernet.typed c g in r' i.0 (subst (Derives s) i.1 h).7)

      pub dhcp-taken : UDP p → CarriesDHCP p → (n : ℕ) → MessageRead s (start + 8) (Some n)
          → (l m : Parts-as-Layer) → l ≡ at start (start + 8) (length s) → m ≡ at (start + 8) (start + 8 + 240) (length s) → Reads s (report_of (Some (Dhcp ethernet ip l m n)))
      unfolding report_of Derives parts_of MessageRead
      dhcp-taken x g n r l m e k =
          let (items, d, value) = subst (λ (j : ℕ). MessageRead s (j + 8) (Some n)) o.starts r in
          let size = x.size in
          let stop : length s ≡ data_at s + length (drop (data_at s) s) = omega (arith, stop_is, size, length-drop (data_at s) s) in
          let message-placed = ap layer_of k ∙ placed (data_at s) 240 (drop (data_at s) s) (start + 8) (start + 8 + 240) (length s) (ap (λ (j : ℕ). j + 8) o.starts) (ap (λ (j : ℕ). j + 8 + 240) o.starts) stop in
          takes (dhcp (ethernet_layer s) (ip_layer s) (payload_layer 8 s) (message_layer s) items) (f.ethernet, f.ip, x, refl, refl, refl, g, d, refl)
          (ap₂ (λ (a b : Layer). parts dhcp_kind (a ∷ b ∷ layer_of l ∷ layer_of m ∷ []) (n ∷ [])) o.ethernet_is o.ip_is
          ∙ ap₂ (λ (a b : Layer). parts dhcp_kind (ethernet_layer s ∷ ip_layer s ∷ a ∷ b ∷ []) (n ∷ [])) (inner-placed l 8 8 refl e) message-placed
          ∙ ap (parts dhcp_kind (ethernet_layer s ∷ ip_layer s ∷ payload_layer 8 s ∷ message_layer s ∷ [])) (sym value))
