-- A frame has one derivation: its type, protocol and ports say which kind it can be, and each kind's parts are functions of the frame.
use Prim.Native.Nat.{ℕ, ◌+◌, ◌*◌, ◌≤◌}
use mathlib.Core.Path.{◌≡◌, refl, ap, ap₂, sym, subst, ◌∙◌}
use mathlib.Core.Bool.{false}
use mathlib.Core.Logic.{◌⊎◌, inl, inr}
use mathlib.Core.List.{List, [], ◌∷◌}
use native.Mathlib.Nat.{lt_irrefl, not-suc-le-zero}
use lib.Dec.{eqb}
use lib.ListN.{length, drop, replicate, length-replicate}
use borrow.Author.Tests.{eqb-false}
use Rattle.base.specs.Bytes.{u16_at}
use Rattle.grammar.specs.Grammar.{Layer, pad, option, ItemList, END, item, IsList, Derivation, arp, other_ipv4, icmp, udp, dhcp, tcp, body, protocol, data_offset, Ethernet, ARP, IPv4, OtherIPv4, CarriesDHCP, ethernet_layer, ip_layer, payload_layer, data_at, message_layer, Derives}
use Rattle.grammar.proofs.Items.{Starts, ends, pads, opts, starts, list_nil, head_same, tail_same}

-- two numbers in one place
pub clash : (n a b : ℕ) → eqb a b ≡ false → n ≡ a → n ≡ b → ⊥
clash n a b f x y = eqb-false a b f (sym x ∙ y)

-- THE LIST
-- what a list that starts with END, a pad or an option is
ended_list : (at x : ℕ) (l : List ℕ) (b : ItemList) → x ≡ 255 → Starts at x l b → b ≡ END at (length l)
ended_list at x l b e (ends zeros f z) = ap (END at) (sym (ap length z ∙ length-replicate zeros 0))
ended_list at x l b e (pads rest f more) = absurd (clash x 255 0 refl e f)
ended_list at x l b e (opts len m rest least most f short more) = absurd (lt_irrefl 254 (subst (λ (n : ℕ). n ≤ 254) e most))

padded_list : (at x : ℕ) (l : List ℕ) (b : ItemList) → x ≡ 0 → Starts at x l b → (rest : ItemList) × (b ≡ item (pad at) rest) × IsList (at + 1) l rest
padded_list at x l b e (ends zeros f z) = absurd (clash x 0 255 refl e f)
padded_list at x l b e (pads rest f more) = (rest, refl, more)
padded_list at x l b e (opts len m rest least most f short more) = absurd (not-suc-le-zero (subst (λ (n : ℕ). 1 ≤ n) e least))

option_list : (at x len : ℕ) (m : List ℕ) (b : ItemList) → 1 ≤ x → x ≤ 254 → Starts at x (len ∷ m) b
    → (rest : ItemList) × (b ≡ item (option at x len) rest) × IsList (at + 2 + len) (drop len m) rest
option_list at x len m b least most (ends zeros f z) = absurd (lt_irrefl 254 (subst (λ (n : ℕ). n ≤ 254) f most))
option_list at x len m b least most (pads rest f more) = absurd (not-suc-le-zero (subst (λ (n : ℕ). 1 ≤ n) f least))
option_list at x len m b least most (opts len' m' rest l k f short more) =
    let same_len : len' ≡ len = sym (head_same len len' m m' f) in
    let same_rest : m' ≡ m = sym (tail_same len len' m m' f) in (
      rest,
      ap (λ (n : ℕ). item (option at x n) rest) same_len,
      subst (λ (k : List ℕ). IsList (at + 2 + len) (drop len k) rest) same_rest (subst (λ (n : ℕ). IsList (at + 2 + n) (drop n m') rest) same_len more),
    )

starts_with_pad : (at x : ℕ) (l : List ℕ) (place : ℕ) (rest : ItemList) → Starts at x l (item (pad place) rest)
    → (place ≡ at) × (x ≡ 0) × IsList (at + 1) l rest
starts_with_pad at x l place rest (pads more f k) = (refl, f, k)

starts_with_option : (at x : ℕ) (l : List ℕ) (place code len : ℕ) (rest : ItemList) → Starts at x l (item (option place code len) rest)
    → (m : List ℕ) × (l ≡ len ∷ m) × (place ≡ at) × (code ≡ x) × (1 ≤ x) × (x ≤ 254) × IsList (at + 2 + len) (drop len m) rest
starts_with_option at x l place code len rest (opts n m more least most f short k) = (m, f, refl, refl, least, most, k)

pub list_unique : (a : ItemList) (at : ℕ) (l : List ℕ) (b : ItemList) → IsList at l a → IsList at l b → a ≡ b
unfolding IsList
list_unique (END place zeros) at [] b h k = absurd (list_nil at (END place zeros) h)
list_unique (END place zeros) at (x ∷ l) b h k =
    let end = head_same x 255 l (replicate zeros 0) h.1 in
    ended_list at x l (END place zeros) end (starts at x l (END place zeros) h) ∙ sym (ended_list at x l b end (starts at x l b k))
list_unique (item (pad place) rest) at [] b h k = absurd (list_nil at (item (pad place) rest) h)
list_unique (item (pad place) rest) at (x ∷ l) b h k =
    let a = starts_with_pad at x l place rest (starts at x l (item (pad place) rest) h) in
    let o = padded_list at x l b a.1 (starts at x l b k) in
    ap (λ (p : ℕ). item (pad p) rest) a.0 ∙ ap (item (pad at)) (list_unique rest (at + 1) l o.0 a.2 o.2) ∙ sym o.1
list_unique (item (option place code len) rest) at [] b h k = absurd (list_nil at (item (option place code len) rest) h)
list_unique (item (option place code len) rest) at (x ∷ l) b h k =
    let a = starts_with_option at x l place code len rest (starts at x l (item (option place code len) rest) h) in
    let o = option_list at x len a.0 b a.4 a.5 (subst (λ (m : List ℕ). Starts at x m b) a.1 (starts at x l b k)) in
    ap (λ (p : ℕ). item (option p code len) rest) a.2
    ∙ ap (λ (n : ℕ). item (option at n len) rest) a.3
    ∙ ap (item (option at x len)) (list_unique rest (at + 2 + len) (drop len a.0) o.0 a.6 o.2)
    ∙ sym o.1

-- THE KINDS
-- a derived frame has one of the two types, with the body that goes with it
pub arp_or_ipv4 : (s : List ℕ) (d : Derivation) → Derives s d → (Ethernet s 0x0806 × ARP (body s)) ⊎ (Ethernet s 0x0800 × IPv4 (body s))
unfolding Derives
arp_or_ipv4 s (arp e) h = inl (h.0, h.1)
arp_or_ipv4 s (other_ipv4 e i) h = inr (h.0, h.1)
arp_or_ipv4 s (icmp e i m) h = inr (h.0, h.1)
arp_or_ipv4 s (udp e i u) h = inr (h.0, h.1)
arp_or_ipv4 s (dhcp e i u m items) h = inr (h.0, h.1)
arp_or_ipv4 s (tcp e i g) h = inr (h.0, h.1)

module _ (s : List ℕ) where
  abbrev p : List ℕ
  p = body s

  -- with its layers each derivation is the only one of its kind, but for a DHCP list
  canonical : Derivation → Derivation
  canonical (arp e) = arp (ethernet_layer s)
  canonical (other_ipv4 e i) = other_ipv4 (ethernet_layer s) (ip_layer s)
  canonical (icmp e i m) = icmp (ethernet_layer s) (ip_layer s) (payload_layer 8 s)
  canonical (udp e i u) = udp (ethernet_layer s) (ip_layer s) (payload_layer 8 s)
  canonical (dhcp e i u m items) = dhcp (ethernet_layer s) (ip_layer s) (payload_layer 8 s) (message_layer s) items
  canonical (tcp e i g) = tcp (ethernet_layer s) (ip_layer s) (payload_layer (data_offset p * 4) s)

  is_canonical : (d : Derivation) → Derives s d → d ≡ canonical d
  unfolding Derives canonical
  is_canonical (arp e) h = ap arp h.2
  is_canonical (other_ipv4 e i) h = ap₂ other_ipv4 h.3 h.4
  is_canonical (icmp e i m) h = ap₂ (λ (a b : Layer). icmp a b m) h.3 h.4 ∙ ap (icmp (ethernet_layer s) (ip_layer s)) h.5
  is_canonical (udp e i u) h = ap₂ (λ (a b : Layer). udp a b u) h.3 h.4 ∙ ap (udp (ethernet_layer s) (ip_layer s)) h.5
  is_canonical (dhcp e i u m items) h =
      ap₂ (λ (a b : Layer). dhcp a b u m items) h.3 h.4 ∙ ap₂ (λ (a b : Layer). dhcp (ethernet_layer s) (ip_layer s) a b items) h.5 h.8
  is_canonical (tcp e i g) h = ap₂ (λ (a b : Layer). tcp a b g) h.3 h.4 ∙ ap (tcp (ethernet_layer s) (ip_layer s)) h.5

  -- its type, protocol and ports say which kind a frame is derived as
  arp_only : (d : Derivation) → Derives s d → u16_at s 12 ≡ 0x0806 → d ≡ arp (ethernet_layer s)
  unfolding Derives canonical
  arp_only (arp e) h t = is_canonical (arp e) h
  arp_only (other_ipv4 e i) h t = absurd (clash (u16_at s 12) 0x0800 0x0806 refl h.0.typed t)
  arp_only (icmp e i m) h t = absurd (clash (u16_at s 12) 0x0800 0x0806 refl h.0.typed t)
  arp_only (udp e i u) h t = absurd (clash (u16_at s 12) 0x0800 0x0806 refl h.0.typed t)
  arp_only (dhcp e i u m items) h t = absurd (clash (u16_at s 12) 0x0800 0x0806 refl h.0.typed t)
  arp_only (tcp e i g) h t = absurd (clash (u16_at s 12) 0x0800 0x0806 refl h.0.typed t)

  pub icmp_only : (d : Derivation) → Derives s d → u16_at s 12 ≡ 0x0800 → protocol p ≡ 1 → d ≡ icmp (ethernet_layer s) (ip_layer s) (payload_layer 8 s)
  unfolding Derives canonical
  icmp_only (arp e) h t c = absurd (clash (u16_at s 12) 0x0806 0x0800 refl h.0.typed t)
  icmp_only (other_ipv4 e i) h t c = absurd (h.2.no_icmp c)
  icmp_only (icmp e i m) h t c = is_canonical (icmp e i m) h
  icmp_only (udp e i u) h t c = absurd (clash (protocol p) 17 1 refl h.2.carried c)
  icmp_only (dhcp e i u m items) h t c = absurd (clash (protocol p) 17 1 refl h.2.carried c)
  icmp_only (tcp e i g) h t c = absurd (clash (protocol p) 6 1 refl h.2.carried c)

  pub tcp_only : (d : Derivation) → Derives s d → u16_at s 12 ≡ 0x0800 → protocol p ≡ 6 → d ≡ tcp (ethernet_layer s) (ip_layer s) (payload_layer (data_offset p * 4) s)
  unfolding Derives canonical
  tcp_only (arp e) h t c = absurd (clash (u16_at s 12) 0x0806 0x0800 refl h.0.typed t)
  tcp_only (other_ipv4 e i) h t c = absurd (h.2.no_tcp c)
  tcp_only (icmp e i m) h t c = absurd (clash (protocol p) 1 6 refl h.2.carried c)
  tcp_only (udp e i u) h t c = absurd (clash (protocol p) 17 6 refl h.2.carried c)
  tcp_only (dhcp e i u m items) h t c = absurd (clash (protocol p) 17 6 refl h.2.carried c)
  tcp_only (tcp e i g) h t c = is_canonical (tcp e i g) h

  other_only : (d : Derivation) → Derives s d → u16_at s 12 ≡ 0x0800 → OtherIPv4 p → d ≡ other_ipv4 (ethernet_layer s) (ip_layer s)
  unfolding Derives canonical
  other_only (arp e) h t c = absurd (clash (u16_at s 12) 0x0806 0x0800 refl h.0.typed t)
  other_only (other_ipv4 e i) h t c = is_canonical (other_ipv4 e i) h
  other_only (icmp e i m) h t c = absurd (c.no_icmp h.2.carried)
  other_only (udp e i u) h t c = absurd (c.no_udp h.2.carried)
  other_only (dhcp e i u m items) h t c = absurd (c.no_udp h.2.carried)
  other_only (tcp e i g) h t c = absurd (c.no_tcp h.2.carried)

  udp_only : (d : Derivation) → Derives s d → u16_at s 12 ≡ 0x0800 → protocol p ≡ 17 → (CarriesDHCP p → ⊥)
      → d ≡ udp (ethernet_layer s) (ip_layer s) (payload_layer 8 s)
  unfolding Derives canonical
  udp_only (arp e) h t c f = absurd (clash (u16_at s 12) 0x0806 0x0800 refl h.0.typed t)
  udp_only (other_ipv4 e i) h t c f = absurd (h.2.no_udp c)
  udp_only (icmp e i m) h t c f = absurd (clash (protocol p) 1 17 refl h.2.carried c)
  udp_only (udp e i u) h t c f = is_canonical (udp e i u) h
  udp_only (dhcp e i u m items) h t c f = absurd (f h.6)
  udp_only (tcp e i g) h t c f = absurd (clash (protocol p) 6 17 refl h.2.carried c)

  pub dhcp_only : (d : Derivation) → Derives s d → u16_at s 12 ≡ 0x0800 → protocol p ≡ 17 → CarriesDHCP p
      → (items : ItemList) × (d ≡ dhcp (ethernet_layer s) (ip_layer s) (payload_layer 8 s) (message_layer s) items)
  unfolding Derives canonical
  dhcp_only (arp e) h t c f = absurd (clash (u16_at s 12) 0x0806 0x0800 refl h.0.typed t)
  dhcp_only (other_ipv4 e i) h t c f = absurd (h.2.no_udp c)
  dhcp_only (icmp e i m) h t c f = absurd (clash (protocol p) 1 17 refl h.2.carried c)
  dhcp_only (udp e i u) h t c f = absurd (h.6 f)
  dhcp_only (dhcp e i u m items) h t c f = (items, is_canonical (dhcp e i u m items) h)
  dhcp_only (tcp e i g) h t c f = absurd (clash (protocol p) 6 17 refl h.2.carried c)

  -- "The derivation is the only one"
  pub unique : (d e : Derivation) → Derives s d → Derives s e → d ≡ e
  unfolding Derives canonical
  unique (arp a) e h k = is_canonical (arp a) h ∙ sym (arp_only e k h.0.typed)
  unique (other_ipv4 a i) e h k = is_canonical (other_ipv4 a i) h ∙ sym (other_only e k h.0.typed h.2)
  unique (icmp a i m) e h k = is_canonical (icmp a i m) h ∙ sym (icmp_only e k h.0.typed h.2.carried)
  unique (udp a i u) e h k = is_canonical (udp a i u) h ∙ sym (udp_only e k h.0.typed h.2.carried h.6)
  unique (dhcp a i u m items) e h k =
      let o = dhcp_only e k h.0.typed h.2.carried h.6 in
      let k' = subst (Derives s) o.1 k in
      is_canonical (dhcp a i u m items) h
      ∙ ap (dhcp (ethernet_layer s) (ip_layer s) (payload_layer 8 s) (message_layer s))
      (list_unique items (data_at s + 240) (drop (data_at s + 240) s) o.0 h.7.list k'.7.list)
      ∙ sym o.1
  unique (tcp a i g) e h k = is_canonical (tcp a i g) h ∙ sym (tcp_only e k h.0.typed h.2.carried)
