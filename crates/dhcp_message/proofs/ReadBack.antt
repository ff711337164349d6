-- The reply read by its fields, each at its offset, gives back what was put in; the end stands at 273, and all else is 0.
use Prim.Native.Nat.{ℕ, zero, suc, ◌+◌, ◌-◌, ◌≤◌, ◌<◌}
use mathlib.Core.Path.{◌≡◌, refl, ap, sym, ◌∙◌}
use mathlib.Core.List.{List, [], ◌∷◌}
use native.Mathlib.Omega.{arith}
use lib.ListN.{length, get_or, replicate, get_or-replicate}
use Rattle.base.specs.Bytes.{u8_at, u32_at, bytes_at}
use Rattle.wire.specs.Rfc2131.{operation, hardware_type, hardware_length, hop_count, transaction_id, seconds_elapsed, flags_field, client_address, your_address, server_address, relay_address, hardware_address, magic_cookie}
use Rattle.record.specs.Network.{FourBytes}
use Rattle.record.specs.declared.network.Network.{Network}
use Rattle.base.proofs.Lists.{all_bytes_lem}
use Rattle.dhcp_message.specs.Message.{reply}

pub record ReplyOf (p : List ℕ) (net : Network) (mac : List ℕ) (xid type : ℕ) : Type 0 where
  pub long : length p ≡ 300
  pub is_reply : operation p ≡ 2
  pub ethernet : hardware_type p ≡ 1
  pub mac_length : hardware_length p ≡ 6
  pub no_hops : hop_count p ≡ 0
  pub xid_is : transaction_id p ≡ xid
  pub no_seconds : seconds_elapsed p ≡ 0
  pub no_flags : flags_field p ≡ 0
  pub no_client : client_address p ≡ replicate 4 0
  pub guest_is : your_address p ≡ net.guest
  pub gateway_is : server_address p ≡ net.gateway
  pub no_relay : relay_address p ≡ replicate 4 0
  pub mac_is : hardware_address p ≡ mac
  pub zeros : bytes_at p 34 202 ≡ replicate 202 0
  pub cookie_is : magic_cookie p ≡ 0x63825363
  pub type_is : bytes_at p 240 3 ≡ 53 ∷ 1 ∷ type ∷ []
  pub server_is : bytes_at p 243 6 ≡ 54 ∷ 4 ∷ net.gateway
  pub lease : bytes_at p 249 2 ≡ 51 ∷ 4 ∷ []
  pub lease_is : u32_at p 251 ≡ net.lease
  pub mask_is : bytes_at p 255 6 ≡ 1 ∷ 4 ∷ net.mask
  pub router_is : bytes_at p 261 6 ≡ 3 ∷ 4 ∷ net.gateway
  pub name_server_is : bytes_at p 267 6 ≡ 6 ∷ 4 ∷ net.gateway
  pub end_is : u8_at p 273 ≡ 255
  pub end_zeros : bytes_at p 274 26 ≡ replicate 26 0

-- bytes read one by one, by their number
nth_byte : (s : List ℕ) (n at k : ℕ) → k < n → get_or (bytes_at s at n) k 0 ≡ u8_at s (at + k)
nth_byte s zero at k h = absurd (omega arith)
nth_byte s (suc n) at zero h = ap (u8_at s) (omega arith)
nth_byte s (suc n) at (suc k) h = nth_byte s n (suc at) k (omega arith) ∙ ap (u8_at s) (omega arith)

-- a byte among zeros
among_zeros : (s : List ℕ) (n at i : ℕ) → bytes_at s at n ≡ replicate n 0 → at ≤ i → i < at + n → u8_at s i ≡ 0
among_zeros s n at i e from to =
    let back : at + (i - at) ≡ i = omega arith in
    sym (ap (u8_at s) back)
    ∙ sym (nth_byte s n at (i - at) (omega arith))
    ∙ ap (λ (l : List ℕ). get_or l (i - at) 0) e
    ∙ get_or-replicate n (i - at) 0 0 (omega arith)

-- the bytes that no value takes
pub data Else (i : ℕ) : Type 0 where
  hops : i ≡ 3 → Else i
  seconds_flags_client : 8 ≤ i → i < 16 → Else i
  relay : 24 ≤ i → i < 28 → Else i
  behind_mac : 34 ≤ i → i < 236 → Else i
  behind_end : 274 ≤ i → i < 300 → Else i

module _ (net : Network) (mac : List ℕ) (xid type : ℕ) (four : FourBytes net) (six : length mac ≡ 6) where
  pub reply_reads_back : ReplyOf (reply net mac xid type) net mac xid type
  unfolding reply
  reply_reads_back =
      rw (all_bytes_lem net.guest 4 four.guest, all_bytes_lem net.gateway 4 four.gateway, all_bytes_lem net.mask 4 four.mask, all_bytes_lem mac 6 six)
      (record {
        long = refl;
        is_reply = refl;
        ethernet = refl;
        mac_length = refl;
        no_hops = refl;
        xid_is = omega arith;
        no_seconds = refl;
        no_flags = refl;
        no_client = refl;
        guest_is = refl;
        gateway_is = refl;
        no_relay = refl;
        mac_is = refl;
        zeros = refl;
        cookie_is = refl;
        type_is = refl;
        server_is = refl;
        lease = refl;
        lease_is = omega arith;
        mask_is = refl;
        router_is = refl;
        name_server_is = refl;
        end_is = refl;
        end_zeros = refl;
      })

  eight_zeros : bytes_at (reply net mac xid type) 8 8 ≡ replicate 8 0
  unfolding reply
  eight_zeros = refl

  -- all else is 0
  pub else_0 : (i : ℕ) → Else i → u8_at (reply net mac xid type) i ≡ 0
  else_0 i (hops e) = ap (u8_at (reply net mac xid type)) e ∙ reply_reads_back.no_hops
  else_0 i (seconds_flags_client from to) = among_zeros (reply net mac xid type) 8 8 i eight_zeros from to
  else_0 i (relay from to) = among_zeros (reply net mac xid type) 4 24 i reply_reads_back.no_relay from to
  else_0 i (behind_mac from to) = among_zeros (reply net mac xid type) 202 34 i reply_reads_back.zeros from to
  else_0 i (behind_end from to) = among_zeros (reply net mac xid type) 26 274 i reply_reads_back.end_zeros from to
