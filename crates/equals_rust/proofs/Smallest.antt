-- The shortest frames on which the Rust panics or cuts a length: it does so on them, and on no shorter one (with `rust_panics_exactly` and `rust_cuts_exactly`).
use Prim.Native.Nat.{ℕ, zero, suc, ◌+◌, ◌*◌, ◌%◌, ◌≤◌}
use mathlib.Core.Path.{◌≡◌, refl, ap, sym, ◌∙◌}
use mathlib.Core.Logic.{◌⊎◌, inl, inr}
use mathlib.Core.Bool.{Bool, true, ◌&&◌}
use mathlib.Core.List.{List, [], ◌∷◌}
use borrow.Author.Tests.{ltb-true}
use lib.Dec.{ltb}
use native.Mathlib.Omega.{arith}
use lib.ListN.{length, drop, length-take, length-drop}
use Rattle.base.specs.Bytes.{u8_at}
use Rattle.wire.specs.Rfc791.{header_length_lem, target_of}
use Rattle.wire.specs.Rfc792.{message_type_lem}
use Rattle.wire.specs.Rfc894.{body}
use Rattle.equals_rust.specs.Network.{rust_network}
use Rattle.options.specs.Rfc2132.{walk, walk_from}
use Rattle.options.proofs.CutPlace.{cut_place}
use Rattle.rules.specs.Rules.{payload_at_lem, payload, data_at, data_length, datagram_data}
use Rattle.rules.specs.Seen.{Carries}
use Rattle.published.specs.Rust.{panics, cuts, whole}
use Rattle.published.specs.Backend.{SlirpBackend}
use Rattle.published.specs.Slirp.{send}
use Rattle.base.proofs.Choice.{both_left, both_right}
use Rattle.equals_rust.specs.Alike.{record_of}
use Rattle.equals_rust.specs.Types.{Bytes, GuestTyped}
use Rattle.equals_rust.specs.Smallest.{header_of24, type_cut_off, ping_over}
use Rattle.equals_rust.specs.Where.{HeaderPast, TypeCut, PingOver}
use Rattle.equals_rust.proofs.OnAll.{header_past_panics}
use Rattle.equals_rust.proofs.Demand2.{rust_panics_exactly, rust_cuts_exactly}

-- a header that runs past its frame: 34 bytes
pub shortest_header : HeaderPast header_of24 × (length header_of24 ≡ 34)
shortest_header = (record { read = inr (record { long = omega arith; ipv4 = refl; carried = refl }); past = omega arith }, refl)

pub no_shorter_header : (frame : List ℕ) → HeaderPast frame → 34 ≤ length frame
no_shorter_header frame h = go h.read
  where
    go : (Carries frame 1 × (target_of (body frame) ≡ rust_network.gateway)) ⊎ Carries frame 17 → 34 ≤ length frame
    go (inl (c, _)) = c.long
    go (inr c) = c.long

-- a message whose type is cut off: 264 bytes
pub shortest_type : TypeCut type_cut_off × (length type_cut_off ≡ 264)
unfolding walk walk_from
shortest_type = (
  (
    240,
    record {
      message = record {
        datagram = record { udp = record { long = omega arith; ipv4 = refl; carried = refl }; there = omega arith; whole = omega arith; stated = omega arith };
        from_68 = refl;
        to_67 = refl;
        fixed = omega arith;
        from_client = refl;
        its_xid = refl;
      };
      cookie = refl;
      cut_off = refl;
    },
  ),
  refl,
)

pub no_shorter_type : (frame : List ℕ) → TypeCut frame → 264 ≤ length frame
no_shorter_type frame (place, m) =
    let last = cut_place (datagram_data frame) place m.cut_off in
    let two = ap length last.last_two in
    omega (arith, last.behind_cookie, two, length-drop place (datagram_data frame), length-take (data_length frame) (drop (data_at frame) frame), length-drop (data_at frame) frame)

-- a ping over 65,515 bytes: 65,534 bytes
pub shortest_ping_over : PingOver ping_over × (length ping_over ≡ 65534)
shortest_ping_over = (
  (
    65516,
    record {
      asked = record { icmp = record { long = omega arith; ipv4 = refl; carried = refl }; to_gateway_lem = refl; there = omega arith; whole = omega arith; request = refl };
      its_length = refl;
      over = omega arith;
    },
  ),
  refl,
)

-- (with a header length of 0 the ping's type would be the byte that says so)
pub no_shorter_ping_over : (frame : List ℕ) → PingOver frame → 65534 ≤ length frame
no_shorter_ping_over frame (len, p) = go (header_length_lem (body frame)) refl
  where
    go : (n : ℕ) → header_length_lem (body frame) ≡ n → 65534 ≤ length frame
    go zero e =
        let same : message_type_lem (payload frame) ≡ u8_at (body frame) 0 = ap (λ (k : ℕ). message_type_lem (drop (14 + k) frame)) e in
        let eight : u8_at (body frame) 0 ≡ 8 = sym same ∙ p.asked.request in
        let length_32 : header_length_lem (body frame) ≡ 32 = ap (λ (b : ℕ). b % 16 * 4) eight in
        absurd (omega (arith, e, length_32))
    go (suc n) e = omega (arith, e, p.asked.there, p.its_length, p.over, length-drop (payload_at_lem frame) frame)

-- each element of a list that computes is a byte
all_bytes : List ℕ → Bool
all_bytes [] = true
all_bytes (b ∷ s) = ltb b 256 && all_bytes s

checked : (s : List ℕ) → all_bytes s ≡ true → Bytes s
unfolding all_bytes
checked [] e = tt
checked (b ∷ s) e = (ltb-true b 256 (both_left (ltb b 256) (all_bytes s) e), checked s (both_right (ltb b 256) (all_bytes s) e))

-- the Rust on the three, from every backend
module _ (self : SlirpBackend) where
  pub panics_at_34_bytes : send self (whole header_of24) ≡ panics
  panics_at_34_bytes = header_past_panics self header_of24 shortest_header.0

  module _ (typed : GuestTyped (record_of self)) where
    pub panics_at_264_bytes : send self (whole type_cut_off) ≡ panics
    unfolding all_bytes
    panics_at_264_bytes = (rust_panics_exactly self type_cut_off typed (checked type_cut_off refl)).1 (inr shortest_type.0)

    pub cuts_at_65534_bytes : send self (whole ping_over) ≡ cuts
    unfolding all_bytes
    cuts_at_65534_bytes = (rust_cuts_exactly self ping_over typed (checked ping_over refl)).1 shortest_ping_over.0
