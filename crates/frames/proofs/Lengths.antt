-- How long a frame is, and where its parts lie: 14 bytes of Ethernet, 20 of IPv4, and the payload.
use Prim.Native.Nat.{ℕ, ◌+◌}
use mathlib.Core.Path.{◌≡◌, ap, sym, ◌∙◌}
use mathlib.Core.List.{List, ◌++◌, append_assoc}
use native.Mathlib.Omega.{arith}
use lib.ListN.{length, drop, length-append}
use lib.Seq.{drop_at, drop-drop}
use Rattle.wire.specs.Rfc894.{ethernet}
use Rattle.wire.specs.Rfc791.{header, header_with_lem}
use Rattle.frames.specs.Frames.{headers, ip_frame}
use Rattle.record.specs.Network.{gateway_mac}

pub length_ethernet : (mac : List ℕ) (type : ℕ) → length mac ≡ 6 → length (ethernet mac gateway_mac type) ≡ 14
length_ethernet mac type h = simp length-append (omega arith)

module _ (source target : List ℕ) (four : length source ≡ 4) (four' : length target ≡ 4) where
  pub length_header_with : (sum total id protocol : ℕ) → length (header_with_lem sum total id protocol source target) ≡ 20
  unfolding header_with_lem
  length_header_with sum total id protocol = simp length-append (omega arith)

  pub length_header : (total id protocol : ℕ) → length (header total id protocol source target) ≡ 20
  unfolding header
  length_header total id protocol = length_header_with _ total id protocol

  pub length_headers : (mac : List ℕ) (total id protocol : ℕ) → length mac ≡ 6 → length (headers mac total id protocol source target) ≡ 34
  length_headers mac total id protocol h = simp length-append (omega (arith, length_ethernet mac 0x0800 h, length_header total id protocol))

  pub length_ip_frame : (mac payload : List ℕ) (id protocol : ℕ) → length mac ≡ 6
      → length (ip_frame mac id protocol source target payload) ≡ 34 + length payload
  unfolding ip_frame
  length_ip_frame mac payload id protocol h =
      simp length-append (omega (arith, length_ethernet mac 0x0800 h, length_header (20 + length payload) id protocol))

-- the parts of a frame
module _ (mac source target payload : List ℕ) (id protocol : ℕ) (six : length mac ≡ 6) (four : length source ≡ 4) (four' : length target ≡ 4) where
  pub drop_14 : drop 14 (ip_frame mac id protocol source target payload) ≡ header (20 + length payload) id protocol source target ++ payload
  unfolding ip_frame
  drop_14 =
      rw (append_assoc (ethernet mac gateway_mac 0x0800) (header (20 + length payload) id protocol source target) payload)
      (drop_at (ethernet mac gateway_mac 0x0800) (header (20 + length payload) id protocol source target ++ payload) 14 (length_ethernet mac 0x0800 six))

  pub drop_34 : drop 34 (ip_frame mac id protocol source target payload) ≡ payload
  drop_34 =
      sym (drop-drop 20 14 (ip_frame mac id protocol source target payload))
      ∙ ap (drop 20) drop_14
      ∙ drop_at (header (20 + length payload) id protocol source target) payload 20 (length_header source target four four' _ id protocol)
