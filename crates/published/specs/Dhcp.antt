-- `dhcp.rs`: enough DHCP to hand the guest its one address. Each function stands before the one that calls it, which turns the order around.
use Rattle.std.specs.Prelude.{ℕ, zero, suc, ◌+◌, ◌&&◌, not, List, [], ◌∷◌, ltb, leb, eqb, length}
use Rattle.published.specs.Rust.{Run, gives, unfinished, ◌>>=◌, ◌>>◌, when, Slice, whole, len_of, index, range, array, zeros, store, copy, as_u8, u32_from_be, u32_to_be}
use Rattle.published.specs.Frames.{BCAST_IP, BCAST_MAC, GUEST_IP, GW_IP, IP_PROTO_UDP, SUBNET, eth_src, make_ip_frame, make_udp_payload}
use Rattle.published.specs.Backend.{SlirpBackend, with_xid, pushed}

abbrev pub MAGIC_COOKIE : ℕ
MAGIC_COOKIE = 0x63825363

abbrev pub OPTION_END : ℕ
OPTION_END = 255

abbrev pub OPTION_PAD : ℕ
OPTION_PAD = 0

abbrev pub OPTION_MESSAGE_TYPE : ℕ
OPTION_MESSAGE_TYPE = 53

abbrev pub DISCOVER : ℕ
DISCOVER = 1

abbrev pub OFFER : ℕ
OFFER = 2

abbrev pub REQUEST : ℕ
REQUEST = 3

abbrev pub ACK : ℕ
ACK = 5

-- while i < dhcp.len()
unfoldable pub scan : (turns : ℕ) (dhcp : Slice) (i : ℕ) → Run ℕ
scan zero dhcp i = unfinished
scan (suc turns) dhcp i = do
  when (not (ltb i (len_of dhcp))) (gives 0)
  option ← index dhcp i
  when (eqb option OPTION_END) (gives 0)
  when (eqb option OPTION_PAD) (scan turns dhcp (i + 1))
  when (leb (len_of dhcp) (i + 1)) (gives 0)
  len ← index dhcp (i + 1)
  when (eqb option OPTION_MESSAGE_TYPE && leb 1 len) (index dhcp (i + 2))
  scan turns dhcp (i + (2 + len))

-- a turn for each byte, and the test that ends them
unfoldable pub message_type : (dhcp : Slice) → Run ℕ
message_type dhcp = scan (suc (len_of dhcp)) dhcp 240

-- what the closure `option` changes: `p`, and the place behind the option
pub record Options : Type 0 where
  pub p : List ℕ
  pub at : ℕ

abbrev pub option : (code : ℕ) (value : List ℕ) → Options → Run Options
option code value o = do
  p ← store o.p o.at code
  len ← as_u8 (length value)
  p ← store p (o.at + 1) len
  p ← copy p (o.at + 2) (o.at + 2 + length value) value
  gives (record { p = p; at = o.at + (2 + length value) })

unfoldable pub build_reply : (xid : ℕ) (client_mac : List ℕ) (msg_type : ℕ) → Run (List ℕ)
build_reply xid client_mac msg_type = do
  let p = zeros 300
  p ← store p 0 2
  p ← store p 1 1
  p ← store p 2 6
  p ← copy p 4 8 (u32_to_be xid)
  p ← copy p 16 20 GUEST_IP
  p ← copy p 20 24 GW_IP
  p ← copy p 28 34 client_mac
  p ← copy p 236 240 (u32_to_be MAGIC_COOKIE)
  o ← option OPTION_MESSAGE_TYPE (msg_type ∷ []) (record { p = p; at = 240 })
  o ← option 54 GW_IP o
  o ← option 51 (u32_to_be 86400) o
  o ← option 1 SUBNET o
  o ← option 3 GW_IP o
  o ← option 6 GW_IP o
  store o.p o.at OPTION_END

unfoldable pub send_dhcp_reply : (self : SlirpBackend) (frame : Slice) (xid msg_type : ℕ) → Run SlirpBackend
send_dhcp_reply self frame xid msg_type = do
  source ← eth_src frame
  src_mac ← array 6 source
  reply ← build_reply xid self.guest_mac msg_type
  udp ← make_udp_payload 68 67 (whole reply)
  packet ← make_ip_frame self.counter BCAST_MAC GW_IP BCAST_IP IP_PROTO_UDP (whole udp)
  frame ← copy packet.frame 0 6 src_mac
  gives (pushed frame packet.counter self)

unfoldable pub handle_dhcp : (self : SlirpBackend) (frame dhcp : Slice) → Run SlirpBackend
handle_dhcp self frame dhcp = do
  when (ltb (len_of dhcp) 240) (gives self)
  op ← index dhcp 0
  when (not (eqb op 1)) (gives self)
  bytes ← range dhcp 4 8
  bytes ← array 4 bytes
  let xid = u32_from_be bytes
  let self = with_xid xid self
  bytes ← range dhcp 236 240
  bytes ← array 4 bytes
  when (not (eqb (u32_from_be bytes) MAGIC_COOKIE)) (gives self)
  type ← message_type dhcp
  when (eqb type DISCOVER) (send_dhcp_reply self frame xid OFFER)
  when (eqb type REQUEST) (send_dhcp_reply self frame xid ACK)
  gives self
