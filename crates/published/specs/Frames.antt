-- `frames.rs`: Ethernet, IP, TCP and UDP on the wire. Left out: `would_block`, and the constants that no function of the text uses.
-- `checksum` stands before the functions that call it. `static IP_ID_COUNTER` goes into a function that takes an id, and comes out beside its frame.
use Rattle.std.specs.Prelude.{ℕ, zero, suc, ◌+◌, ◌*◌, ◌-◌, ◌/◌, ◌%◌, not, cond, List, [], ◌∷◌, ltb, eqb, length}
use Rattle.std.specs.Int.Bits.{bit_and}
use Rattle.published.specs.Rust.{Run, gives, unfinished, ◌>>=◌, Slice, whole, len_of, index, range, range_from, array, zeros, store, copy, copy_from, as_u16, as_u8, u16_from_be, u16_to_be, u32_to_be, wrapping_add_u16, wrapping_add_u32}

abbrev pub GW_IP : List ℕ
GW_IP = 10 ∷ 0 ∷ 2 ∷ 2 ∷ []

abbrev pub GUEST_IP : List ℕ
GUEST_IP = 10 ∷ 0 ∷ 2 ∷ 15 ∷ []

abbrev pub SUBNET : List ℕ
SUBNET = 255 ∷ 255 ∷ 255 ∷ 0 ∷ []

abbrev pub BCAST_IP : List ℕ
BCAST_IP = 10 ∷ 0 ∷ 2 ∷ 255 ∷ []

abbrev pub HOST_MAC : List ℕ
HOST_MAC = 0x52 ∷ 0x54 ∷ 0x00 ∷ 0x00 ∷ 0x00 ∷ 0x01 ∷ []

abbrev pub BCAST_MAC : List ℕ
BCAST_MAC = 0xff ∷ 0xff ∷ 0xff ∷ 0xff ∷ 0xff ∷ 0xff ∷ []

abbrev pub ETHERTYPE_IP : ℕ
ETHERTYPE_IP = 0x0800

abbrev pub ETHERTYPE_ARP : ℕ
ETHERTYPE_ARP = 0x0806

abbrev pub IP_PROTO_ICMP : ℕ
IP_PROTO_ICMP = 1

abbrev pub IP_PROTO_TCP : ℕ
IP_PROTO_TCP = 6

abbrev pub IP_PROTO_UDP : ℕ
IP_PROTO_UDP = 17

abbrev pub SYN : ℕ
SYN = 0x02

unfoldable pub eth_src : (frame : Slice) → Run Slice
eth_src frame = range frame 6 12

unfoldable pub eth_type : (frame : Slice) → Run ℕ
eth_type frame = do
  high ← index frame 12
  low ← index frame 13
  gives (u16_from_be high low)

unfoldable pub ip_proto : (frame : Slice) → Run ℕ
ip_proto frame = index frame (14 + 9)

unfoldable pub ip_src : (frame : Slice) → Run (List ℕ)
ip_src frame = do
  bytes ← range frame (14 + 12) (14 + 16)
  array 4 bytes

unfoldable pub ip_dst : (frame : Slice) → Run (List ℕ)
ip_dst frame = do
  bytes ← range frame (14 + 16) (14 + 20)
  array 4 bytes

unfoldable pub ip_hlen : (frame : Slice) → Run ℕ
ip_hlen frame = do
  byte ← index frame 14
  gives (bit_and byte 0x0f * 4)

unfoldable pub ip_payload : (frame : Slice) → Run Slice
ip_payload frame = do
  hlen ← ip_hlen frame
  range_from frame (14 + hlen)

unfoldable pub u16be : (buf : Slice) (offset : ℕ) → Run ℕ
u16be buf offset = do
  high ← index buf offset
  low ← index buf (offset + 1)
  gives (u16_from_be high low)

pub record Endpoints : Type 0 where
  pub dst_mac : List ℕ
  pub src_ip : List ℕ
  pub src_port : ℕ
  pub dst_ip : List ℕ
  pub dst_port : ℕ

-- while i + 1 < data.len(), then the odd byte
unfoldable pub sum_from : (turns : ℕ) («data» : Slice) (i sum : ℕ) → Run ℕ
sum_from zero «data» i sum = unfinished
sum_from (suc turns) «data» i sum =
    cond (ltb (i + 1) (len_of «data»))
    (do
      high ← index «data» i
      low ← index «data» (i + 1)
      sum_from turns «data» (i + 2) (wrapping_add_u32 sum (u16_from_be high low)))
    (cond (ltb i (len_of «data»))
    (do
      last ← index «data» i
      gives (wrapping_add_u32 sum (last * 256)))
    (gives sum))

-- while sum >> 16 != 0
unfoldable pub folded : (turns sum : ℕ) → Run ℕ
folded zero sum = unfinished
folded (suc turns) sum =
    cond (not (eqb (sum / 65536) 0))
    (folded turns (wrapping_add_u32 (bit_and sum 0xffff) (sum / 65536)))
    (gives sum)

-- a turn for each byte and the test that ends them; two turns and the test fold 32 bits
unfoldable pub checksum : («data» : Slice) → Run ℕ
checksum «data» = do
  sum ← sum_from (suc (len_of «data»)) «data» 0 0
  sum ← folded 3 sum
  gives (65535 - sum % 65536)

-- what a function gives that takes an id: its frame, and the counter behind it
pub record Counted : Type 0 where
  pub frame : List ℕ
  pub counter : ℕ

unfoldable pub make_ip_frame : (counter : ℕ) (dst_mac src_ip dst_ip : List ℕ) (proto : ℕ) (payload : Slice) → Run Counted
make_ip_frame counter dst_mac src_ip dst_ip proto payload = do
  total_len ← as_u16 (20 + len_of payload)
  let ip_id = counter
  let ip = zeros 20
  ip ← store ip 0 0x45
  ip ← copy ip 2 4 (u16_to_be total_len)
  ip ← copy ip 4 6 (u16_to_be ip_id)
  ip ← copy ip 6 8 (u16_to_be 0x4000)
  ip ← store ip 8 64
  ip ← store ip 9 proto
  ip ← copy ip 12 16 src_ip
  ip ← copy ip 16 20 dst_ip
  csum ← checksum (whole ip)
  ip ← copy ip 10 12 (u16_to_be csum)
  let frame = zeros (14 + 20 + len_of payload)
  frame ← copy frame 0 6 dst_mac
  frame ← copy frame 6 12 HOST_MAC
  frame ← copy frame 12 14 (u16_to_be ETHERTYPE_IP)
  frame ← copy frame 14 34 ip
  frame ← copy_from frame 34 payload.bytes
  gives (record { frame = frame; counter = wrapping_add_u16 counter 1 })

unfoldable pub make_udp_payload : (src_port dst_port : ℕ) («data» : Slice) → Run (List ℕ)
make_udp_payload src_port dst_port «data» = do
  len ← as_u16 (8 + len_of «data»)
  let udp = zeros (8 + len_of «data»)
  udp ← copy udp 0 2 (u16_to_be src_port)
  udp ← copy udp 2 4 (u16_to_be dst_port)
  udp ← copy udp 4 6 (u16_to_be len)
  copy_from udp 8 «data».bytes

unfoldable pub make_tcp_frame : (counter : ℕ) (ends : Endpoints) (seq ack flags : ℕ) («data» : Slice) → Run Counted
make_tcp_frame counter ends seq ack flags «data» = do
  let opts : List ℕ = cond (not (eqb (bit_and flags SYN) 0)) (0x02 ∷ 0x04 ∷ 0x05 ∷ 0xb4 ∷ 0x01 ∷ 0x03 ∷ 0x03 ∷ 0x07 ∷ []) []
  let tcp_hlen = 20 + length opts
  let tcp_len = tcp_hlen + len_of «data»
  let tcp = zeros tcp_len
  tcp ← copy tcp 0 2 (u16_to_be ends.src_port)
  tcp ← copy tcp 2 4 (u16_to_be ends.dst_port)
  tcp ← copy tcp 4 8 (u32_to_be seq)
  tcp ← copy tcp 8 12 (u32_to_be ack)
  words ← as_u8 (tcp_hlen / 4)
  tcp ← store tcp 12 (words * 16 % 256)
  tcp ← store tcp 13 flags
  tcp ← copy tcp 14 16 (u16_to_be 65535)
  tcp ← copy tcp 20 (20 + length opts) opts
  tcp ← copy_from tcp tcp_hlen «data».bytes
  let pseudo = zeros (12 + tcp_len)
  pseudo ← copy pseudo 0 4 ends.src_ip
  pseudo ← copy pseudo 4 8 ends.dst_ip
  pseudo ← store pseudo 9 IP_PROTO_TCP
  short ← as_u16 tcp_len
  pseudo ← copy pseudo 10 12 (u16_to_be short)
  pseudo ← copy_from pseudo 12 tcp
  csum ← checksum (whole pseudo)
  tcp ← copy tcp 16 18 (u16_to_be csum)
  make_ip_frame counter ends.dst_mac ends.src_ip ends.dst_ip IP_PROTO_TCP (whole tcp)
