-- `slirp/mod.rs`: one guest frame. Its struct is in `Backend.antt`; `recv`, `has_rx`, `has_active_connections`, `set_tracer` and what `with_secrets` does
-- with TLS and secrets are left out. `handle_icmp` and `handle_arp` stand before the functions that call them.
use Rattle.std.specs.Prelude.{ℕ, ◌+◌, not, List, [], ◌++◌, ltb, eqb, take, drop}
use Rattle.published.specs.Rust.{Run, gives, ◌>>=◌, ◌>>◌, when, Slice, whole, len_of, index, range, range_from, array, zeros, store, copy, copy_from, same_array, u16_to_be}
use Rattle.published.specs.Frames.{ETHERTYPE_ARP, ETHERTYPE_IP, GW_IP, HOST_MAC, IP_PROTO_ICMP, IP_PROTO_TCP, IP_PROTO_UDP, checksum, eth_src, eth_type, ip_dst, ip_payload, ip_proto, ip_src, make_ip_frame, u16be}
use Rattle.published.specs.Backend.{handle_tcp, SlirpBackend, pushed, calling}
use Rattle.published.specs.Udp.{handle_udp}

-- with `IP_ID_COUNTER` as it starts
abbrev pub new : (guest_mac : List ℕ) → SlirpBackend
new guest_mac = record { guest_mac = guest_mac; rx_pending = []; dhcp_xid = 0; counter = 1; calls = [] }

unfoldable pub handle_arp : (self : SlirpBackend) (frame : Slice) → Run SlirpBackend
handle_arp self frame = do
  when (ltb (len_of frame) (14 + 28)) (gives self)
  arp ← range_from frame 14
  operation ← u16be arp 6
  when (not (eqb operation 1)) (gives self)
  bytes ← range arp 24 28
  target_ip ← array 4 bytes
  when (not (same_array target_ip GW_IP)) (gives self)
  bytes ← range arp 8 14
  sender_mac ← array 6 bytes
  bytes ← range arp 14 18
  sender_ip ← array 4 bytes
  let reply = zeros (14 + 28)
  reply ← copy reply 0 6 sender_mac
  reply ← copy reply 6 12 HOST_MAC
  reply ← copy reply 12 14 (u16_to_be ETHERTYPE_ARP)
  -- `body` is `&mut reply[14..]`, inside its 42 bytes: what is done to it is done to `reply`
  let front = take 14 reply
  let body = drop 14 reply
  body ← copy body 0 2 (u16_to_be 1)
  body ← copy body 2 4 (u16_to_be ETHERTYPE_IP)
  body ← store body 4 6
  body ← store body 5 4
  body ← copy body 6 8 (u16_to_be 2)
  body ← copy body 8 14 HOST_MAC
  body ← copy body 14 18 GW_IP
  body ← copy body 18 24 sender_mac
  body ← copy body 24 28 sender_ip
  gives (pushed (front ++ body) self.counter self)

unfoldable pub handle_icmp : (self : SlirpBackend) (frame : Slice) → Run SlirpBackend
handle_icmp self frame = do
  dst_ip ← ip_dst frame
  when (not (same_array dst_ip GW_IP)) (gives self)
  payload ← ip_payload frame
  when (ltb (len_of payload) 8) (gives self)
  type ← index payload 0
  when (not (eqb type 8)) (gives self)
  source ← eth_src frame
  src_mac ← array 6 source
  src_ip ← ip_src frame
  «data» ← range_from payload 8
  let icmp = zeros (8 + len_of «data»)
  middle ← range payload 4 8
  icmp ← copy icmp 4 8 middle.bytes
  icmp ← copy_from icmp 8 «data».bytes
  csum ← checksum (whole icmp)
  icmp ← copy icmp 2 4 (u16_to_be csum)
  made ← make_ip_frame self.counter src_mac GW_IP src_ip IP_PROTO_ICMP (whole icmp)
  gives (pushed made.frame made.counter self)

unfoldable pub handle_ip : (self : SlirpBackend) (frame : Slice) → Run SlirpBackend
handle_ip self frame = do
  when (ltb (len_of frame) (14 + 20)) (gives self)
  proto ← ip_proto frame
  when (eqb proto IP_PROTO_ICMP) (handle_icmp self frame)
  when (eqb proto IP_PROTO_TCP) (gives (calling (handle_tcp frame) self))
  when (eqb proto IP_PROTO_UDP) (handle_udp self frame)
  gives self

unfoldable pub send : (self : SlirpBackend) (frame : Slice) → Run SlirpBackend
send self frame = do
  when (ltb (len_of frame) 14) (gives self)
  type ← eth_type frame
  when (eqb type ETHERTYPE_ARP) (handle_arp self frame)
  when (eqb type ETHERTYPE_IP) (handle_ip self frame)
  gives self
