-- `udp.rs`: guest datagrams. `relay_datagram` is a call of what is outside: a run ends with it, and what it does on its socket (it can push replies and take ids at once) is left out, with
-- the types of its connections.
use Rattle.std.specs.Prelude.{ℕ, min, ◌&&◌, ltb, eqb}
use Rattle.published.specs.Rust.{Run, gives, ◌>>=◌, ◌>>◌, when, Slice, len_of, range, array, same_array}
use Rattle.published.specs.Frames.{GW_IP, eth_src, ip_dst, ip_payload, ip_src, u16be}
use Rattle.published.specs.Backend.{handle_dns, relay_datagram, SlirpBackend, calling}
use Rattle.published.specs.Dhcp.{handle_dhcp}

abbrev pub DHCP_SERVER_PORT : ℕ
DHCP_SERVER_PORT = 67

abbrev pub DHCP_CLIENT_PORT : ℕ
DHCP_CLIENT_PORT = 68

abbrev pub DNS_PORT : ℕ
DNS_PORT = 53

unfoldable pub handle_udp : (self : SlirpBackend) (frame : Slice) → Run SlirpBackend
handle_udp self frame = do
  payload ← ip_payload frame
  when (ltb (len_of payload) 8) (gives self)
  src_port ← u16be payload 0
  dst_port ← u16be payload 2
  udp_len ← u16be payload 4
  when (ltb udp_len 8) (gives self)
  dst_ip ← ip_dst frame
  src_ip ← ip_src frame
  source ← eth_src frame
  guest_mac ← array 6 source
  «data» ← range payload 8 (min udp_len (len_of payload))
  when (eqb dst_port DHCP_SERVER_PORT && eqb src_port DHCP_CLIENT_PORT) (handle_dhcp self frame «data»)
  when (same_array dst_ip GW_IP && eqb dst_port DNS_PORT) (gives (calling (handle_dns «data» guest_mac src_ip src_port) self))
  gives (calling (relay_datagram guest_mac src_ip src_port dst_ip dst_port «data») self)
