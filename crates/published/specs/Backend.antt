-- The struct of `slirp/mod.rs`, which stands in a file of its own since `dhcp.rs` and `udp.rs` have methods of it. Left out: connections, pending
-- names, TLS, tracer and secrets, which no function of the text reads before it hands a frame on.
use Rattle.std.specs.Prelude.{ℕ, List, [], ◌∷◌, ◌++◌}
use Rattle.published.specs.Rust.{Slice}

-- A call of what is outside: `handle_dns` and `handle_tcp` are not in the text, `relay_datagram` goes to a host socket. With all that it is handed.
pub data CallOut : Type 0 where
  handle_dns : («data» : Slice) (guest_mac src_ip : List ℕ) (src_port : ℕ) → CallOut
  relay_datagram : (guest_mac src_ip : List ℕ) (src_port : ℕ) (dst_ip : List ℕ) (dst_port : ℕ) («data» : Slice) → CallOut
  handle_tcp : (frame : Slice) → CallOut

pub record SlirpBackend : Type 0 where
  pub guest_mac : List ℕ
  pub rx_pending : List (List ℕ)
  pub dhcp_xid : ℕ
  -- `static IP_ID_COUNTER` of `frames.rs`
  pub counter : ℕ
  -- the calls of what is outside, in their order
  pub calls : List CallOut

-- `self.dhcp_xid = xid`
abbrev pub with_xid : (xid : ℕ) → SlirpBackend → SlirpBackend
with_xid xid self =
    record { guest_mac = self.guest_mac; rx_pending = self.rx_pending; dhcp_xid = xid; counter = self.counter; calls = self.calls }

-- `self.rx_pending.push_back(frame)`, with the counter as it is behind the frame
abbrev pub pushed : (frame : List ℕ) (counter : ℕ) → SlirpBackend → SlirpBackend
pushed frame counter self =
    record {
      guest_mac = self.guest_mac;
      rx_pending = self.rx_pending ++ (frame ∷ []);
      dhcp_xid = self.dhcp_xid;
      counter = counter;
      calls = self.calls;
    }

-- a call of what is outside
abbrev pub calling : CallOut → SlirpBackend → SlirpBackend
calling call self =
    record {
      guest_mac = self.guest_mac;
      rx_pending = self.rx_pending;
      dhcp_xid = self.dhcp_xid;
      counter = self.counter;
      calls = self.calls ++ (call ∷ []);
    }
