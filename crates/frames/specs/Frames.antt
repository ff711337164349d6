-- The frame around an IPv4 payload: RFC 894 and RFC 791, from the gateway.
use Rattle.std.specs.Prelude.{ℕ, ◌+◌, List, ◌++◌, length}
use Rattle.record.specs.Network.{gateway_mac}
use Rattle.wire.specs.Rfc791.{header}
use Rattle.wire.specs.Rfc894.{ethernet}

-- the headers of a packet of `total` bytes: Ethernet's, from the gateway, and IPv4's
abbrev pub headers : (mac : List ℕ) (total id protocol : ℕ) (source target : List ℕ) → List ℕ
headers mac total id protocol source target = ethernet mac gateway_mac 0x0800 ++ header total id protocol source target

-- a payload behind them
unfoldable pub ip_frame : (mac : List ℕ) (id protocol : ℕ) (source target payload : List ℕ) → List ℕ
ip_frame mac id protocol source target payload = headers mac (20 + length payload) id protocol source target ++ payload
