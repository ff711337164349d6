-- The frame around a DHCP reply, as document 01 has it and document 02 amends it.
use Rattle.std.specs.Prelude.{ℕ, List}
use Rattle.dhcp_message.specs.Message.{reply}
use Rattle.frames.specs.Frames.{ip_frame}
use Rattle.record.specs.Network.{broadcast_of}
use Rattle.record.specs.declared.guest.Guest.{Guest}
use Rattle.record.specs.declared.network.Network.{Network}
use Rattle.wire.specs.Rfc768.{datagram}
use Rattle.wire.specs.Rfc894.{source_mac}

-- Document 02, 2/13: "RFC 2131 has the server send from 67 to 68, while the Rust and document 01 have it the other way round. The reply's UDP header becomes 00 43 00 44."
abbrev pub reply_source : ℕ
reply_source = 67

abbrev pub reply_target : ℕ
reply_target = 68

-- the frame around it, to this MAC: "record's MAC at 28", to the network's broadcast address
unfoldable pub dhcp_frame_to : Network → (mac : List ℕ) (id : ℕ) (to : List ℕ) (xid type : ℕ) → List ℕ
dhcp_frame_to net mac id to xid type =
    ip_frame to id 17 net.gateway (broadcast_of net) (datagram net.gateway (broadcast_of net) reply_source reply_target (reply net mac xid type))

-- "and the sender's MAC"
abbrev pub dhcp_frame : Guest → (frame : List ℕ) (xid type : ℕ) → List ℕ
dhcp_frame guest frame xid type = dhcp_frame_to guest.network guest.mac guest.id (source_mac frame) xid type
