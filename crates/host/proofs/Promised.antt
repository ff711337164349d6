-- What the contracts of the exported builders promise, as the prover reads it off them, is what a C host's runs cite. (`yavoledu_send` is proved by a walk by hand, for which there is no such
-- reading; its contract cites `Sends` in so many words.)
use borrow.Fn.Kinds.{ended_of}
use borrow.Fn.World.{ArgsD, ResD}
use contract.Lifetimes.{Lfts}
use denote.Triple.Clauses.{AtExit}
use Rattle.host.specs.Exported.{MakesIpFrame, MakesTcpFrame}
use Rattle.host.specs.contracts.builders.yavoledu_make_ip_frame as ip-frame
use Rattle.host.proofs.builders.yavoledu_make_ip_frame.Kinds as ip-frame-kinds
use Rattle.host.proofs.builders.yavoledu_make_ip_frame.Reads as ip-frame-reads
use Rattle.host.specs.contracts.builders.yavoledu_make_tcp_frame as tcp-frame
use Rattle.host.proofs.builders.yavoledu_make_tcp_frame.Kinds as tcp-frame-kinds
use Rattle.host.proofs.builders.yavoledu_make_tcp_frame.Reads as tcp-frame-reads

pub make_ip_frame_promises : (κs : Lfts 7) (a : ArgsD ip-frame.signature κs) (r : ResD ip-frame.signature κs) (s : AtExit (ended_of 7 ip-frame-kinds.ps ip-frame-kinds.r) κs)
    → ip-frame-reads.Post κs a r s
    → MakesIpFrame a.0.now a.1.0.now a.1.1.0.now a.1.1.1.0.now a.1.1.1.1.0 a.1.1.1.1.1.0.now
    a.1.1.1.1.1.1.0.now s.1.1.1.1.1.1.0.now r s.1.1.1.1.1.1.1.0.now s.0.now
make_ip_frame_promises κs a r s promised = promised

pub make_tcp_frame_promises : (κs : Lfts 7) (a : ArgsD tcp-frame.signature κs) (r : ResD tcp-frame.signature κs) (s : AtExit (ended_of 7 tcp-frame-kinds.ps tcp-frame-kinds.r) κs)
    → tcp-frame-reads.Post κs a r s
    → MakesTcpFrame a.0.now
    (record { dst_mac = a.1.0.now; src_ip = a.1.1.0.now; src_port = a.1.1.1.0; dst_ip = a.1.1.1.1.0.now; dst_port = a.1.1.1.1.1.0 })
    a.1.1.1.1.1.1.0 a.1.1.1.1.1.1.1.0 a.1.1.1.1.1.1.1.1.0 a.1.1.1.1.1.1.1.1.1.0.now
    a.1.1.1.1.1.1.1.1.1.1.0.now s.1.1.1.1.1.1.1.1.1.1.0.now r s.1.1.1.1.1.1.1.1.1.1.1.0.now s.0.now
make_tcp_frame_promises κs a r s promised = promised
