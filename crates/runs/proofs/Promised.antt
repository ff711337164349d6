-- What a run says of its calls is what the contracts say: whatever `handle` or a builder promises of a call, as the prover reads it off the contract, is an answer as `Answered` has it.
use Prim.Native.Nat.{ℕ}
use borrow.Fn.Kinds.{ended_of}
use borrow.Fn.World.{ArgsD, ResD}
use contract.Lifetimes.{Lfts}
use denote.Triple.Clauses.{AtExit}
use Rattle.frames.specs.contracts.make_ip_frame as ip-frame
use Rattle.frames.proofs.make_ip_frame.Kinds as ip-frame-kinds
use Rattle.frames.proofs.make_ip_frame.Reads as ip-frame-reads
use Rattle.frames.specs.contracts.make_ip_frame_in_place as in_place
use Rattle.frames.proofs.make_ip_frame_in_place.Kinds as in-place-kinds
use Rattle.frames.proofs.make_ip_frame_in_place.Reads as in_place_reads
use Rattle.slirp.specs.contracts.handle as the-handle
use Rattle.slirp.proofs.handle.Kinds as handle-kinds
use Rattle.slirp.proofs.handle.Reads as handle-reads
use Rattle.tcp.specs.contracts.make_tcp_frame as tcp-frame
use Rattle.tcp.proofs.make_tcp_frame.Kinds as tcp-frame-kinds
use Rattle.tcp.proofs.make_tcp_frame.Reads as tcp-frame-reads
use Rattle.runs.specs.Calls.{handling, making_ip_frame, making_ip_frame_in_place, making_tcp_frame, SizedEnds, Answered}

pub handle_answers : (who : ℕ) (κs : Lfts 2) (a : ArgsD the-handle.signature κs) (r : ResD the-handle.signature κs) (s : AtExit (ended_of 2 handle-kinds.ps handle-kinds.r) κs)
    → handle-reads.Post κs a r s
    → Answered a.0 (record { who = who; asked = handling a.1.0.now; before = a.1.1.0.now; answer = r; after = s.1.1.0.now })
handle_answers who κs a r s promised = record { sized = tt; meets = promised }

pub make_ip_frame_answers : (who : ℕ) (κs : Lfts 2) (a : ArgsD ip-frame.signature κs) (r : ResD ip-frame.signature κs) (s : AtExit (ended_of 2 ip-frame-kinds.ps ip-frame-kinds.r) κs)
    → SizedEnds a.1.0 a.1.1.0 a.1.1.1.0 → ip-frame-reads.Post κs a r s
    → Answered a.0
    (record {
      who = who;
      asked = making_ip_frame a.1.0 a.1.1.0 a.1.1.1.0 a.1.1.1.1.0 a.1.1.1.1.1.0.now;
      before = a.1.1.1.1.1.1.0.now;
      answer = r;
      after = s.1.1.1.1.1.1.0.now;
    })
make_ip_frame_answers who κs a r s sizes promised = record { sized = sizes; meets = promised }

pub make_ip_frame_in_place_answers : (who : ℕ) (κs : Lfts 1) (a : ArgsD in_place.signature κs) (r : ResD in_place.signature κs) (s : AtExit (ended_of 1 in-place-kinds.ps in-place-kinds.r) κs)
    → SizedEnds a.1.0 a.1.1.0 a.1.1.1.0 → in_place_reads.Post κs a r s
    → Answered a.0
    (record {
      who = who;
      asked = making_ip_frame_in_place a.1.0 a.1.1.0 a.1.1.1.0 a.1.1.1.1.0 a.1.1.1.1.1.0;
      before = a.1.1.1.1.1.1.0.now;
      answer = r;
      after = s.1.1.1.1.1.1.0.now;
    })
make_ip_frame_in_place_answers who κs a r s sizes promised = record { sized = sizes; meets = promised }

pub make_tcp_frame_answers : (who : ℕ) (κs : Lfts 2) (a : ArgsD tcp-frame.signature κs) (r : ResD tcp-frame.signature κs) (s : AtExit (ended_of 2 tcp-frame-kinds.ps tcp-frame-kinds.r) κs)
    → SizedEnds a.1.0.dst_mac a.1.0.src_ip a.1.0.dst_ip → tcp-frame-reads.Post κs a r s
    → Answered a.0
    (record {
      who = who;
      asked = making_tcp_frame a.1.0 a.1.1.0 a.1.1.1.0 a.1.1.1.1.0 a.1.1.1.1.1.0.now;
      before = a.1.1.1.1.1.1.0.now;
      answer = r;
      after = s.1.1.1.1.1.1.0.now;
    })
make_tcp_frame_answers who κs a r s sizes promised = record { sized = sizes; meets = promised }
