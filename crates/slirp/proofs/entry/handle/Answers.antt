-- `entry::handle` meets its contract: an echo request lies in its frame. The check finds the rest, decision by decision.
use Rattle.slirp.proofs.Decided.{request_inside}
use Rattle.slirp.proofs.entry.handle.Goals as goal

pub handle_icmp-requires : goal.handle_icmp-requires
handle_icmp-requires c =
    let inside = request_inside c.args.guest.network c.args.frame.now c.in-Ok-EchoReply.start (cc) in
    record { start_in_bounds = inside.0; frame_len_bound = inside.1 }
