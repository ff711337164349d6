-- `train::lay` is safe and ends: each piece that is laid leaves fewer.
use Rattle.std.proofs.Common.{length}
use Rattle.replay_fragments.proofs.train.lay.Given as goal

abbrev pub decreases-loop-kind : goal.decreases-loop-kind
decreases-loop-kind l = length l.pieces
