-- `builders::yavoledu_make_ip_frame` meets its contract.
use Prim.Native.Nat.{ℕ}
use Rattle.frames.specs.Frames.{ip_frame}
use Rattle.host.proofs.Telling.{built_of}
use Rattle.host.proofs.builders.yavoledu_make_ip_frame.Goals as goal

pub returns : goal.returns
returns c =
    built_of _ _ _ _ (λ (i : ℕ). ip_frame _ i _ _ _ _) _ _ c.of_id.ensures c.make_ip_frame-answer.ensures c.stored.ensures.0 c.stored.ensures.1
