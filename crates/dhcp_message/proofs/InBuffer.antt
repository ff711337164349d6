-- When `build_reply` answers 5 and 1, and what the buffer holds then: as it was, or the 300 bytes of the reply and behind them as it was.
use Prim.Native.Nat.{ℕ, ◌≤◌, ◌<◌}
use mathlib.Core.Path.{◌≡◌}
use mathlib.Core.List.{List, [], ◌∷◌}
use lib.ListN.{length}
use Rattle.record.specs.Answer.{paper, Wrote}
use Rattle.std.proofs.Common.{Result}
use Rattle.record.specs.declared.answer.Verdict.{Verdict}
use Rattle.record.specs.declared.answer.Refusal.{Refusal}
use Rattle.record.specs.declared.network.Network.{Network}
use Rattle.record.proofs.Fitting.{on_no_room, short_of_room, on_written, with_room, fits_in_buffer}
use Rattle.record.proofs.InBuffer.{InBuffer}
use Rattle.dhcp_message.specs.Message.{build_reply_lem, reply}
use Rattle.record.specs.Network.{FourBytes}
use Rattle.dhcp_message.proofs.ReadBack.{reply_reads_back}

module _ (net : Network) (mac : List ℕ) (xid type : ℕ) (before after : List ℕ) (v : Result Verdict Refusal)
    (w : Wrote (build_reply_lem net mac xid type (length before)) before after v) where
  -- 5 exactly with less room than 300; it says 300, and not one byte changes
  pub on_five : (k : ℕ) → paper v ≡ 5 ∷ k ∷ [] → (length before < 300) × (k ≡ 300) × (after ≡ before)
  on_five = on_no_room 300 (length before) (reply net mac xid type) before after v w

  pub five_below_300 : length before < 300 → paper v ≡ 5 ∷ 300 ∷ []
  five_below_300 = short_of_room 300 (length before) (reply net mac xid type) before after v w

  -- 1 exactly with room for 300; it says 300
  pub on_one : (k : ℕ) → paper v ≡ 1 ∷ k ∷ [] → (300 ≤ length before) × (k ≡ 300)
  on_one = on_written 300 (length before) (reply net mac xid type) before after v w

  pub one_from_300 : 300 ≤ length before → paper v ≡ 1 ∷ 300 ∷ []
  one_from_300 = with_room 300 (length before) (reply net mac xid type) before after v w

  -- and then the reply is in the buffer
  pub reply_in_buffer : FourBytes net → length mac ≡ 6 → (n : ℕ) → paper v ≡ 1 ∷ n ∷ [] → InBuffer (reply net mac xid type) before after n
  reply_in_buffer four six = fits_in_buffer 300 (length before) (reply net mac xid type) before after v w (reply_reads_back net mac xid type four six).long
