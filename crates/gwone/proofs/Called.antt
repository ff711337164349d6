-- The text of a call's answer is the text of what is to come of the call.
use Prim.Native.Nat.{ℕ}
use mathlib.Core.Path.{◌≡◌, ap₂}
use mathlib.Core.List.{List}
use lib.ListN.{length, length-replicate}
use Rattle.record.specs.Answer.{Meets, paper}
use Rattle.record.specs.Guest.{fresh}
use Rattle.record.specs.Network.{document01}
use Rattle.record.specs.declared.answer.Answer.{Answer}
use Rattle.record.specs.declared.guest.Guest.{Guest}
use Rattle.rules.specs.Rules.{outcome}
use Rattle.gwone.specs.Printed.{answer_text, outcome_text, guest_mac_lem, room}

-- with a fresh record and 2,048 bytes of room, all 0
pub call_text : (guest : Guest) (input before after : List ℕ) (answer : Answer) → guest ≡ fresh guest_mac_lem document01 → before ≡ room
    → Meets (outcome guest input (length before)) before after answer
    → answer_text (paper answer.verdict) after ≡ outcome_text (outcome (fresh guest_mac_lem document01) input 2048)
call_text guest input before after answer g b meets =
    let known = rw (g, b, length-replicate {A = ℕ} 2048 0) at meets in
    ap₂ answer_text known.wrote.numbers known.wrote.bytes
