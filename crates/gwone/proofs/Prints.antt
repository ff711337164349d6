-- What is printed in two cases of document 01: A1, by computation, and an input that is too long.
use Prim.Native.Nat.{ℕ, ◌<◌}
use mathlib.Core.Path.{◌≡◌, refl}
use mathlib.Core.List.{List, [], ◌∷◌}
use borrow.Author.Tests.{lt-ltb}
use lib.ListN.{length}
use Rattle.arp_reply.specs.Reply.{reply_to}
use Rattle.rules.specs.Rules.{decision, arp_decision, outcome_of, outcome}
use Rattle.record.specs.Answer.{framing}
use Rattle.gwone.specs.Text.{ascii, decimal, hex}
use Rattle.gwone.specs.Printed.{line, answer_text, printed}

-- "an ARP request from that MAC and 10.0.2.15 for 10.0.2.2"
abbrev pub arp_request : List ℕ
arp_request =
    0xff ∷ 0xff ∷ 0xff ∷ 0xff ∷ 0xff ∷ 0xff ∷ 0x52 ∷ 0x54 ∷ 0x00 ∷ 0x12 ∷ 0x34 ∷ 0x56 ∷ 0x08 ∷ 0x06
    ∷ 0x00 ∷ 0x01 ∷ 0x08 ∷ 0x00 ∷ 0x06 ∷ 0x04 ∷ 0x00 ∷ 0x01
    ∷ 0x52 ∷ 0x54 ∷ 0x00 ∷ 0x12 ∷ 0x34 ∷ 0x56 ∷ 0x0a ∷ 0x00 ∷ 0x02 ∷ 0x0f
    ∷ 0x00 ∷ 0x00 ∷ 0x00 ∷ 0x00 ∷ 0x00 ∷ 0x00 ∷ 0x0a ∷ 0x00 ∷ 0x02 ∷ 0x02 ∷ []

-- A1: "all it prints is"
pub a1 : printed arp_request ≡ ascii "reply 42\n525400123456525400000001080600010800060400025254000000010a0002025254001234560a00020f\n"
unfolding printed answer_text line decimal hex outcome outcome_of decision arp_decision framing reply_to
a1 = refl

-- "over 2,048 bytes it prints `input over 2048`"
pub too_long : (input : List ℕ) → 2048 < length input → printed input ≡ ascii "input over 2048\n"
unfolding printed
too_long input h = simp (lt-ltb 2048 (length input) h)
