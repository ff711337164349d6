-- What `gwone` prints for an input, sentence by sentence as document 01 says it ("Bytes to check", A1 and the program `gwone`).
use Rattle.std.specs.Prelude.{ℕ, List, [], ◌∷◌, ◌++◌, eqb, leb, ltb, length, get_or, take, drop, replicate, cond}
use Rattle.record.specs.Answer.{Outcome}
use Rattle.record.specs.Guest.{fresh}
use Rattle.record.specs.Network.{document01}
use Rattle.rules.specs.Rules.{outcome}
use Rattle.gwone.specs.Text.{ascii, decimal, hex}

-- "It prints a word (`drop`, `reply`, `dns`, `relay`, `tcp`, `refused`)", by the verdict's number
abbrev pub word : (number : ℕ) → List ℕ
word number =
    cond (eqb number 0) (ascii "drop")
    (cond (eqb number 1) (ascii "reply")
    (cond (eqb number 2) (ascii "dns")
    (cond (eqb number 3) (ascii "relay")
    (cond (eqb number 4) (ascii "tcp")
    (ascii "refused")))))

-- each number with a space before it
abbrev pub spaced : List ℕ → List ℕ
spaced [] = []
spaced (n ∷ rest) = ascii " " ++ decimal n ++ spaced rest

-- "and its numbers (for `refused`, the verdict number first)"; `numbers` is the verdict's number and its values
unfoldable pub line : (numbers : List ℕ) → List ℕ
line [] = []
line (number ∷ values) = word number ++ spaced (cond (leb number 4) values (number ∷ values)) ++ ascii "\n"

-- "then for a reply a hex line", of the first n bytes of the buffer
unfoldable pub answer_text : (numbers buffer : List ℕ) → List ℕ
answer_text numbers buffer =
    cond (eqb (get_or numbers 0 0) 1)
    (line numbers ++ hex (take (get_or numbers 1 0) buffer) ++ ascii "\n")
    (line numbers)

-- "2,048 bytes of room", all 0 before the call
abbrev pub room : List ℕ
room = replicate 2048 0

-- the text of what comes of a call with that room
abbrev pub outcome_text : Outcome → List ℕ
outcome_text o = answer_text o.writing.numbers (o.writing.image ++ drop (length o.writing.image) room)

-- "uses guest MAC 52:54:00:12:34:56"
abbrev pub guest_mac_lem : List ℕ
guest_mac_lem = 0x52 ∷ 0x54 ∷ 0x00 ∷ 0x12 ∷ 0x34 ∷ 0x56 ∷ []

-- "it reads one frame from standard input (over 2,048 bytes it prints `input over 2048`), uses .. a fresh record and 2,048 bytes of room"
unfoldable pub printed : (input : List ℕ) → List ℕ
printed input = cond (ltb 2048 (length input)) (ascii "input over 2048\n") (outcome_text (outcome (fresh guest_mac_lem document01) input 2048))
