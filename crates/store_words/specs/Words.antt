-- A store's state as six words, for a host that has no enums: phase, source, target, protocol, id, end. Every value of the words is a state.
use Rattle.std.specs.Prelude.{ℕ, ◌%◌, List, [], ◌∷◌, eqb, get_or, cond, Option, Some, None}
use Rattle.fragment_packets.specs.declared.packet.Datagram.{Datagram}
use Rattle.fragment_rules.specs.declared.answer.State.{State}
use Rattle.fragment_rules.specs.declared.answer.State.TheVariants.{Empty, Filling, Complete}

-- protocol, id and end by their low bits, which are all there are in words that a call has written
unfoldable pub datagram_in : (words : List ℕ) → Datagram
datagram_in words =
    record {
      source = get_or words 1 0;
      target = get_or words 2 0;
      protocol = get_or words 3 0 % 256;
      id = get_or words 4 0 % 65536;
    }

unfoldable pub end_in : (words : List ℕ) → ℕ
end_in words = get_or words 5 0 % 65536

-- 0 empty, 1 filling, 2 filling with the end known; every other phase is complete: what is not known to be free is held until it is released
unfoldable pub state_of : (words : List ℕ) → State
state_of words =
    cond (eqb (get_or words 0 0) 0) Empty
    (cond (eqb (get_or words 0 0) 1) (Filling (datagram_in words) None)
    (cond (eqb (get_or words 0 0) 2) (Filling (datagram_in words) (Some (end_in words)))
    (Complete (datagram_in words) (end_in words))))

-- the words of a phase, a datagram and an end
unfoldable pub laid : (phase : ℕ) → Datagram → (end : ℕ) → List ℕ
laid phase d end = phase ∷ d.source ∷ d.target ∷ d.protocol ∷ d.id ∷ end ∷ []

unfoldable pub filling_words : Datagram → Option ℕ → List ℕ
filling_words d None = laid 1 d 0
filling_words d (Some end) = laid 2 d end

-- the words that a call writes for a state; what a state doesn't have is 0
unfoldable pub words_of : State → List ℕ
words_of Empty = 0 ∷ 0 ∷ 0 ∷ 0 ∷ 0 ∷ 0 ∷ []
words_of (Filling d end) = filling_words d end
words_of (Complete d length) = laid 3 d length
