-- The words of a state are read as the state: nothing that is in range is lost.
use Prim.Native.Nat.{ℕ, ◌%◌, ◌<◌}
use mathlib.Core.List.{[], ◌∷◌}
use mathlib.Core.Path.{◌≡◌, refl, ap}
use native.Mathlib.Omega.{arith}
use Rattle.fragment_packets.specs.declared.packet.Datagram.{Datagram}
use Rattle.std.specs.Prelude.{Some, None}
use Rattle.fragment_rules.specs.declared.answer.State.{State}
use Rattle.fragment_rules.specs.declared.answer.State.TheVariants.{Empty, Filling, Complete}
use Rattle.store_words.specs.Words.{datagram_in, end_in, state_of, laid, filling_words, words_of}
use Rattle.store_words.specs.helpers.Range.{NameInRange, InRange}

-- the low bits of a number that has no others
name_back : (phase : ℕ) (d : Datagram) (end : ℕ) → NameInRange d → datagram_in (laid phase d end) ≡ d
unfolding datagram_in laid
name_back phase d end fit =
    let p : d.protocol % 256 ≡ d.protocol = omega (arith, fit.0) in
    let i : d.id % 65536 ≡ d.id = omega (arith, fit.1) in
    λ k. record { source = d.source; target = d.target; protocol = p k; id = i k }

end_back : (phase : ℕ) (d : Datagram) (end : ℕ) → end < 65536 → end_in (laid phase d end) ≡ end
unfolding end_in laid
end_back phase d end fit = omega (arith, fit)

empty_back : state_of (0 ∷ 0 ∷ 0 ∷ 0 ∷ 0 ∷ 0 ∷ []) ≡ Empty
unfolding state_of
empty_back = refl

unknown_back : (d : Datagram) → NameInRange d → state_of (laid 1 d 0) ≡ Filling d None
unfolding state_of laid
unknown_back d fit = ap (λ (x : Datagram). Filling x None) (name_back 1 d 0 fit)

known_back : (d : Datagram) (end : ℕ) → NameInRange d → end < 65536 → state_of (laid 2 d end) ≡ Filling d (Some end)
unfolding state_of laid
known_back d end fit small = λ k. Filling (name_back 2 d end fit k) (Some (end_back 2 d end small k))

complete_back : (d : Datagram) (end : ℕ) → NameInRange d → end < 65536 → state_of (laid 3 d end) ≡ Complete d end
unfolding state_of laid
complete_back d end fit small = λ k. Complete (name_back 3 d end fit k) (end_back 3 d end small k)

-- so a state whose numbers are in range comes back from its words
pub state_back : (s : State) → InRange s → state_of (words_of s) ≡ s
unfolding words_of filling_words
state_back Empty fit = empty_back
state_back (Filling d None) fit = unknown_back d fit.0
state_back (Filling d (Some end)) fit = known_back d end fit.0 fit.1
state_back (Complete d length) fit = complete_back d length fit.0 fit.1
