-- The reader is exact: whatever keeps its promise answers parts exactly when there is a derivation, and then they are that one's, and 8 exactly when there is
-- none. So two answers to one frame are equal.
use Prim.Native.Nat.{ℕ}
use mathlib.Core.Path.{◌≡◌, ap, sym, subst, ◌∙◌}
use mathlib.Core.List.{List}
use Rattle.grammar.specs.Grammar.{Derivation, arp, other_ipv4, icmp, udp, dhcp, tcp, Derives}
use Rattle.grammar.specs.Report.{Report, parts, refused, parts_of, Reads, takes, refuses}
use Rattle.grammar.proofs.Unique.{unique}

-- parts are no refusal
Taken : Report → Type 0
Taken (parts kind layers type) = Unit
Taken (refused number) = ⊥

taken : (s : List ℕ) (d : Derivation) → Taken (parts_of s d)
unfolding Taken parts_of
taken s (arp e) = tt
taken s (other_ipv4 e i) = tt
taken s (icmp e i m) = tt
taken s (udp e i u) = tt
taken s (dhcp e i u m items) = tt
taken s (tcp e i g) = tt

not_refused : (s : List ℕ) (d : Derivation) → parts_of s d ≡ refused 8 → ⊥
unfolding Taken
not_refused s d e = subst Taken e (taken s d)

-- "the reported parts are its parts": where the frame has a derivation, the answer is that derivation's parts
pub parts_reported : (s : List ℕ) (answer : Report) → Reads s answer → (d : Derivation) → Derives s d → answer ≡ parts_of s d
parts_reported s answer (takes e h same) d k = same ∙ ap (parts_of s) (unique s e d h k)
parts_reported s answer (refuses same none) d k = absurd (none d k)

-- "accepts a byte string exactly when document 01's frame grammar derives it": an answer that isn't 8 has a derivation behind it, and its parts are the answer
pub derivation_behind : (s : List ℕ) (answer : Report) → Reads s answer → (answer ≡ refused 8 → ⊥) → (d : Derivation) × Derives s d × (answer ≡ parts_of s d)
derivation_behind s answer (takes d h same) f = (d, h, same)
derivation_behind s answer (refuses same none) f = absurd (f same)

-- a derived frame isn't answered 8
pub derived_taken : (s : List ℕ) (answer : Report) → Reads s answer → (d : Derivation) → Derives s d → answer ≡ refused 8 → ⊥
derived_taken s answer r d h e = not_refused s d (sym (parts_reported s answer r d h) ∙ e)

-- and 8 is answered where there is none
pub underived_refused : (s : List ℕ) (answer : Report) → Reads s answer → ((d : Derivation) → Derives s d → ⊥) → answer ≡ refused 8
underived_refused s answer (takes d h same) none = absurd (none d h)
underived_refused s answer (refuses same none') none = same

pub one_report : (s : List ℕ) (a b : Report) → Reads s a → Reads s b → a ≡ b
one_report s a b (takes d h same) r = same ∙ sym (parts_reported s b r d h)
one_report s a b (refuses same none) r = same ∙ sym (underived_refused s b r none)
