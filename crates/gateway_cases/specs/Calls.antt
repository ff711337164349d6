-- The lines of gateway calls, and what is promised of one that is judged.
use Rattle.std.specs.Prelude.{ℕ, ◌%◌, ◌<◌, ◌≡◌, Bool, IfSome, ◌||◌, List, get_or, drop, eqb, cond}
use Rattle.gateway_cases.specs.declared.calls.Outcome.{Outcome}
use Rattle.gateway_cases.specs.declared.calls.Named.{Named}

-- the kinds of calls: 13 has id and xid before the call, 14 goes on with the last record, 15 has the network too
abbrev pub is_call : ℕ → Bool
is_call kind = eqb kind 13 || eqb kind 14 || eqb kind 15

-- The promise for the fields that all kinds have: what is named is what they say, and there are such a verdict and such an owner of the answer.
pub record IsNamed (fields : List ℕ) (named : Named) : Type 0 where
  pub verdict : named.verdict ≡ get_or fields 17 0
  pub whose : named.whose ≡ get_or fields 12 0
  pub numbers : (named.verdict < 8) × (named.whose < 4)

abbrev pub Judged : List ℕ → Outcome → Type 0
Judged fields r = IfSome r.named (IsNamed fields)

-- where these fields stand, by the line's kind: behind the kind, and what it has of the record before the call
abbrev pub fields_of : (kind : ℕ) → List ℕ → List ℕ
fields_of kind line = cond (eqb kind 14) (drop 1 line) (cond (eqb kind 15) (drop 23 line) (drop 7 line))

-- The promise of `called`.
abbrev pub Called : List ℕ → Outcome → Type 0
Called line r = Judged (fields_of (get_or line 0 0 % 128) line) r
