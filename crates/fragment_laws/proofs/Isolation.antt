-- Isolation of stores: base's, which holds of calls of any kind. What is to be shown is that the same asked of the same store gets and leaves the same.
use Prim.Native.Nat.{ℕ}
use mathlib.Core.List.{List}
use mathlib.Core.Path.{◌≡◌, sym, subst}
use Rattle.base.proofs.Runs as every
use Rattle.fragment_laws.specs.Calls.{Store, Asked, Call, after, Promised, Keeps, Runs, asks, Serves, calls_of, got, gets}
use Rattle.fragment_laws.proofs.OneAnswer.{one_answer}

-- whatever the order of the calls and whatever the others ask, a guest's store is served as if it were the only one
pub as_if_alone : (host : ℕ → Store) (calls : List Call) → Serves host calls → (guest : ℕ) → Runs (host guest) (calls_of guest calls)
as_if_alone host calls s guest = every.as_if_alone Keeps after (λ (call : Call). call.who) host calls guest s

once : (store : Store) (c o : Call) → Unit {0} → Keeps store c → Keeps store o → c.asked ≡ o.asked → (got c ≡ got o) × (after c ≡ after o) × Unit {0}
once store c o good k l asked =
    let same = one_answer c.asked store (after c) (after o) c.taken o.taken k (subst (λ (a : Asked). Promised a store (after o) o.taken) (sym asked) l) in (
      λ i. record { taken = same.0 i; bytes = same.1 i; bits = same.2 i },
      λ i. record { state = (same.0 i).state; bytes = same.1 i; bits = same.2 i },
      tt,
    )

-- So two hosts that keep the same store for a guest, and are asked the same by it, give it the same answers and leave it the same bytes and
-- bits, whatever the other guests' stores are and whatever they ask, in whatever order.
pub others_do_not_matter : (host host' : ℕ → Store) (calls calls' : List Call) (guest : ℕ) → host guest ≡ host' guest → Serves host calls → Serves host' calls'
    → asks (calls_of guest calls) ≡ asks (calls_of guest calls') → gets (calls_of guest calls) ≡ gets (calls_of guest calls')
others_do_not_matter host host' calls calls' guest e s t a =
    (every.others_do_not_matter Keeps after (λ (call : Call). call.asked) got (λ (store : Store). Unit {0}) once (λ (call : Call). call.who) host host' calls calls' guest tt e s t a).0
