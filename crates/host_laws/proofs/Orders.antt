-- The order theorem for C: fragments taken by the exported call, in every order, end complete; and a release makes the store ready for them.
use Prim.Native.Nat.{ℕ}
use mathlib.Core.Path.{◌≡◌, ap, sym, subst, ◌∙◌}
use mathlib.Core.List.{List}
use lib.ListN.{length, get_or}
use Rattle.fragment_laws.proofs.Orders.{every_order, all_its_own}
use Rattle.fragment_laws.proofs.Standing.{released_is_vacant}
use Rattle.fragment_laws.specs.Calls.{Store, Sized, Vacant, releasing, Call}
use Rattle.fragment_laws.specs.Trains.{Permuted, Train, takings, All, Covers, byte_for}
use Rattle.fragment_packets.specs.declared.packet.Datagram.{Datagram}
use Rattle.host_laws.proofs.AsCore.{core_calls, as_core, same_asked, same_left, numbers_told, keeps, number_of_lem, state_of_lem}
use Rattle.host_laws.specs.Made.{Lent, store_of, Made, PromisedIt, Makes, asks_of, payload_in, ArrivedThere}
use Rattle.store_words.specs.Reports.{number_of}

pub every_order_there : (datagram : Datagram) (end : ℕ) (frames order : List (List ℕ)) (lent : Lent) (made : List Made)
    → Train datagram end frames → Permuted frames order → Vacant (store_of lent) → Makes lent made → asks_of made ≡ takings order
    → ArrivedThere datagram end frames lent made
every_order_there datagram end frames order lent made train p v m e =
    let calls = core_calls lent made m in
    let a = every_order datagram end frames order (store_of lent) calls calls train p v (as_core lent made m) (all_its_own calls) (same_asked lent made m ∙ e) in
    let left = same_left lent made m in
    record {
      numbers = numbers_told lent made m a.answers;
      held = sym (ap (λ (store : Store). store.state) left) ∙ a.held;
      as_long = subst (λ (store : Store). length (payload_in store) ≡ end) left a.as_long;
      each_byte = λ place.
          subst (λ (store : Store). All (λ (frame : List ℕ). Covers place frame → get_or (payload_in store) place 0 ≡ byte_for place frame) frames) left (a.each_byte place);
    }

-- whatever the memory holds that is lent at its size
pub released_there : (lent : Lent) (made : Made) → Sized (store_of lent) → PromisedIt releasing lent made → (made.number ≡ 23) × Vacant (store_of made.left)
unfolding number_of
released_there lent made sized k =
    let call : Call = record { who = 0; asked = releasing; taken = k.0.taken; bytes = made.left.bytes; bits = made.left.bits } in
    let both = released_is_vacant (store_of lent) call sized (keeps releasing lent made k) in
    let same : store_of made.left ≡ record { state = k.0.taken.state; bytes = made.left.bytes; bits = made.left.bits } =
    λ i. record { state = state_of_lem releasing lent made k i; bytes = made.left.bytes; bits = made.left.bits } in
    (number_of_lem releasing lent made k ∙ ap number_of both.0, subst Vacant (sym same) both.1)
