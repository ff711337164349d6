-- Where a call says the payload stands, it stands: nothing but a whole datagram passes, and its payload is behind its header; a complete one's is in front in the store.
use Prim.Native.Nat.{ℕ, ◌+◌}
use mathlib.Core.List.{List}
use mathlib.Core.Path.{◌≡◌, refl, ap, sym, ◌∙◌}
use lib.ListN.{length, get_or}
use native.Mathlib.Omega.{arith}
use Rattle.std.proofs.lemmas.Grind.{common_steps}
use Rattle.base.specs.Bytes.{part}
use Rattle.bitmap.specs.Bitmap.{bit}
use Rattle.wire.specs.Rfc791.{header_length_lem}
use Rattle.wire.specs.Rfc894.{body}
use Rattle.fragment_packets.proofs.Fitting.{whole_is}
use Rattle.fragment_packets.specs.Packets.{packet_of, payload_length}
use Rattle.fragment_packets.specs.declared.packet.Packet.TheVariants.{Whole}
use Rattle.fragments.specs.Answer.{passed, said_for}
use Rattle.fragments.specs.Handing.{site_of_lem, whole_payload, stored_payload, payload_at_lem, payload_of}
use Rattle.fragments.specs.Promises.{Takes}
use Rattle.fragment_rules.specs.Rules.{ruling, packet_ruling, part_ruling}
use Rattle.fragments.specs.Outcomes.{outcome_of, settled}
use Rattle.fragment_rules.specs.declared.answer.Answer.{Answer}
use Rattle.fragment_rules.specs.declared.answer.Refusal.{Refusal}
use Rattle.std.specs.Prelude.{Option, Some, None, Result}
use Rattle.fragments.specs.declared.answer.Site.{Site}
use Rattle.fragment_rules.specs.declared.answer.State.{State}
use Rattle.fragments.specs.declared.answer.Taken.{Taken}
use Rattle.store_words.specs.Reports.{place_at, place_of, counted_in, placed_in}

-- no other answer than passed hands out a part of the frame
only_passed : (a : Result Answer Refusal) → site_of_lem a ≡ Some Site.Frame → said_for a ≡ passed
unfolding site_of_lem said_for
only_passed a e = grind (arith, common_steps)

-- so what passes is whole, with its payload behind its header
passed_whole : (state : State) (frame : List ℕ) (n : ℕ) (bits : List ℕ) → (outcome_of state (bit bits) (ruling state frame n bits)).said ≡ passed
    → packet_of frame ≡ Some (Whole (14 + header_length_lem (body frame)) (payload_length (body frame)))
unfolding ruling packet_ruling part_ruling outcome_of settled said_for
passed_whole state frame n bits e =
    let whole = whole_is frame in grind (arith, common_steps)

-- so what stands at the place is the payload that the core hands out
pub payload_stands : (state : State) (frame bytes bits bytes' bits' : List ℕ) (taken : Taken) → Takes state frame bytes bits bytes' bits' taken
    → part (placed_in taken.answer frame bytes') (get_or (place_of taken.answer taken.state frame (length bytes')) 0 0) (get_or (place_of taken.answer taken.state frame (length bytes')) 1 0)
    ≡ payload_of taken.answer taken.state frame bytes'
unfolding counted_in place_at payload_at_lem whole_payload stored_payload
payload_stands state frame bytes bits bytes' bits' taken d = at_site (site_of_lem taken.answer) refl
  where
    at_site : (site : Option Site) → site_of_lem taken.answer ≡ site
        → part (counted_in site frame bytes') (get_or (place_at site taken.state frame (length bytes')) 0 0) (get_or (place_at site taken.state frame (length bytes')) 1 0)
        ≡ payload_at_lem site taken.state frame bytes'
    at_site (Some Site.Frame) e = ap (whole_payload frame) (sym (passed_whole state frame (length bytes) bits (sym d.answers ∙ only_passed taken.answer e)))
    at_site (Some Site.Store) e = refl
    at_site None e = refl
