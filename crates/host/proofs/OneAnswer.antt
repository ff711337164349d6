-- The contracts leave one answer; what C is told is what `handle` and `read` answer, and nothing of it is lost.
use Prim.Native.Nat.{ℕ, ◌+◌}
use mathlib.Core.List.{List, [], ◌∷◌}
use mathlib.Core.Path.{◌≡◌, refl, ap, sym, subst, ◌∙◌}
use lib.Dec.{eqb}
use lib.ListN.{length, drop, get_or}
use Rattle.record.proofs.OneAnswer.{one_outcome, verdict_of}
use Rattle.record.specs.Answer.{Meets, Outcome, Writing, paper}
use Rattle.record.specs.Guest.{Settled, known}
use Rattle.record.specs.Network.{document01}
use mathlib.Core.Bool.{cond}
use Rattle.record.specs.declared.answer.Answer.{Answer}
use Rattle.record.specs.declared.guest.Guest.{Guest}
use Rattle.record.specs.declared.answer.Verdict.{Verdict}
use Rattle.record.specs.declared.answer.Verdict.TheVariants.{Drop, Reply, Dns, Relay, Tcp}
use Rattle.record.specs.declared.answer.Refusal.{Refusal}
use Rattle.record.specs.declared.answer.Refusal.TheVariants.{NoRoom, TooLong, CutType}
use Rattle.grammar.proofs.Exact.{one_report}
use Rattle.grammar.specs.Grammar.{Layer, laid}
use Rattle.grammar.specs.Report.{Report, arp_kind, icmp_kind, udp_kind, dhcp_kind, tcp_kind, other_ipv4_kind, parts, refused}
use Rattle.host.specs.Parts.{Reported, kind_number, number_of, places, places_of}
use Rattle.host.specs.Exported.{Built, Sent, Told}
use Rattle.verdict_numbers.specs.Numbers.{padded}
use Rattle.std.proofs.Common.{Option, Some, None, Result, Ok, Err}
use Rattle.reader.specs.Reported.{report_of}
use Rattle.reader.specs.declared.parts.Reading.{Reading}
use Rattle.reader.specs.declared.parts.Reading.TheVariants.{Arp, Icmp, Udp, Dhcp, Tcp as Reading-as-Tcp, OtherIpv4}
use Rattle.rules.proofs.Settled.{outcome_settled}
use Rattle.rules.specs.Rules.{outcome}

-- the verdict, back from the number and the values
untold : (v : Result Verdict Refusal) → verdict_of (padded (paper v)) ≡ v
unfolding paper padded verdict_of
untold (Ok Drop) = refl
untold (Ok (Reply n)) = refl
untold (Ok (Dns start len)) = refl
untold (Ok (Relay start len)) = refl
untold (Ok (Tcp n)) = refl
untold (Err (NoRoom needed)) = refl
untold (Err (TooLong len)) = refl
untold (Err (CutType place)) = refl

-- different verdicts are told differently
pub told_one_to_one : (v w : Result Verdict Refusal) → padded (paper v) ≡ padded (paper w) → v ≡ w
told_one_to_one v w e = sym (untold v) ∙ ap verdict_of e ∙ untold w

-- a layer, back from its three places
abbrev layer_at : List ℕ → ℕ → Layer
layer_at places at = laid (get_or places at 0) (get_or places (at + 1) 0) (get_or places (at + 2) 0)

-- the report, back from the number and the places
unfoldable pub report_back : (number : ℕ) (places : List ℕ) → Report
report_back n ps =
    cond (eqb n 1) (parts arp_kind (layer_at ps 0 ∷ []) [])
    (cond (eqb n 2) (parts icmp_kind (layer_at ps 0 ∷ layer_at ps 3 ∷ layer_at ps 6 ∷ []) [])
    (cond (eqb n 3) (parts udp_kind (layer_at ps 0 ∷ layer_at ps 3 ∷ layer_at ps 6 ∷ []) [])
    (cond (eqb n 4) (parts dhcp_kind (layer_at ps 0 ∷ layer_at ps 3 ∷ layer_at ps 6 ∷ layer_at ps 9 ∷ []) (get_or ps 12 0 ∷ []))
    (cond (eqb n 5) (parts tcp_kind (layer_at ps 0 ∷ layer_at ps 3 ∷ layer_at ps 6 ∷ []) [])
    (cond (eqb n 6) (parts other_ipv4_kind (layer_at ps 0 ∷ layer_at ps 3 ∷ []) []) (refused n))))))

-- what `read` answers is there in what C is told of it
pub report_back_lem : (before : List ℕ) (r : Option Reading) → report_back (number_of (report_of r)) (places_of before (report_of r)) ≡ report_of r
unfolding report_back report_of number_of kind_number places_of places
report_back_lem before (Some (Arp ethernet)) = refl
report_back_lem before (Some (Icmp ethernet ip message)) = refl
report_back_lem before (Some (Udp ethernet ip datagram)) = refl
report_back_lem before (Some (Dhcp ethernet ip datagram message type)) = refl
report_back_lem before (Some (Reading-as-Tcp ethernet ip segment)) = refl
report_back_lem before (Some (OtherIpv4 ethernet ip)) = refl
report_back_lem before None = refl

-- Two answers of `send`.
pub send_answers_once : (guest : Guest) (frame before after after' : List ℕ) (v v' : Result Verdict Refusal) (g g' : Guest)
    → Meets (outcome guest frame (length before)) before after (record { verdict = v; guest = g })
    → Meets (outcome guest frame (length before)) before after' (record { verdict = v'; guest = g' }) → (v ≡ v') × (g ≡ g') × (after ≡ after')
send_answers_once guest frame before after after' v v' g g' m m' =
    let same = one_outcome _ before after after' _ _ m m' in
    (ap (λ (a : Answer). a.verdict) same.0, ap (λ (a : Answer). a.guest) same.0, same.1)

-- Two answers of an exported call.
module _ (before after after' : List ℕ) (n n' : ℕ) (vs vs' : List ℕ) where
  pub one_telling : (w : Writing) → Told w before after n vs → Told w before after' n' vs' → (n ≡ n') × (vs ≡ vs') × (after ≡ after')
  one_telling w t t' =
      let same = t.numbers ∙ sym t'.numbers in
      (ap (λ (l : List ℕ). get_or l 0 0) same, ap (λ (l : List ℕ). drop 1 l) same, t.bytes ∙ sym t'.bytes)

  pub yavoledu_send_answers_once : (o : Outcome) (g g' : Guest) → Sent o before after n vs g → Sent o before after' n' vs' g'
      → (n ≡ n') × (vs ≡ vs') × (after ≡ after') × (g ≡ g')
  yavoledu_send_answers_once o g g' s s' =
      let same = one_telling o.writing s.told s'.told in
      (same.0, same.1, same.2, s.guest ∙ sym s'.guest)

  -- of a builder that is lent the id
  pub built_answers_once : (lent i i' : ℕ) (made : Guest → Outcome) → Built lent made before after n vs i → Built lent made before after' n' vs' i'
      → (n ≡ n') × (vs ≡ vs') × (after ≡ after') × (i ≡ i')
  built_answers_once lent i i' made t t' =
      let some : Guest = known [] lent 0 document01 in
      let same = one_telling (made some).writing (t.told some refl) (t'.told some refl) in
      (same.0, same.1, same.2, t.id some refl ∙ sym (t'.id some refl))

pub yavoledu_read_answers_once : (frame before after after' : List ℕ) (n n' : ℕ) → Reported frame before after n → Reported frame before after' n' → (n ≡ n') × (after ≡ after')
yavoledu_read_answers_once frame before after after' n n' s s' =
    let same = one_report frame s.report s'.report s.reads s'.reads in
    (s.number ∙ ap number_of same ∙ sym s'.number, s.parts ∙ ap (places_of before) same ∙ sym s'.parts)

-- What `handle` answers on the same input is what `yavoledu_send` tells: the verdict by its number and values, the buffer and the record.
pub tells_what_handle_answers : (o : Outcome) (before after after' : List ℕ) (a : Answer) (n : ℕ) (vs : List ℕ) (g : Guest)
    → Meets o before after a → Sent o before after' n vs g → (n ∷ vs ≡ padded (paper a.verdict)) × (after' ≡ after) × (g ≡ a.guest)
tells_what_handle_answers o before after after' a n vs g m s =
    (s.told.numbers ∙ ap padded (sym m.wrote.numbers), s.told.bytes ∙ sym m.wrote.bytes, s.guest ∙ sym m.guest)

-- Whatever `yavoledu_send` tells, the record behind the reference keeps its MAC and its network.
pub yavoledu_send_settled : (guest : Guest) (frame before after : List ℕ) (n : ℕ) (vs : List ℕ) (g : Guest) → Sent (outcome guest frame (length before)) before after n vs g → Settled guest g
yavoledu_send_settled guest frame before after n vs g s = subst (Settled guest) (sym s.guest) (outcome_settled guest frame (length before))
