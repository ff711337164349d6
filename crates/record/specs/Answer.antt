-- What a call answers, in document 01's terms ("Verdict numbers"), and the promise of every call that builds.
use Rattle.std.specs.Prelude.{◌≡◌, ℕ, cond, List, [], ◌∷◌, ◌++◌, length, drop, nat_lt, Result, Ok, Err}
use Rattle.record.specs.Guest.{spent}
use Rattle.record.specs.declared.guest.Guest.{Guest}
use Rattle.record.specs.declared.answer.Answer.{Answer}
use Rattle.record.specs.declared.answer.Verdict.{Verdict}
use Rattle.record.specs.declared.answer.Verdict.TheVariants.{Drop, Reply, Dns, Relay, Tcp}
use Rattle.record.specs.declared.answer.Refusal.{Refusal}
use Rattle.record.specs.declared.answer.Refusal.TheVariants.{NoRoom, TooLong, CutType}

-- the document's number of a verdict or of a refusal, and then its values
unfoldable pub paper : Result Verdict Refusal → List ℕ
paper (Ok Drop) = 0 ∷ []
paper (Ok (Reply n)) = 1 ∷ n ∷ []
paper (Ok (Dns start len)) = 2 ∷ start ∷ len ∷ []
paper (Ok (Relay start len)) = 3 ∷ start ∷ len ∷ []
paper (Ok (Tcp n)) = 4 ∷ n ∷ []
paper (Err (NoRoom needed)) = 5 ∷ needed ∷ []
paper (Err (TooLong len)) = 6 ∷ len ∷ []
paper (Err (CutType place)) = 7 ∷ place ∷ []

-- What a builder that hands no record back answers, as the verdict that it is: the bytes written are those of 1.
abbrev pub as_verdict : Result ℕ Refusal → Result Verdict Refusal
as_verdict (Ok written) = Ok (Reply written)
as_verdict (Err refusal) = Err refusal

-- What a call answers that puts the record's id into what it writes: once that stands there, the id is spent.
abbrev pub built_of : Guest → Result ℕ Refusal → Answer
built_of guest (Ok written) = record { verdict = Ok (Reply written); guest = spent guest }
built_of guest (Err refusal) = record { verdict = Err refusal; guest = guest }

-- What is to come of a call that writes: the verdict's number and values, and the first bytes of the buffer; `[]` where it is left alone.
pub record Writing : Type 0 where
  pub numbers : List ℕ
  pub image : List ℕ

-- What is to come of a call that has the record too: besides, the record afterwards.
pub record Outcome : Type 0 where
  pub writing : Writing
  pub guest : Guest

-- The promise of a call that answers a verdict: it is the one that is to come, and so is every byte of the buffer.
pub record Wrote (w : Writing) (before after : List ℕ) (verdict : Result Verdict Refusal) : Type 0 where
  pub numbers : paper verdict ≡ w.numbers
  pub bytes : after ≡ w.image ++ drop (length w.image) before

-- The promise of a call that answers with the record: besides, the record is the one that is to come.
pub record Meets (o : Outcome) (before after : List ℕ) (answer : Answer) : Type 0 where
  pub wrote : Wrote o.writing before after answer.verdict
  pub guest : answer.guest ≡ o.guest

-- The rule of 5, where `image`, of `need` bytes, is to be built and there is `room`: with less room than it needs 5 with the need;
-- else 1, and it stands in the buffer.
abbrev pub fitting : (need room : ℕ) (image : List ℕ) → Writing
fitting need room image =
    cond (nat_lt room need) (record { numbers = 5 ∷ need ∷ []; image = [] })
    (record { numbers = 1 ∷ need ∷ []; image = image })

-- The rule of 6 before it, where the image is built around `len` bytes, of which `limit` is the most: past the limit 6 with the length,
-- "decided before 5".
unfoldable pub building : (limit len need room : ℕ) (image : List ℕ) → Writing
building limit len need room image =
    cond (nat_lt limit len) (record { numbers = 6 ∷ len ∷ []; image = [] })
    (fitting need room image)

-- The same of a call that spends an id: on 1 the record is the next one, on 5 and 6 the old one.
unfoldable pub spending : (guest : Guest) (limit len need room : ℕ) (image : List ℕ) → Outcome
spending guest limit len need room image =
    record {
      writing = building limit len need room image;
      guest = cond (nat_lt limit len) guest (cond (nat_lt room need) guest (spent guest));
    }

-- no byte is written
abbrev pub unwritten : (numbers : List ℕ) → Guest → Outcome
unwritten numbers guest = record { writing = record { numbers = numbers; image = [] }; guest = guest }

-- A frame of `need` bytes is to be built: 5 with less room than that, and the record is the old one; else 1, and it is `after`.
unfoldable pub framing : (guest after : Guest) (need room : ℕ) (image : List ℕ) → Outcome
framing guest after need room image = record { writing = fitting need room image; guest = cond (nat_lt room need) guest after }
