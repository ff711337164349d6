-- What the list and item readers answer, one law for each way their tests end. A list that starts at `at` goes on where its first item ends, so what
-- is answered for the rest is what is to be answered for all of it.
use Prim.Native.Nat.{ℕ, suc, ◌+◌, ◌-◌, ◌≤◌, ◌<◌}
use mathlib.Core.Path.{◌≡◌, refl, ap, sym, subst, ◌∙◌}
use mathlib.Core.Bool.{Bool, true, false}
use mathlib.Core.List.{List, [], ◌∷◌, ◌++◌}
use native.Mathlib.Nat.{pos_of_ne-zero}
use native.Mathlib.Omega.{arith}
use native.Mathlib.Numerals.{add-one}
use lib.Dec.{lit≤}
use lib.ListN.{length, drop, take, replicate, length-drop, drop_of_length-le, take-append-drop}
use lib.Seq.{drop-cons, drop-drop, length-take-le}
use borrow.Author.Tests.{ne_eqb, eqb-false}
use Rattle.std.proofs.Common.{Option, Some, None, if◌then◌else◌}
use Rattle.base.specs.Tells.{Tells}
use Rattle.base.proofs.Lists.{from_on}
use Rattle.std.proofs.lemmas.Option.{none-some, same_Some}
use Rattle.std.proofs.lemmas.List.{ext_get_or, length-replicate, get_or-replicate}
use Rattle.std.proofs.lemmas.List.Elements.{All-replicate}
use Rattle.base.specs.Bytes.{u8_at}
use Rattle.grammar.specs.Grammar.{Item, pad, option, ItemList, END, item, IsList, options53}
use Rattle.dhcp_strict.specs.helpers.AllZero.{AllZero}
use Rattle.dhcp_strict.specs.helpers.Listed.{Gives, before, within, ListGives, Listed}
use Rattle.grammar.proofs.Items.{Starts, ends, pads, opts, starts, list_nil, no_cons, head_same, tail_same}

-- bytes that are all 0 are so many zeros
all_zeros : (s : List ℕ) → AllZero s → s ≡ replicate (length s) 0
all_zeros s z =
    ext_get_or 0 s (replicate (length s) 0) (sym (length-replicate (length s) 0)) (λ i h. z i 0 h ∙ sym (get_or-replicate (length s) i 0 0 h))

zeros_all : (n : ℕ) → AllZero (replicate n 0)
zeros_all n = All-replicate (λ (byte : ℕ). byte ≡ 0) n 0 refl

-- an option at `at`, and the rest of the list behind it
record OptionAt (s : List ℕ) (at len : ℕ) (rest : ItemList) : Type 0 where
  pub inside : at + 2 + len ≤ length s
  pub stated : u8_at s (at + 1) ≡ len
  pub more : IsList (at + 2 + len) (drop (at + 2 + len) s) rest

-- the same answer for two lists that give the same types
step : (s : List ℕ) (at next : ℕ) (seen seen' r : Option ℕ) → ((type : ℕ) → ListGives s at seen type → ListGives s next seen' type)
    → ((type : ℕ) → ListGives s next seen' type → ListGives s at seen type) → Listed s next seen' r → Listed s at seen r
unfolding Listed
step s at next seen seen' None to from h = λ type g. h type (to type g)
step s at next seen seen' (Some n) to from h = from n h

-- no list gives a type
nothing : (s : List ℕ) (at : ℕ) (seen : Option ℕ) → ((type : ℕ) → ListGives s at seen type → ⊥) → Listed s at seen None
unfolding Listed
nothing s at seen h = h

-- a list that ends here gives what was seen
ended : (s : List ℕ) (seen : Option ℕ) (place zeros type : ℕ) → Gives s seen (END place zeros) type → seen ≡ Some type
unfolding options53
ended s seen place zeros type (before e t) = e
ended s seen place zeros type (within e p t v least most) = absurd (no_cons (option p 53 1) [] t)

-- lists with the same options 53 give the same
gives_same : (s : List ℕ) (seen : Option ℕ) (type : ℕ) (a b : ItemList) → options53 a ≡ options53 b → Gives s seen a type → Gives s seen b type
gives_same s seen type a b e (before f t) = before f (sym e ∙ t)
gives_same s seen type a b e (within z p t v least most) = within z p (sym e ∙ t) v least most

-- an option that isn't 53 is none of them
types_other : (place code len : ℕ) → (code ≡ 53 → ⊥) → (rest : ItemList) → options53 (item (option place code len) rest) ≡ options53 rest
unfolding options53
types_other place code len other rest =
    ap (λ (b : Bool). elim b [ true ↦ option place code len ∷ options53 rest | false ↦ options53 rest ]) (ne_eqb code 53 other)

-- an option 53 is the first of them
types_53 : (place code len : ℕ) → code ≡ 53 → (rest : ItemList) → options53 (item (option place code len) rest) ≡ option place 53 len ∷ options53 rest
unfolding options53
types_53 place code len e rest = ap (λ (n : ℕ). options53 (item (option place n len) rest)) e

-- no byte left: no list
pub past : (s : List ℕ) (at : ℕ) (seen : Option ℕ) → length s ≤ at → Listed s at seen None
unfolding ListGives
past s at seen h = nothing s at seen (λ type g. list_nil at g.0 (subst (λ (l : List ℕ). IsList at l g.0) (drop_of_length-le s h) g.1))

abbrev place_of : List Item → ℕ
place_of [] = 0
place_of (pad place ∷ rest) = place
place_of (option place code len ∷ rest) = place

abbrev length_of : List Item → ℕ
length_of [] = 0
length_of (pad place ∷ rest) = 0
length_of (option place code len ∷ rest) = len

module _ (s : List ℕ) (at : ℕ) (seen : Option ℕ) (inside : at < length s) where
  here : drop at s ≡ u8_at s at ∷ drop (at + 1) s
  here = drop-cons s at 0 inside ∙ ap (λ (n : ℕ). u8_at s at ∷ drop n s) (sym (add-one at))

  start : (items : ItemList) → IsList at (drop at s) items → Starts at (u8_at s at) (drop (at + 1) s) items
  start items l = starts at (u8_at s at) (drop (at + 1) s) items (subst (λ (b : List ℕ). IsList at b items) here l)

  -- END
  module _ (end : u8_at s at ≡ 255) where
    ends_here : (items : ItemList) → Starts at (u8_at s at) (drop (at + 1) s) items → (AllZero (drop (at + 1) s) × ((type : ℕ) → Gives s seen items type → seen ≡ Some type))
    ends_here (END place zeros) (ends n e z) = (subst AllZero (sym z) (zeros_all n), ended s seen at n)
    ends_here (item first rest) (pads more e l) = absurd (eqb-false 255 0 refl (sym end ∙ e))
    ends_here (item first rest) (opts len m more least most e short l) = absurd (let no_end : u8_at s at ≤ 254 = most in omega arith)

    end_refused : (AllZero (drop (at + 1) s) → ⊥) → Listed s at seen None
    unfolding ListGives
    end_refused f = nothing s at seen (λ type g. f (ends_here g.0 (start g.0 g.1)).0)

    end_list : AllZero (drop (at + 1) s) → IsList at (drop at s) (END at (length (drop (at + 1) s)))
    unfolding IsList
    end_list z = (refl, here ∙ ap (λ (n : ℕ). n ∷ drop (at + 1) s) end ∙ ap (λ (l : List ℕ). 255 ∷ l) (all_zeros (drop (at + 1) s) z))

    end_taken : AllZero (drop (at + 1) s) → Listed s at seen seen
    unfolding Listed ListGives options53
    end_taken z = answers seen refl
      where
        answers : (r : Option ℕ) → r ≡ seen → Listed s at seen r
        answers None e = λ type g. none-some type (e ∙ (ends_here g.0 (start g.0 g.1)).1 type g.2)
        answers (Some type) e = (END at (length (drop (at + 1) s)), end_list z, before (sym e) refl)

    -- what `zeros` tells of the rest, as the code takes it
    pub end_told : (b : Bool) → Tells b (AllZero (take (length s - (at + 1)) (drop (at + 1) s))) → Listed s at seen (if b then seen else None)
    end_told true z = end_taken (subst AllZero (from_on (at + 1) s) z)
    end_told false f = end_refused (λ z. f (subst AllZero (sym (from_on (at + 1) s)) z))

  -- a pad
  module _ (is-pad : u8_at s at ≡ 0) where
    pads_here : (items : ItemList) (type : ℕ) → Starts at (u8_at s at) (drop (at + 1) s) items → Gives s seen items type → ListGives s (at + 1) seen type
    unfolding ListGives options53
    pads_here (END place zeros) type (ends n e z) g = absurd (eqb-false 255 0 refl (sym e ∙ is-pad))
    pads_here (item first rest) type (pads more e l) g = (more, l, gives_same s seen type (item (pad at) more) more refl g)
    pads_here (item first rest) type (opts len m more least most e short l) g = absurd (let h : 1 ≤ u8_at s at = least in omega arith)

    pad_list : (type : ℕ) → ListGives s (at + 1) seen type → ListGives s at seen type
    unfolding ListGives IsList options53
    pad_list type (rest, l, g) = (item (pad at) rest, (0 ∷ [], drop (at + 1) s, here ∙ ap (λ (n : ℕ). n ∷ drop (at + 1) s) is-pad, (refl, refl), l), gives_same s seen type rest (item (pad at) rest) refl g)

    pub pad_on : (r : Option ℕ) → Listed s (at + 1) seen r → Listed s at seen r
    unfolding ListGives
    pad_on r h = step s at (at + 1) seen seen r (λ type g. pads_here g.0 type (start g.0 g.1) g.2) pad_list h

  -- an option
  module _ (no-pad : u8_at s at ≡ 0 → ⊥) (no_end : u8_at s at ≡ 255 → ⊥) where
    option_of : (len : ℕ) (m : List ℕ) (rest : ItemList) → drop (at + 1) s ≡ len ∷ m → len ≤ length m → IsList (at + 2 + len) (drop len m) rest → OptionAt s at len rest
    option_of len m rest e short l =
        let size : length (drop (at + 1) s) ≡ suc (length m) = ap length e in
        let known = length-drop (at + 1) s in
        let at1 : at + 1 < length s = omega (arith, size, known) in
        let again = sym (drop-cons s (at + 1) 0 at1) ∙ e in
        let m_is : drop (at + 2) s ≡ m = ap (λ (n : ℕ). drop n s) two ∙ tail_same (u8_at s (at + 1)) len (drop (suc (at + 1)) s) m again in
        record {
          inside = omega (arith, size, known, short);
          stated = head_same (u8_at s (at + 1)) len (drop (suc (at + 1)) s) m again;
          more =
              subst (λ (b : List ℕ). IsList (at + 2 + len) b rest) (ap (drop len) (sym m_is) ∙ drop-drop len (at + 2) s) l;
        }
      where
        two : at + 2 ≡ suc (at + 1)
        two = omega arith

    options_here : (items : ItemList) → Starts at (u8_at s at) (drop (at + 1) s) items → (len : ℕ) × (rest : ItemList) × OptionAt s at len rest × (items ≡ item (option at (u8_at s at) len) rest)
    options_here (END place zeros) (ends n e z) = absurd (no_end e)
    options_here (item first rest) (pads more e l) = absurd (no-pad e)
    options_here (item first rest) (opts len m more least most e short l) = (len, more, option_of len m more e short l, refl)

    pub option_cut : (length s ≤ at + 1) → Listed s at seen None
    unfolding ListGives
    option_cut h =
        nothing s at seen (λ type g. let f = (options_here g.0 (start g.0 g.1)).2.inside in omega (arith, f))

    -- what the option behind its code comes to, where its length is there
    module _ (len : ℕ) (stated : u8_at s (at + 1) ≡ len) where
      pub option_over : length s < at + 2 + len → Listed s at seen None
      unfolding ListGives
      option_over h =
          nothing s at seen
          (λ type g.
          let o = options_here g.0 (start g.0 g.1) in
          let f = o.2.inside in
          let same = o.2.stated in
          omega (arith, f, same))

      -- the list behind it, of any list that starts here
      behind : (items : ItemList) → IsList at (drop at s) items → (rest : ItemList) × IsList (at + 2 + len) (drop (at + 2 + len) s) rest × (items ≡ item (option at (u8_at s at) len) rest)
      behind items l =
          let o = options_here items (start items l) in
          let same : o.0 ≡ len = sym o.2.stated ∙ stated in (
            o.1,
            subst (λ (n : ℕ). IsList (at + 2 + n) (drop (at + 2 + n) s) o.1) same o.2.more,
            o.3 ∙ ap (λ (n : ℕ). item (option at (u8_at s at) n) o.1) same,
          )

      -- and the other way
      before_it : at + 2 + len ≤ length s → u8_at s at ≤ 254 → (rest : ItemList) → IsList (at + 2 + len) (drop (at + 2 + len) s) rest
          → IsList at (drop at s) (item (option at (u8_at s at) len) rest)
      unfolding IsList
      before_it fits most rest l =
          let value : List ℕ = take len (drop (at + 2) s) in
          let size : length value ≡ len = length-take-le len (drop (at + 2) s) (omega (arith, length-drop (at + 2) s)) in
          let at1 : at + 1 < length s = omega arith in
          let two : suc (at + 1) ≡ at + 2 = omega arith in
          let tail : drop (at + 1) s ≡ len ∷ drop (at + 2) s =
          drop-cons s (at + 1) 0 at1 ∙ ap (λ (n : ℕ). n ∷ drop (suc (at + 1)) s) stated ∙ ap (λ (n : ℕ). len ∷ drop n s) two
          in
          let parted : drop (at + 2) s ≡ value ++ drop (at + 2 + len) s =
          sym (take-append-drop len (drop (at + 2) s)) ∙ ap (λ (b : List ℕ). value ++ b) (drop-drop len (at + 2) s)
          in
          let there : at + 2 + len ≡ at + suc (suc (length value)) = omega (arith, size) in (
            u8_at s at ∷ len ∷ value,
            drop (at + 2 + len) s,
            here ∙ ap (λ (b : List ℕ). u8_at s at ∷ b) (tail ∙ ap (λ (b : List ℕ). len ∷ b) parted),
            (value, refl, pos_of_ne-zero no-pad, most, size, refl),
            subst (λ (n : ℕ). IsList n (drop (at + 2 + len) s) rest) there l,
          )

      -- another option than 53
      pub other_on : at + 2 + len ≤ length s → u8_at s at ≤ 254 → (u8_at s at ≡ 53 → ⊥) → (r : Option ℕ) → Listed s (at + 2 + len) seen r → Listed s at seen r
      unfolding ListGives
      other_on fits most other r h = step s at (at + 2 + len) seen seen r to from h
        where
          none : (rest : ItemList) → options53 (item (option at (u8_at s at) len) rest) ≡ options53 rest
          none = types_other at (u8_at s at) len other

          to : (type : ℕ) → ListGives s at seen type → ListGives s (at + 2 + len) seen type
          to type g =
              let o = behind g.0 g.1 in
              (o.0, o.1, gives_same s seen type g.0 o.0 (ap options53 o.2 ∙ none o.0) g.2)

          from : (type : ℕ) → ListGives s (at + 2 + len) seen type → ListGives s at seen type
          from type g =
              (item (option at (u8_at s at) len) g.0, before_it fits most g.0 g.1, gives_same s seen type g.0 (item (option at (u8_at s at) len) g.0) (sym (none g.0)) g.2)

      -- option 53
      module _ (is-53 : u8_at s at ≡ 53) where
        first_type : (rest : ItemList) → options53 (item (option at (u8_at s at) len) rest) ≡ option at 53 len ∷ options53 rest
        first_type = types_53 at (u8_at s at) len is-53

        -- what it gives: nothing was seen before it, it has one byte, that gives the type, and none follows
        gives_first : (items rest : ItemList) (type : ℕ) → items ≡ item (option at (u8_at s at) len) rest → Gives s seen items type
            → (seen ≡ None) × (len ≡ 1) × (type ≡ u8_at s (at + 2)) × (1 ≤ type) × (type ≤ 8) × (options53 rest ≡ [])
        gives_first items rest type e (before f t) = absurd (no_cons (option at 53 len) (options53 rest) (sym t ∙ ap options53 e ∙ first_type rest))
        gives_first items rest type e (within z p t v least most) =
            let same = sym (ap options53 e ∙ first_type rest) ∙ t in
            let place_is : at ≡ p = ap (λ (l : List Item). place_of l) same in
            (z, ap (λ (l : List Item). length_of l) same, v ∙ ap (λ (n : ℕ). u8_at s (n + 2)) (sym place_is), least, most, tail_same (option at 53 len) (option p 53 1) (options53 rest) [] same)

        given : (type : ℕ) → ListGives s at seen type → (seen ≡ None) × (len ≡ 1) × (type ≡ u8_at s (at + 2)) × (1 ≤ type) × (type ≤ 8)
        unfolding ListGives
        given type g =
            let o = behind g.0 g.1 in
            let f = gives_first g.0 o.0 type o.2 g.2 in
            (f.0, f.1, f.2, f.3, f.4)

        pub second_type : (seen ≡ None → ⊥) → Listed s at seen None
        second_type f = nothing s at seen (λ type g. f (given type g).0)

        pub type_length : (len ≡ 1 → ⊥) → Listed s at seen None
        type_length f = nothing s at seen (λ type g. f (given type g).1)

        pub type_small : u8_at s (at + 2) ≡ 0 → Listed s at seen None
        type_small h =
            nothing s at seen (λ type g. let e = (given type g).2 in let least = (given type g).3 in omega (arith, h, e, least))

        pub type_large : 8 < u8_at s (at + 2) → Listed s at seen None
        type_large h =
            nothing s at seen (λ type g. let e = (given type g).2 in let most = (given type g).4 in omega (arith, e, most))

        pub type_on : at + 2 + len ≤ length s → seen ≡ None → len ≡ 1 → 1 ≤ u8_at s (at + 2) → u8_at s (at + 2) ≤ 8
            → (r : Option ℕ) → Listed s (at + 2 + len) (Some (u8_at s (at + 2))) r → Listed s at seen r
        unfolding ListGives
        type_on fits z one least most r h = step s at (at + 2 + len) seen (Some (u8_at s (at + 2))) r to from h
          where
            to : (type : ℕ) → ListGives s at seen type → ListGives s (at + 2 + len) (Some (u8_at s (at + 2))) type
            to type g =
                let o = behind g.0 g.1 in
                let f = gives_first g.0 o.0 type o.2 g.2 in
                (o.0, o.1, before (ap Some (sym f.2)) f.5)

            gives : (rest : ItemList) (type : ℕ) → Gives s (Some (u8_at s (at + 2))) rest type → Gives s seen (item (option at (u8_at s at) len) rest) type
            gives rest type (before f t) =
                let e : type ≡ u8_at s (at + 2) = sym (same_Some (u8_at s (at + 2)) type f) in
                within z at (first_type rest ∙ ap (λ (n : ℕ). option at 53 n ∷ options53 rest) one ∙ ap (λ (k : List Item). option at 53 1 ∷ k) t) e (subst (λ (n : ℕ). 1 ≤ n) (sym e) least) (subst (λ (n : ℕ). n ≤ 8) (sym e) most)
            gives rest type (within e p t v l m) = absurd (none-some (u8_at s (at + 2)) (sym e))

            from : (type : ℕ) → ListGives s (at + 2 + len) (Some (u8_at s (at + 2))) type → ListGives s at seen type
            from type g =
                (item (option at (u8_at s at) len) g.0, before_it fits (subst (λ (n : ℕ). n ≤ 254) (sym is-53) (lit≤ tt)) g.0 g.1, gives g.0 type g.2)
