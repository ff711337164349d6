-- `read_full`: a read puts its bytes behind those before it.
use Rattle.std.proofs.Common.{◌≡◌, ℕ, ◌+◌, ◌≤◌, List, ◌++◌, length, take, ap, subst, sym, ◌∙◌, length-take-le, rules}
use borrow.Rule.Slice.PartMut.{put_mid, post_of}
use lib.Seq.{take-append-le, take-append-add}
use Rattle.std.specs.Io.KnownBytes.{Consumes}
use Rattle.std.proofs.KnownBytes.{Consumes-trans}
use Rattle.input.proofs.full.read_full.Goals as goal

-- of a buffer with `ys` put in at `a`, the first bytes up to and with `n` of `ys`
joined : (a k n : ℕ) (xs ys : List ℕ) → a ≤ length xs → n ≤ length ys → take (a + n) (put_mid a k xs ys) ≡ take a xs ++ take n ys
joined a k n xs ys inside there =
    ap (λ m. take (m + n) (put_mid a k xs ys)) (sym (length-take-le a xs inside))
    ∙ take-append-add (take a xs) (ys ++ post_of a k xs) n
    ∙ ap (λ l. take a xs ++ l) (take-append-le n ys (post_of a k xs) there)

pub loop-done-preserved : goal.loop-done-preserved
loop-done-preserved g c =
    let l = c.loop-done in
    let there = c.in_ok-n.ensures.bound.0 in (
      search rules,
      subst (Consumes (g.R.Read.remaining c.args.from.now) (g.R.Read.remaining c.read.new.self))
          (sym (joined l.done _ c.in_ok-n.n l.out c.read.new.buf l.invariant.0 there))
          (Consumes-trans _ _ _ _ _ l.invariant.1 c.in_ok-n.ensures.bytes.0),
    )
