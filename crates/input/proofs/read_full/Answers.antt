use Rattle.std.proofs.Common.{◌≡◌, ℕ, ◌+◌, ◌≤◌, List, ◌++◌, Option, length, take, rules, sym, ap, ◌∙◌, subst, length-take-le}
use Rattle.std.specs.Io.KnownBytes.{Consumes}
use Rattle.std.proofs.KnownBytes.{Consumes-trans}
use borrow.Rule.Slice.PartMut.{put_mid, post_of}
use lib.Seq.{take-append-add, take-append-le}
use Rattle.input.proofs.read_full.Goals as goal

-- the bytes before, and those that a read put behind them
reads_more :
    (at room n : ℕ) (xs ys : List ℕ) (old mid new : Option (List ℕ)) → at ≤ length xs → n ≤ length ys
    → Consumes old mid (take at xs) → Consumes mid new (take n ys) → Consumes old new (take (at + n) (put_mid at room xs ys))
reads_more at room n xs ys old mid new within fits p q =
    subst (Consumes old new) (sym front) (Consumes-trans _ _ _ _ _ p q)
  where
    before : List ℕ
    before = take at xs

    behind : List ℕ
    behind = ys ++ post_of at room xs

    front : take (at + n) (put_mid at room xs ys) ≡ take at xs ++ take n ys
    front =
        ap (λ k. take (k + n) (before ++ behind)) (sym (length-take-le at xs within))
        ∙ take-append-add before behind n ∙ ap (λ l. before ++ l) (take-append-le n ys _ fits)

pub loop-at-preserved : goal.loop-at-preserved
loop-at-preserved g c =
    let invariant = c.loop-at.invariant in
    let read = c.in_ok-n.ensures in
    record {
      within = search rules;
      bytes = reads_more _ _ _ _ _ _ _ _ invariant.within read.bound.0 invariant.bytes read.bytes.0;
    }
