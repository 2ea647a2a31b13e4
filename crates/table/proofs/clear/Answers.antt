use Rattle.std.proofs.Common.{List, ℕ, ◌++◌, ap, ◌∙◌, drop, replicate}
use lib.Seq.{length-take-le}
use Rattle.table.proofs.clear.Goals as goal

pub returns : goal.returns
returns c =
    ap (λ (l : List ℕ). l ++ drop 2050 c.args.words.now)
    (c.fill.ensures.after (λ y e. e) ∙ ap (λ (n : ℕ). replicate n 0) (length-take-le 2050 c.args.words.now c.requires))
