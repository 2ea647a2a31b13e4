use Rattle.std.proofs.Common.{rules, not, ◌∙◌}
use Rattle.std.proofs.lemmas.Iterator.{YieldsList-from_slice}
use Rattle.std.proofs.lemmas.Iterator.Search.{position_from_yields_List}
use Rattle.std.proofs.lemmas.Iterator.Adapters.{position_from-zero}
use Rattle.windows.specs.Windows.{is_within}
use Rattle.windows.proofs.Lists.{first_beyond}
use Rattle.windows.proofs.first_beyond.Goals as goal

pub returns : goal.returns
returns g c =
    let is_beyond = λ (x : g.row.W.Denot). not (is_within c.args.page (g.W.AsWindow.window x)) in
    rw (position_from_yields_List is_beyond _ _ c.position.result c.position.ensures.ran (YieldsList-from_slice _ c.iter.ensures.rest) (λ x b q k. search rules)
    ∙ position_from-zero is_beyond c.args.windows.now)
    (first_beyond g.W.AsWindow.window c.args.page c.args.windows.now 0)
