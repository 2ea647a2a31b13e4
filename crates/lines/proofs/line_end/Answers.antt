use Rattle.std.proofs.Common.{rules}
use Rattle.std.proofs.lemmas.Iterator.{YieldsList-from_slice}
use Rattle.std.proofs.lemmas.Iterator.Search.{position_from_yields_List}
use borrow.Author.Tests.{tests}
use lib.Dec.{eqb}
use Rattle.lines.specs.Lines.{LF}
use Rattle.lines.proofs.Lines.{lf_first}
use Rattle.lines.proofs.line_end.Goals as goal

pub returns : goal.returns
returns c =
    lf_first _ _ _ _ c.requires c.unwrap_or.ensures
    (position_from_yields_List (λ b. eqb b LF) _ _ c.position.result c.position.ensures.ran (YieldsList-from_slice _ c.iter.ensures.rest)
    (λ x b q k. search (rules, tests)))
