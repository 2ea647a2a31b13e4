use Rattle.std.proofs.Common.{rules, leb}
use Rattle.std.proofs.lemmas.Iterator.{YieldsList-from_slice}
use Rattle.std.proofs.lemmas.Iterator.Search.{position_from_yields_List}
use borrow.Author.Tests.{tests}
use Rattle.utf8.proofs.Utf8.{ascii_first}
use Rattle.utf8.proofs.after_ascii.Goals as goal

pub returns : goal.returns
returns c =
    ascii_first _ _ _ _ c.requires c.unwrap_or.ensures
    (position_from_yields_List (λ b. leb 0x80 b) _ _ c.position.result c.position.ensures.ran (YieldsList-from_slice _ c.iter.ensures.rest)
    (λ x b q k. search (rules, tests)))
