use Rattle.std.proofs.Common.{rules, not}
use Rattle.std.proofs.lemmas.Iterator.{YieldsList-from_slice}
use Rattle.std.proofs.lemmas.Iterator.Search.{position_from_yields_List}
use borrow.Author.Tests.{tests}
use Rattle.lines.specs.Words.{is_blank}
use Rattle.lines.proofs.Words.{word_first, blank_first, word_found}
use Rattle.lines.proofs.next_word.Goals as goal

pub returns : goal.returns
returns c =
    let start =
    word_first _ _ _ _ c.requires c.unwrap_or-before.ensures
    (position_from_yields_List (λ b. not (is_blank b)) _ _ c.position.result c.position.ensures.ran (YieldsList-from_slice _ c.iter.ensures.rest)
    (λ x b q k. search (rules, tests)))
    in
    word_found _ _ _ _ start
    (blank_first _ _ _ _ start.within c.unwrap_or-count.ensures
    (position_from_yields_List is_blank _ _ c.position-2.result c.position-2.ensures.ran (YieldsList-from_slice _ c.iter-2.ensures.rest)
    (λ x b q k. search (rules, tests))))
