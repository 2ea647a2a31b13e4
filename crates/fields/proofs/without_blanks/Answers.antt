use Rattle.std.proofs.Common.{rules, refl, ◌-◌, length, take}
use Rattle.std.proofs.lemmas.Iterator.{YieldsList-from_slice}
use Rattle.std.proofs.lemmas.Iterator.Adapters.{YieldsList-from_rev_slice}
use Rattle.std.proofs.lemmas.Iterator.Search.{YieldsList-from_take_while}
use Rattle.std.proofs.lemmas.Iterator.Consumers.{count_from_yields_List}
use borrow.Author.Tests.{tests}
use Rattle.lines.specs.Words.{is_blank}
use Rattle.fields.proofs.Fields.{trimmed_kept}
use Rattle.fields.proofs.without_blanks.Goals as goal

pub returns : goal.returns
returns c =
    let front = take (length c.args.field.now - c.count-behind.result) c.args.field.now in
    trimmed_kept c.args.field.now front c.count-behind.result c.count-before.result
    (count_from_yields_List _ _ c.count-behind.ensures.ran
    (YieldsList-from_take_while _ is_blank
    (YieldsList-from_rev_slice c.args.field.now (search rules)) c.take_while.ensures.closure c.take_while.ensures.done (λ x b q k. search (rules, tests))))
    (count_from_yields_List _ _ c.count-before.ensures.ran
    (YieldsList-from_take_while _ is_blank (YieldsList-from_slice front (search rules)) c.take_while-2.ensures.closure c.take_while-2.ensures.done
    (λ x b q k. search (rules, tests))))
    refl
