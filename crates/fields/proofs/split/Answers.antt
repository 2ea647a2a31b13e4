use Rattle.std.proofs.Common.{◌+◌, sym, ap, ◌∙◌, take, drop, arith}
use Rattle.std.proofs.lemmas.List.{take_all, take_rest}
use lib.ListN.{drop_of_length-le}
use Rattle.fields.specs.Fields.{trimmed}
use Rattle.fields.proofs.Fields.{mark_at, mark_none}
use Rattle.fields.proofs.split.Goals as goal

pub returns-in-Some-clause-field : goal.returns-in-Some-clause-field
returns-in-Some-clause-field c =
    let end = mark_at c.args.mark c.args.line.now c.in-Some.end (sym c.mark_place.ensures ∙ c.in-Some.is) in
    c.without_blanks.ensures ∙ ap (λ n. trimmed (take n c.args.line.now)) (sym end)

pub returns-in-Some-clause-behind : goal.returns-in-Some-clause-behind
returns-in-Some-clause-behind c =
    let end = mark_at c.args.mark c.args.line.now c.in-Some.end (sym c.mark_place.ensures ∙ c.in-Some.is) in
    take_rest c.args.line.now (c.in-Some.end + 1) ∙ ap (λ n. drop (n + 1) c.args.line.now) (sym end)

pub returns-in-None-clause-field : goal.returns-in-None-clause-field
returns-in-None-clause-field c =
    let past = mark_none c.args.mark c.args.line.now (sym c.mark_place.ensures ∙ c.in-None.is) in
    c.without_blanks-in-None.ensures ∙ ap trimmed (sym (take_all _ c.args.line.now past))

pub returns-in-None-clause-behind : goal.returns-in-None-clause-behind
returns-in-None-clause-behind c =
    let past = mark_none c.args.mark c.args.line.now (sym c.mark_place.ensures ∙ c.in-None.is) in
    sym (drop_of_length-le c.args.line.now (omega (arith, past)))
