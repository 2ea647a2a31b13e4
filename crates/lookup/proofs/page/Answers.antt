use Rattle.std.proofs.Common.{arith}
use Rattle.std.proofs.lemmas.Result.{err_from_is_err_and}
use Rattle.lookup.proofs.Replies.{page_short, page_refused, page_no_scalar, page_filled}
use Rattle.lookup.proofs.page.Goals as goal

pub returns-then-cells-characters : goal.returns-then-cells-characters
returns-then-cells-characters c =
    rw c.into.ensures (page_short _ _ _ _ c.then-cells-characters.either)

pub returns-in_err-pairs : goal.returns-in_err-pairs
returns-in_err-pairs c =
    let p = err_from_is_err_and c.from_residual.result c.from_residual.ensures.1 in
    rw (p.1, p.2) (page_refused _ _ _ _ (omega arith) (omega arith) c.in_err-pairs.ensures.definitions)

pub returns-in-Some : goal.returns-in-Some
returns-in-Some c = page_no_scalar _ _ _ _ (omega arith) (omega arith) _ c.in_ok-pairs.ensures.definitions c.first_no_scalar.ensures c.in-Some.is

pub returns : goal.returns
returns c =
    page_filled _ _ _ _ (omega arith) (omega arith) _ c.in_ok-pairs.ensures.definitions c.first_no_scalar.ensures c.in_default.is c.charset_of.ensures
    (rw c.new-by.ensures at c.fill.ensures.cells)
    (rw c.new-by.ensures at c.fill.ensures.rules)
