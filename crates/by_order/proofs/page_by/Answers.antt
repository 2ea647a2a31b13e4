use Rattle.std.proofs.Common.{arith}
use Rattle.std.proofs.lemmas.Result.{err_from_is_err_and}
use Rattle.by_order.proofs.Calls.{page_short, page_refused, page_no_scalar, page_shown}
use Rattle.by_order.proofs.page_by.Goals as goal

pub returns-then-cells-characters : goal.returns-then-cells-characters
returns-then-cells-characters c = rw c.into.ensures (page_short _ _ _ _ _ c.then-cells-characters.either)

pub returns-in_err-in_order : goal.returns-in_err-in_order
returns-in_err-in_order c =
    let p = err_from_is_err_and c.from_residual.result c.from_residual.ensures.1 in
    rw (p.1, p.2) (page_refused _ _ c.in_err-in_order.ensures.tests _ _ _ (omega arith) (omega arith))

pub returns-in-Some : goal.returns-in-Some
returns-in-Some c =
    page_no_scalar _ _ _ c.in_ok-in_order.ensures.tests _ _ _ c.first_no_scalar.ensures (omega arith) (omega arith) _ c.in-Some.is

pub returns : goal.returns
returns c =
    page_shown _ _ _ c.in_ok-in_order.ensures.tests _ _ _ c.first_no_scalar.ensures (omega arith) (omega arith) c.in_default.is c.in_ok-in_order.ensures.lent.0
    c.fill_by.ensures.cells c.fill_by.ensures.rules
