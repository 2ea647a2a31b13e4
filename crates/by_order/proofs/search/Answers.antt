use Rattle.std.proofs.lemmas.Result.{err_from_is_err_and}
use Rattle.by_order.proofs.Calls.{search_refused, search_no_scalar, search_found}
use Rattle.by_order.proofs.search.Goals as goal

pub returns-in_err-in_order : goal.returns-in_err-in_order
returns-in_err-in_order c =
    let p = err_from_is_err_and c.from_residual.result c.from_residual.ensures.1 in
    rw (p.1, p.2) (search_refused _ _ c.in_err-in_order.ensures.tests _)

pub returns-then-not-is_scalar : goal.returns-then-not-is_scalar
returns-then-not-is_scalar c =
    rw c.into.ensures (search_no_scalar _ _ _ c.in_ok-in_order.ensures.tests _ c.if-not-is_scalar.ensures)

pub returns : goal.returns
returns c =
    search_found _ _ _ c.in_ok-in_order.ensures.tests _ c.if-not-is_scalar.ensures c.in_ok-in_order.ensures.lent c.seek.ensures
