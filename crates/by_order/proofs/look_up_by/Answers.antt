use Rattle.std.proofs.lemmas.Result.{err_from_is_err_and}
use Rattle.lookup.proofs.WholeWalks.{lent_links}
use Rattle.by_order.proofs.Calls.{look_refused, look_no_scalar, look_plain, look_answered}
use Rattle.by_order.proofs.look_up_by.Goals as goal

pub returns-in_err-in_order-clause-answer : goal.returns-in_err-in_order-clause-answer
returns-in_err-in_order-clause-answer c =
    let p = err_from_is_err_and c.from_residual.result c.from_residual.ensures.1 in
    rw (p.1, p.2) (look_refused _ _ c.in_err-in_order.ensures.tests _)

pub returns-then-not-is_scalar-clause-answer : goal.returns-then-not-is_scalar-clause-answer
returns-then-not-is_scalar-clause-answer c =
    rw c.into.ensures (look_no_scalar _ _ _ c.in_ok-in_order.ensures.tests _ c.if-not-is_scalar.ensures)

pub returns-clause-answer : goal.returns-clause-answer
returns-clause-answer c =
    look_answered _ _ _ c.in_ok-in_order.ensures.tests _ c.if-not-is_scalar.ensures c.in_ok-in_order.ensures.lent.0 c.answer_in.ensures

pub returns-clause-links : goal.returns-clause-links
returns-clause-links c =
    lent_links _ _ (look_plain _ _ _ c.in_ok-in_order.ensures.tests _ c.if-not-is_scalar.ensures c.in_ok-in_order.ensures.lent.0 c.answer_in.ensures)
