use Rattle.std.proofs.Common.{arith}
use Rattle.std.proofs.lemmas.Result.{err_from_is_err_and}
use Rattle.by_order.proofs.Calls.{few, distinct, builds_few, builds_refused, builds_order}
use Rattle.by_order.proofs.build_order.Goals as goal

pub returns-then-order-lt-DEFINITION_LIMIT : goal.returns-then-order-lt-DEFINITION_LIMIT
returns-then-order-lt-DEFINITION_LIMIT c = rw c.into.ensures (builds_few _ _ c.if-order-lt-DEFINITION_LIMIT.true)

pub returns-in_err-count : goal.returns-in_err-count
returns-in_err-count c =
    let p = err_from_is_err_and c.from_residual.result c.from_residual.ensures.1 in
    rw (p.1, p.2) (builds_refused _ _ c.if-order-lt-DEFINITION_LIMIT.false _ c.in_err-count.ensures.definitions)

-- what is known of the table that was lent, at the words that were passed
pub put_in_order-requires-clause-few : goal.put_in_order-requires-clause-few
put_in_order-requires-clause-few c =
    let lent = c.in_ok-count.field-0 in
    let same = c.in_ok-count.ensures.words in
    few _ _ (rw same at lent.fits) (rw same at c.in_ok-count.ensures.definitions)

pub put_in_order-requires-clause-room : goal.put_in_order-requires-clause-room
put_in_order-requires-clause-room c =
    let lent = c.in_ok-count.field-0 in
    let same = c.in_ok-count.ensures.words in
    omega (arith, few _ _ (rw same at lent.fits) (rw same at c.in_ok-count.ensures.definitions))

pub put_in_order-requires-clause-distinct : goal.put_in_order-requires-clause-distinct
put_in_order-requires-clause-distinct c =
    let lent = c.in_ok-count.field-0 in
    let same = c.in_ok-count.ensures.words in
    distinct _ _ (rw same at lent.fits) (rw same at c.in_ok-count.ensures.definitions)

pub returns : goal.returns
returns c =
    let lent = c.in_ok-count.field-0 in
    let same = c.in_ok-count.ensures.words in
    builds_order _ _ c.if-order-lt-DEFINITION_LIMIT.false _ (rw same at lent.fits) (rw same at c.in_ok-count.ensures.definitions) c.put_in_order.ensures
