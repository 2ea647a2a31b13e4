use Rattle.std.proofs.Common.{rules, sym}
use Rattle.std.proofs.lemmas.Result.{err_from_is_err_and}
use Rattle.table.proofs.Check.{pairs_part}
use Rattle.table.proofs.Lent.{lent_short, lent_fault}
use Rattle.ordered.proofs.Checks.{tests_few, tests_refused, tests_passed, tests_order}
use Rattle.ordered.proofs.test_both.Goals as goal
use Rattle.ordered.proofs.test_both.Goals.{then-order-lt-DEFINITION_LIMIT-via-then-order-lt-DEFINITION_LIMIT}
use Rattle.ordered.proofs.test_both.Goals.{then-order-lt-DEFINITION_LIMIT-via-else-order-lt-DEFINITION_LIMIT+then-words-lt-TABLE_WORDS}

pub returns-then-order-lt-DEFINITION_LIMIT-clause-tests : goal.returns-then-order-lt-DEFINITION_LIMIT-clause-tests
returns-then-order-lt-DEFINITION_LIMIT-clause-tests c =
    rw c.into.ensures (elim c.then-order-lt-DEFINITION_LIMIT.branch [
      | then-order-lt-DEFINITION_LIMIT-via-then-order-lt-DEFINITION_LIMIT w ↦ tests_few _ _ w.if-order-lt-DEFINITION_LIMIT.true
      | then-order-lt-DEFINITION_LIMIT-via-else-order-lt-DEFINITION_LIMIT+then-words-lt-TABLE_WORDS w ↦
          tests_refused _ _ w.if-order-lt-DEFINITION_LIMIT.false (lent_short _ w.if-words-lt-TABLE_WORDS.true)
    ])

pub slice_bounds-count_pairs-end : goal.slice_bounds-count_pairs-end
slice_bounds-count_pairs-end c = search (pairs_part, rules)

pub count_pairs-count-requires : goal.count_pairs-count-requires
count_pairs-count-requires c = search pairs_part

pub returns-in_err-lent_table-clause-tests : goal.returns-in_err-lent_table-clause-tests
returns-in_err-lent_table-clause-tests c =
    let p = err_from_is_err_and c.from_residual.result c.from_residual.ensures.1 in
    rw (p.1, p.2) (tests_refused _ _ c.if-order-lt-DEFINITION_LIMIT.false (sym c.in_err-lent_table.ensures.definitions))

pub returns-then-not-is_rising-clause-tests : goal.returns-then-not-is_rising-clause-tests
returns-then-not-is_rising-clause-tests c =
    rw c.into-then-not-is_rising.ensures
    (tests_order _ _ c.if-order-lt-DEFINITION_LIMIT.false c.if-words-lt-TABLE_WORDS.false _ c.count_pairs-count.ensures.is c.if-not-is_rising.ensures
    _ c.in_ok-lent_table.ensures.definitions)

pub returns-in-Ok-clause-tests : goal.returns-in-Ok-clause-tests
returns-in-Ok-clause-tests c =
    tests_passed _ _ c.if-order-lt-DEFINITION_LIMIT.false c.if-words-lt-TABLE_WORDS.false _ c.count_pairs-count.ensures.is _
    (sym c.in-Ok.ensures) c.if-not-is_rising.ensures

pub returns-in-Err-clause-tests : goal.returns-in-Err-clause-tests
returns-in-Err-clause-tests c =
    tests_refused _ _ c.if-order-lt-DEFINITION_LIMIT.false (lent_fault _ _ c.if-words-lt-TABLE_WORDS.false c.in-Err.ensures (search rules))
