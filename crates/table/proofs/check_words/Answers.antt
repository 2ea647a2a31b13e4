use borrow.Author.Rules.{rules}
use native.Mathlib.Omega.{arith}
use Rattle.basics.proofs.Tests.{chosen}
use borrow.Author.Tests.{not-true, not-false}
use Rattle.pairs.proofs.Scan.{scan_later}
use Rattle.table.proofs.Check.{check_start, check_next, check_repeat, check_none, check_over}
use Rattle.table.proofs.check_words.Goals as goal
use Rattle.table.proofs.check_words.Goals.{else-pairs-test, then-pairs-test+else-is_zero_pair+else-not-is_sound_pair+then-loop-row-test+then-row-character}

pub pairs-init : goal.pairs-init
pairs-init c = (search rules, search rules, search check_start)

pub returns-then-is_zero_pair : goal.returns-then-is_zero_pair
returns-then-is_zero_pair c = search (check_next, chosen)

pub returns-then-not-is_sound_pair : goal.returns-then-not-is_sound_pair
returns-then-not-is_sound_pair c = search (check_next, chosen, not-true)

-- the outer invariant is named: `search` takes too many steps to find it here
pub loop-row-init : goal.loop-row-init
loop-row-init c =
    let l = c.pairs in
    (rw c.rows-row-items.ensures.value, check_next _ _ l.invariant.2 l.invariant.1 (omega arith) (search (chosen, not-false)))

pub loop-row-preserved : goal.loop-row-preserved
loop-row-preserved c = (search scan_later, search rules)

pub returns-then-closes_loop : goal.returns-then-closes_loop
returns-then-closes_loop c = search (check_none, chosen)

pub pairs-preserved : goal.pairs-preserved
pairs-preserved c = (search rules, search rules, search (check_none, chosen))

pub returns-then-k-lt-DEFINITION_LIMIT : goal.returns-then-k-lt-DEFINITION_LIMIT
returns-then-k-lt-DEFINITION_LIMIT c =
    elim c.pairs-test.branch [
      | else-pairs-test w ↦ absurd (omega arith)
      | then-pairs-test+else-is_zero_pair+else-not-is_sound_pair+then-loop-row-test+then-row-character w ↦ search check_repeat
    ]

pub returns-else-k-lt-DEFINITION_LIMIT : goal.returns-else-k-lt-DEFINITION_LIMIT
returns-else-k-lt-DEFINITION_LIMIT c = search check_over
