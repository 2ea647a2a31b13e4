use Rattle.basics.proofs.Tests.{tests}
use Rattle.scalars.specs.Characters.{byte_by}
use Rattle.scalars.proofs.Rows.{next_row, rows_over}
use Rattle.scalars.proofs.byte_by.Goals as goal

pub returns-then-character-c : goal.returns-then-character-c
unfolding byte_by
returns-then-character-c c =
    next_row (λ l. byte_by l c.args.c) c.args.rows.now c.loop-byte.byte-index (0, 0) c.loop-byte.invariant c.loop-byte-test.true (search tests)

pub returns-then-from-c : goal.returns-then-from-c
unfolding byte_by
returns-then-from-c c =
    next_row (λ l. byte_by l c.args.c) c.args.rows.now c.loop-byte.byte-index (0, 0) c.loop-byte.invariant c.loop-byte-test.true
    (let here = rw c.from.ensures at c.if-from-c.true in search tests)

pub loop-byte-preserved : goal.loop-byte-preserved
unfolding byte_by
loop-byte-preserved c =
    next_row (λ l. byte_by l c.args.c) c.args.rows.now c.loop-byte.byte-index (0, 0) c.loop-byte.invariant c.loop-byte-test.true
    (let other = rw c.from.ensures at c.if-from-c.false in search (tests, other, c.if-character-c.false))

pub returns : goal.returns
unfolding byte_by
returns c = rows_over (λ l. byte_by l c.args.c) c.args.rows.now c.loop-byte.byte-index (0, 0) c.loop-byte.invariant c.loop-byte-test.false c.as_byte.ensures
