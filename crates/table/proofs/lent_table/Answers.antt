use Rattle.std.proofs.Common.{sym}
use Rattle.table.proofs.Lent.{lent_short, lent_fault, lent_sound, lent_fits}
use Rattle.table.proofs.lent_table.Goals as goal

pub returns-then-words-lt-TABLE_WORDS-clause-definitions : goal.returns-then-words-lt-TABLE_WORDS-clause-definitions
returns-then-words-lt-TABLE_WORDS-clause-definitions c = rw c.into.ensures (sym (lent_short _ c.if-words-lt-TABLE_WORDS.true))

pub invariant_of-result : goal.invariant_of-result
invariant_of-result c = record { fits = search lent_fits }

pub returns-in-Ok-clause-definitions : goal.returns-in-Ok-clause-definitions
returns-in-Ok-clause-definitions c = sym (search lent_sound)

pub returns-in-Err-clause-definitions : goal.returns-in-Err-clause-definitions
returns-in-Err-clause-definitions c = sym (search lent_fault)
