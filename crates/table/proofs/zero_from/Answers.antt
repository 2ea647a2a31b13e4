use Rattle.std.proofs.lemmas.List.{take_rest}
use Rattle.basics.proofs.Tests.{chosen}
use borrow.Author.Tests.{not-true, not-false}
use borrow.Author.Rules.{rules}
use mathlib.Core.Path.{refl}
use Rattle.table.proofs.Check.{no_bits, zero_next, zero_over}
use Rattle.table.proofs.zero_from.Goals as goal

pub returns-then-bits_of-eq0 : goal.returns-then-bits_of-eq0
returns-then-bits_of-eq0 c = no_bits _ _ _ _ (rw take_rest at c.bits_of.ensures) c.if-bits_of-eq0.true

pub loop-i-init : goal.loop-i-init
loop-i-init c = (search rules, refl)

pub returns-then-not-is_zero_pair : goal.returns-then-not-is_zero_pair
returns-then-not-is_zero_pair c = search (zero_next, chosen, not-true)

pub loop-i-preserved : goal.loop-i-preserved
loop-i-preserved c = (search rules, search (zero_next, chosen, not-false))

pub returns : goal.returns
returns c = search zero_over
