use Rattle.std.proofs.Common.{rules}
use Rattle.writing.proofs.Numerals.{raised_more, raised_all}
use Rattle.writing.proofs.raised_digits.Goals as goal

pub loop-digit-preserved : goal.loop-digit-preserved
loop-digit-preserved c = (search rules, search rules, search rules, search (raised_more, c.from-count.ensures, rules))

pub returns : goal.returns
returns c = raised_all _ _ _ _ _ c.loop-digit.invariant.3 (search rules)
