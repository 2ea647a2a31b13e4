use Rattle.std.proofs.Common.{rules, refl}
use Rattle.pairs.specs.Words.{table_of}
use Rattle.ordered.specs.Internal.{slots}
use Rattle.ordered.proofs.Finds.{marked_everywhere}
use Rattle.by_order.proofs.Calls.{by_own}
use Rattle.by_order.proofs.answer_in.Goals as goal

pub invariant_of-finder : goal.invariant_of-finder
invariant_of-finder c = record { marked = marked_everywhere _ _ slots refl; within = search rules }

pub returns : goal.returns
returns c =
    let o = c.args.in_order.now in
    by_own o.words.now (table_of o.count o.words.now) c.charset_of.ensures c.args.c (rw c.new-by.ensures at c.answer_of.ensures)
