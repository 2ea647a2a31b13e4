use Rattle.std.proofs.Common.{rules, refl}
use Rattle.table.proofs.Check.{pairs_part, check_whole}
use Rattle.ordered.specs.Internal.{slots}
use Rattle.ordered.proofs.Finds.{marked_everywhere}
use Rattle.ordered.proofs.Checks.{pairs_ordered}
use Rattle.ordered.proofs.check_by.Goals as goal

pub slice_bounds-pairs-end : goal.slice_bounds-pairs-end
slice_bounds-pairs-end c = search (pairs_part, rules)

pub invariant_of-pairs : goal.invariant_of-pairs
invariant_of-pairs c =
    record { ordered = pairs_ordered _ _ _ c.requires.long c.requires.few c.args.in_order.now.ordered }

pub invariant_of-all : goal.invariant_of-all
invariant_of-all c = record { marked = marked_everywhere _ _ slots refl; within = search rules }

pub check_pairs-checked-requires-clause-size : goal.check_pairs-checked-requires-clause-size
check_pairs-checked-requires-clause-size c = search pairs_part

pub returns : goal.returns
returns c = search check_whole
