use Rattle.definitions.specs.Definitions.{table}
use Rattle.rules.specs.Internal.{lookup_by}
use Rattle.by_order.proofs.Kept.{kept_more}
use Rattle.by_order.proofs.Memory.recall.Goals as goal

pub invariant_of-self : goal.invariant_of-self
invariant_of-self g c =
    let memory = c.args.self.now in
    let by = memory.by in
    let look = lookup_by by.charset (table (g.T.Finder.definitions by.finder)) by.last in
    record { right = kept_more look memory.right c.slot_of-slot.result c.shown_by-shown.ensures }
