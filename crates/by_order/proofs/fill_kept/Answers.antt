use Rattle.std.proofs.Common.{◌∙◌, rules}
use Rattle.definitions.specs.Definitions.{table}
use Rattle.rules.specs.Internal.{lookup_by}
use Rattle.lookup.proofs.Buffers.{filled_more}
use Rattle.by_order.proofs.Kept.{shown_cell, shown_rule}
use Rattle.by_order.proofs.fill_kept.Goals as goal

pub loop-i-preserved : goal.loop-i-preserved
loop-i-preserved g c =
    let by = c.args.memory.now.by in
    let look = lookup_by by.charset (table (g.T.Finder.definitions by.finder)) by.last in
    let so_far = c.loop-i.invariant in
    let shows = rw so_far.same at c.recall-shown.ensures.shows in
    record {
      same = c.recall-shown.ensures.same ∙ so_far.same;
      cells = filled_more _ _ _ _ 0 c.loop-i-test.true (search rules) so_far.cells (shown_cell look shows);
      rules = filled_more _ _ _ _ 0 c.loop-i-test.true (search rules) so_far.rules (shown_rule look shows);
    }
