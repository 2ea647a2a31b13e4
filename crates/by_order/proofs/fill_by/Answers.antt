use Rattle.pairs.specs.Words.{table_of}
use Rattle.by_order.proofs.Calls.{own_cells, own_rules}
use Rattle.by_order.proofs.Kept.{kept_first}
use Rattle.by_order.proofs.fill_by.Goals as goal

pub invariant_of-memory : goal.invariant_of-memory
invariant_of-memory c = record { right = kept_first _ c.shown_by-first.ensures 4096 }

pub returns-clause-cells : goal.returns-clause-cells
returns-clause-cells c =
    let o = c.args.in_order.now in
    own_cells o.words.now (table_of o.count o.words.now) c.charset_of.ensures c.args.characters.now c.args.cells.now
    (rw c.new-by.ensures at c.fill_kept.ensures.cells)

pub returns-clause-rules : goal.returns-clause-rules
returns-clause-rules c =
    let o = c.args.in_order.now in
    own_rules o.words.now (table_of o.count o.words.now) c.charset_of.ensures c.args.characters.now c.args.rules.now
    (rw c.new-by.ensures at c.fill_kept.ensures.rules)
