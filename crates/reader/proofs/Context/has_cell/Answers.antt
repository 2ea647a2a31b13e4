use Rattle.reader.specs.Conditions.{has_cell}
use Rattle.reader.proofs.Conditions.{cell_here, cell_later, cell_none}
use Rattle.reader.proofs.Context.has_cell.Goals as goal

pub loop-row-init : goal.loop-row-init
unfolding has_cell
loop-row-init c = rw c.rows-row-items.ensures.value

pub returns-then-types_cell : goal.returns-then-types_cell
returns-then-types_cell c = search cell_here

pub loop-row-preserved : goal.loop-row-preserved
loop-row-preserved c = search cell_later

pub returns : goal.returns
returns c = search cell_none
