use Rattle.std.proofs.Common.{rules}
use Rattle.attributes.proofs.Cells.{sum_raised, sum_down, sum_over}
use Rattle.attributes.proofs.cell_by.Goals as goal
use Rattle.attributes.proofs.cell_by.Goals.{then-is_raised, else-is_raised}

pub loop-i-preserved : goal.loop-i-preserved
loop-i-preserved c = (search rules, elim c.if-is_raised.branch [ then-is_raised w ↦ search sum_raised | else-is_raised w ↦ search sum_down ])

pub returns : goal.returns
returns c = search sum_over
