use Rattle.std.proofs.Common.{◌≡◌, length}
use Rattle.attributes.specs.Cells.{cell_by}
use Rattle.attributes.proofs.Cells.{Summed}
use Rattle.attributes.proofs.cell_by.Given as goal

-- the weights of the raised dots below i are summed
abbrev pub invariant-loop-i : goal.invariant-loop-i
invariant-loop-i l = (length l.state-items ≡ 8) × Summed (cell_by l.unnamed l.state-items l.byte) l.unnamed l.state-items l.byte l.cell l.i
