use Rattle.std.proofs.Common.{◌≡◌, is_some, map, drop}
use Rattle.definitions.specs.Definitions.{typed_in}
use Rattle.pairs.specs.Words.{definition_row, definitions}
use Rattle.reader.specs.Conditions.{has_cell}
use Rattle.reader.proofs.Context.has_cell.Given as goal

-- What the definitions of the rows that are left say of the cell is what all say.
abbrev pub invariant-loop-row : goal.invariant-loop-row
invariant-loop-row l =
    has_cell (definitions l.self.pairs.count l.self.pairs.words.now) l.cell
    ≡ is_some (typed_in (map definition_row (drop l.row-index l.row-items)) l.cell)
