use Rattle.std.proofs.Common.{rules}
use Rattle.codes.proofs.WholeTables.{cells_more}
use Rattle.codes.proofs.put_cells.Goals as goal

pub loop-byte-preserved : goal.loop-byte-preserved
loop-byte-preserved c = (search rules, search cells_more)
