use Rattle.std.proofs.Common.{◌≡◌, length}
use Rattle.codes.proofs.WholeTables.{cells_to}
use Rattle.codes.proofs.put_cells.Given as goal

-- the cells of the first bytes are written, and the buffer keeps its length
abbrev pub invariant-loop-byte : goal.invariant-loop-byte
invariant-loop-byte l = (length l.cells ≡ length l.initial.cells) × (l.cells ≡ cells_to l.places l.byte l.initial.cells)
