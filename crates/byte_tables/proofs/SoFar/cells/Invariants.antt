use Rattle.std.proofs.Common.{◌≡◌, ℕ, ◌<◌, None, length, get_or}
use Rattle.byte_tables.specs.Compile.{shown_by}
use Rattle.byte_tables.proofs.SoFar.cells.Given as goal

-- the cells of the bytes so far are written
abbrev pub invariant-loop-byte : goal.invariant-loop-byte
invariant-loop-byte l = (length l.cells ≡ 256) × ((k : ℕ) → k < l.byte → get_or l.cells k 0 ≡ shown_by l.places (get_or l.self.slots k None) k)
