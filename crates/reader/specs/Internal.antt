-- What the code knows beyond the rules: where a condition is read and where it ends.
use Rattle.std.specs.Prelude.{ℕ, ◌≤◌, ◌<◌, Result, Ok, Err}
use Rattle.lines.specs.declared.LineFault.{LineFault}
use Rattle.reader.specs.declared.Front.{Front}
use Rattle.reader.specs.declared.Front.TheVariants.{Whole, Condition}

-- a condition is read only where there is room for one, and what follows it lies within the line
abbrev pub FrontWithin : Result Front LineFault → ℕ → ℕ → Type 0
FrontWithin (Err fault) room n = Unit {0}
FrontWithin (Ok (Whole reading)) room n = Unit {0}
FrontWithin (Ok (Condition holds rest)) room n = (0 < room) × (rest ≤ n)
