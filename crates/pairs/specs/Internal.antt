-- What the code knows beyond the rules: a walk with the explicit cell of its end.
use Rattle.std.specs.Prelude.{ℕ}
use Rattle.definitions.specs.Definitions.{Table, walk, explicit}
use Rattle.pairs.specs.declared.Walked.{Walked}

abbrev pub walk_with_cell : Table → ℕ → Walked
walk_with_cell T c = record { end = (walk T c).end; links = (walk T c).links; cell = explicit T (walk T c).end }
