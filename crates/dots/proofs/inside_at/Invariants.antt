use Rattle.std.proofs.Common.{◌≡◌, drop}
use Rattle.dots.specs.Dots.{inside_at}
use Rattle.dots.proofs.inside_at.Given as goal

-- what is inside from i on, with the dots raised before it, answers what all of it answers
abbrev pub invariant-loop-i : goal.invariant-loop-i
invariant-loop-i l = inside_at (drop l.i l.line) l.i l.cell ≡ inside_at (drop l.at l.line) l.at 0
