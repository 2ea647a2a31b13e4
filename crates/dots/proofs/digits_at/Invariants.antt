use Rattle.std.proofs.Common.{◌≡◌, drop}
use Rattle.dots.specs.Dots.{digits_at}
use Rattle.dots.proofs.digits_at.Given as goal

-- the digits from i on, with the dots raised before it, answer what all answer
abbrev pub invariant-loop-i : goal.invariant-loop-i
invariant-loop-i l = digits_at (drop l.i l.line) l.i l.cell ≡ digits_at (drop l.at l.line) l.at 0
