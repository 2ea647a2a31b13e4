use Rattle.std.proofs.Common.{◌≤◌, length}
use Rattle.fields.proofs.decode.Given as goal

-- what was put is within the slice
abbrev pub invariant-loop-piece : goal.invariant-loop-piece
invariant-loop-piece l = l.n ≤ length l.out

abbrev pub decreases-loop-piece : goal.decreases-loop-piece
decreases-loop-piece l = length l.rest
