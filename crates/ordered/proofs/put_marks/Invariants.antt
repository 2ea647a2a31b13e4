use Rattle.ordered.specs.Internal.{Marks}
use Rattle.ordered.proofs.put_marks.Given as goal

-- The characters of the first k pairs have their marks.
abbrev pub invariant-loop-k : goal.invariant-loop-k
invariant-loop-k l = Marks l.words l.k l.marks
