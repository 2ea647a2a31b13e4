use Rattle.ordered.proofs.Checks.{Checking}
use Rattle.ordered.proofs.check_pairs.Given as goal

abbrev pub invariant-loop-k : goal.invariant-loop-k
invariant-loop-k l = Checking l.words l.count l.k
