use Rattle.std.proofs.Common.{◌≡◌, ◌*◌, drop}
use Rattle.ordered.specs.Internal.{pairs_from}
use Rattle.ordered.proofs.count_pairs.Given as goal

-- The pairs before k are not zero.
abbrev pub invariant-loop-k : goal.invariant-loop-k
invariant-loop-k l = pairs_from 0 l.words ≡ pairs_from l.k (drop (2 * l.k) l.words)
