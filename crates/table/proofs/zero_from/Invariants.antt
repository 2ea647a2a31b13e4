use Rattle.pairs.specs.Words.{pair_words}
use Prim.Native.Nat.{◌*◌}
use mathlib.Core.Path.{◌≡◌}
use lib.ListN.{length, drop}
use Rattle.table.specs.Check.{zero_from}
use Rattle.table.proofs.zero_from.Given as goal

-- The pairs from `from` to i are zero, so those from i on decide.
abbrev pub invariant-loop-i : goal.invariant-loop-i
invariant-loop-i l = (length l.words ≡ pair_words) × (zero_from l.count l.i (drop (2 * l.i) l.words) ≡ zero_from l.count l.from (drop (2 * l.from) l.words))
