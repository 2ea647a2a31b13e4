use Prim.Native.Nat.{◌+◌, ◌*◌, ◌≤◌, ◌-◌}
use mathlib.Core.Path.{◌≡◌}
use mathlib.Core.List.{[], map}
use lib.ListN.{length, drop}
use Rattle.definitions.specs.Definitions.{find}
use Rattle.definitions.specs.Effects.{definition_limit}
use Rattle.pairs.specs.Words.{pair_words, definition_of, definition_row, definitions}
use Rattle.table.specs.Check.{check_from}
use Rattle.table.proofs.Check.{if_fresh}
use Rattle.table.proofs.check_words.Given as goal

-- The pair k is sound by itself, and no row before has its character.
abbrev pub invariant-loop-row : goal.invariant-loop-row
invariant-loop-row l =
    (find (definitions l.k l.words) l.character ≡ find (map definition_row (drop l.row-index l.row-items)) l.character)
    × (if_fresh (definitions l.k l.words) (definition_of l.character l.w) l.k
    (check_from (definitions (l.k + 1) l.words) (drop (2 * (l.k + 1)) l.words)) ≡ check_from [] l.words)

-- The pairs before k are definitions; the check of the others behind them is the check of all.
abbrev pub invariant-pairs : goal.invariant-pairs
invariant-pairs l = (l.k ≤ definition_limit) × (length l.words ≡ pair_words)
    × (check_from (definitions l.k l.words) (drop (2 * l.k) l.words) ≡ check_from [] l.words)

abbrev pub decreases-pairs : goal.decreases-pairs
decreases-pairs l = definition_limit - l.k
