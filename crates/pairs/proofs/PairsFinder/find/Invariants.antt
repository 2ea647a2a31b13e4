use Rattle.std.proofs.Common.{◌≡◌, map, drop}
use Rattle.definitions.specs.Definitions.{find}
use Rattle.pairs.specs.Words.{definition_row, definitions}
use Rattle.pairs.proofs.PairsFinder.find.Given as goal

-- No row before has the character.
abbrev pub invariant-loop-row : goal.invariant-loop-row
invariant-loop-row l =
    find (definitions l.self.count l.self.words.now) l.character ≡ find (map definition_row (drop l.row-index l.row-items)) l.character
