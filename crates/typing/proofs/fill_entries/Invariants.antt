use Rattle.std.proofs.Common.{◌≡◌, map, drop}
use Rattle.pairs.specs.Words.{definition_row, definitions}
use Rattle.typing.specs.Typing.{filled_from, entries_of}
use Rattle.typing.proofs.fill_entries.Given as goal

-- the rows that are left fill the entries up to those of all
abbrev pub invariant-loop-row : goal.invariant-loop-row
invariant-loop-row l =
    filled_from (map definition_row (drop l.row-index l.row-items)) l.entries ≡ entries_of (definitions l.fn.pairs.count l.fn.pairs.words.now)
