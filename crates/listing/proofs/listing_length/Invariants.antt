use Rattle.std.proofs.Common.{◌+◌, ◌*◌, ◌≤◌, ◌≡◌, length, map, drop}
use Rattle.pairs.specs.Words.{definition_row, definitions}
use Rattle.listing.specs.Listing.{listing}
use Rattle.listing.proofs.listing_length.Given as goal

-- the lines of the rows before are counted, 28 bytes each at most
abbrev pub invariant-loop-row : goal.invariant-loop-row
invariant-loop-row l =
    (l.sum ≤ 28 * l.row-index)
    × (length (listing (definitions l.fn.pairs.count l.fn.pairs.words.now)) ≡ l.sum + length (listing (map definition_row (drop l.row-index l.row-items))))
