use Rattle.std.proofs.Common.{◌+◌, ◌≤◌, ◌≡◌, length, map, drop}
use Rattle.std.proofs.lemmas.List.Edits.{sets}
use Rattle.pairs.specs.Words.{definition_row, definitions}
use Rattle.listing.specs.Listing.{listing}
use Rattle.listing.proofs.put_listing.Given as goal

-- the lines of the rows that are left are to be put, and have room
abbrev pub invariant-loop-row : goal.invariant-loop-row
invariant-loop-row l =
    (length l.buffer ≡ length l.initial.buffer)
    × (l.at + length (listing (map definition_row (drop l.row-index l.row-items))) ≤ length l.buffer)
    × (sets l.buffer l.at (listing (map definition_row (drop l.row-index l.row-items))) ≡ sets l.initial.buffer 0
    (listing (definitions l.fn.pairs.count l.fn.pairs.words.now)))
