use Rattle.std.proofs.Common.{◌≤◌, ◌-◌, ◌≡◌, length}
use Rattle.definitions.specs.Definitions.{table, alias_of, walk_within, walk}
use Rattle.pairs.proofs.Walks.{after}
use Rattle.pairs.proofs.walk_from.Given as goal

-- So many links lead from the character to `end`, and the walk of `end` is the rest of that of the character.
abbrev pub invariant-loop-links : goal.invariant-loop-links
invariant-loop-links g l =
    (l.links ≤ length (g.T.Finder.definitions l.finder))
    × (walk (table (g.T.Finder.definitions l.finder)) l.character ≡ after l.links
    (walk_within (alias_of (table (g.T.Finder.definitions l.finder))) (length (g.T.Finder.definitions l.finder) - l.links) l.end))

abbrev pub decreases-loop-links : goal.decreases-loop-links
decreases-loop-links g l = length (g.T.Finder.definitions l.finder) - l.links
