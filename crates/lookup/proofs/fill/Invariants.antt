use Rattle.std.proofs.Common.{ℕ, ◌≡◌}
use Rattle.definitions.specs.Definitions.{table}
use Rattle.rules.specs.Internal.{lookup_by}
use Rattle.lookup.proofs.Buffers.{filled_to}
use Rattle.lookup.proofs.fill.Given as goal

-- Each buffer is filled up to i.
abbrev pub invariant-loop-i : goal.invariant-loop-i
invariant-loop-i g l =
    (l.cells ≡ filled_to (λ (x : ℕ). (lookup_by l.by.charset (table (g.T.Finder.definitions l.by.finder)) l.by.last x).cell) l.characters l.i l.initial.cells)
    × (l.rules ≡ filled_to (λ (x : ℕ). (lookup_by l.by.charset (table (g.T.Finder.definitions l.by.finder)) l.by.last x).rule) l.characters l.i l.initial.rules)
