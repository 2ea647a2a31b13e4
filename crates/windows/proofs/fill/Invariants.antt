use Rattle.std.proofs.Common.{ℕ, map}
use Rattle.definitions.specs.Definitions.{table}
use Rattle.rules.specs.Internal.{lookup_by}
use Rattle.windows.specs.Internal.{Filled}
use Rattle.windows.proofs.fill.Given as goal

-- Both outputs are filled with the windows before this one.
abbrev pub invariant-loop-w : goal.invariant-loop-w
invariant-loop-w g l =
    Filled (λ (x : ℕ). (lookup_by l.by.charset (table (g.T.Finder.definitions l.by.finder)) l.by.last x).cell) l.page
    (map g.W.AsWindow.window l.windows) l.initial.cells l.w-index l.at l.cells
    × Filled (λ (x : ℕ). (lookup_by l.by.charset (table (g.T.Finder.definitions l.by.finder)) l.by.last x).rule) l.page
    (map g.W.AsWindow.window l.windows) l.initial.rules l.w-index l.at l.rules
