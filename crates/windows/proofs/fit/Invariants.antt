use Rattle.std.proofs.Common.{◌≡◌, map, drop, leb}
use Rattle.windows.specs.Windows.{widths}
use Rattle.windows.proofs.fit.Given as goal

-- The windows that follow have to fit what is left of the room.
abbrev pub invariant-loop-w : goal.invariant-loop-w
invariant-loop-w g l =
    leb (widths (map g.W.AsWindow.window l.windows)) l.room ≡ leb (widths (drop l.w-index (map g.W.AsWindow.window l.windows))) l.left
