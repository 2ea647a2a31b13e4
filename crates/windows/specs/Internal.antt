-- What the code knows beyond the rules: two numbers as a window, and an output that is filled window by window.
use Rattle.std.specs.Prelude.{ℕ, ◌≡◌, ◌+◌, ◌≤◌, List, ◌++◌, map, length, get_or, drop}
use Rattle.basics.specs.Refusals.{answered}
use Rattle.basics.specs.Buffers.{over}
use Rattle.windows.specs.declared.Window.{Window}
use Rattle.windows.specs.Windows.{parts_of, widths, all_within}

-- the window that two numbers are
abbrev pub pair_window : List ℕ → Window
pair_window pair = record { start = get_or pair 0 0; width = get_or pair 1 0 }

-- what an output holds where `at` bytes of it are written: the windows before number i, as f shows their characters.
-- The others lie within the page, and there is room for them
pub record Filled (f : ℕ → ℕ) (page : List ℕ) (ws : List Window) (old : List ℕ) (i at : ℕ) (now : List ℕ)
    : Type 0 where
  pub written : List ℕ
  pub long : length written ≡ at
  pub bytes : now ≡ over written old
  pub rest : written ++ map f (parts_of page (drop i ws)) ≡ map f (parts_of page ws)
  pub within : all_within (length page) (drop i ws) i ≡ answered tt
  pub room : at + widths (drop i ws) ≤ length old
