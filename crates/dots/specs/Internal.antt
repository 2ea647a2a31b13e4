-- What the code knows beyond the rules: the positions that the readers of dots answer.
use Rattle.std.specs.Prelude.{ℕ, ◌≤◌, Option, IfSome}
use Rattle.lines.specs.declared.Parsed.{Parsed}

-- a position that is answered lies within so many bytes
abbrev pub CellWithin : Option (Parsed ℕ) → ℕ → Type 0
CellWithin o n = IfSome o (λ p. p.after ≤ n)
