-- What the code knows beyond the rules: the positions that the readers of operands answer.
use Rattle.std.specs.Prelude.{ℕ, ◌≤◌, Result, MatchResult}
use Rattle.lines.specs.declared.LineFault.{LineFault}
use Rattle.lines.specs.declared.Parsed.{Parsed}

-- a position that is answered lies within so many bytes
abbrev pub OperandWithin : Result (Parsed ℕ) LineFault → ℕ → Type 0
OperandWithin r n = MatchResult r (λ p. p.after ≤ n) (λ fault. fault.left ≤ n)
