use Rattle.lines.specs.Internal.{lines_left}
use Rattle.compiler.proofs.Call.{Come}
use Rattle.compiler.proofs.read_lines.Given as goal

-- What the lines that are left give from the words and the state.
abbrev pub invariant-loop-line : goal.invariant-loop-line
invariant-loop-line l = Come l.text l.initial.words l.words l.state (lines_left l.line-iterator)
