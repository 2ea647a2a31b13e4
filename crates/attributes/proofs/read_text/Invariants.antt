use Rattle.std.proofs.Common.{◌+◌, ◌≤◌}
use Rattle.lines.specs.Texts.{text_limit}
use Rattle.lines.proofs.Texts.{Gives, left_count}
use Rattle.attributes.specs.Compile.{dot_step, compiled_attributes}
use Rattle.attributes.proofs.read_text.Given as goal

-- what the lines that are left give from the states so far; a line names one dot at most
abbrev pub invariant-loop-i : goal.invariant-loop-i
invariant-loop-i l = Gives dot_step (compiled_attributes l.text) l.i-iterator l.states × l.states.lines + left_count l.i-iterator ≤ text_limit
