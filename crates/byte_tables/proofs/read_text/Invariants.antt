use Rattle.std.proofs.Common.{◌+◌, ◌≤◌}
use Rattle.lines.specs.Texts.{text_limit}
use Rattle.lines.proofs.Texts.{Gives, left_count}
use Rattle.byte_tables.specs.Compile.{step, compiled_bytes}
use Rattle.byte_tables.proofs.read_text.Given as goal

-- what the lines that are left give from what those so far left; a line names one dot or one byte at most
abbrev pub invariant-loop-i : goal.invariant-loop-i
invariant-loop-i l =
    Gives (step l.charset) (compiled_bytes l.charset l.text) l.i-iterator l.table
    × l.table.dots.lines + left_count l.i-iterator ≤ text_limit
    × l.table.count + left_count l.i-iterator ≤ text_limit
