-- One line more, and the lines of a text one after another.
use Rattle.std.proofs.Common.{◌≡◌, sym, ℕ, ◌+◌, ◌-◌, ◌≤◌, ◌<◌, List, length, Option, None, Some, Result, Ok, Err, arith}
use borrow.Author.Tests.{lt-ltb}
use Rattle.basics.specs.declared.Refusal.TheVariants.{TextTooLong, LineTooLong}
use Rattle.lines.specs.Lines.{lines_of, without_cr}
use Rattle.lines.specs.Texts.{text_limit, line_limit, opening_of, Step, next, stop, rejected, outcome_column}
use Rattle.lines.specs.Internal.{step_of, lines_left}
use Rattle.lines.specs.declared.LineFault.{LineFault}
use Rattle.std.specs.Iterator.Adapters.{enumerate_source, enumerate_count}
use Rattle.std.specs.declared.iter.Enumerate.{Enumerate}
use Rattle.lines.specs.declared.TextLines.{TextLines}
use Rattle.lines.proofs.Texts.{Gives, left_count, walk_few, walk_first, text_long, run_column}
use Rattle.attributes.specs.Cells.{all_unnamed}
use Rattle.attributes.specs.Compile.{dot_states, read_dot_line, with_dot, with_dot_line, dot_step, compiled_attributes}
use Rattle.attributes.specs.declared.DotStates.{DotStates}
use Rattle.attributes.specs.declared.DotLine.{DotLine}

-- front is a line without its CR, read what was answered of it
module _ (f : DotStates) (line front : List ℕ) (read : Result (Option DotLine) LineFault) (c : front ≡ without_cr line) (e : read ≡ read_dot_line front) where
  step_read : {x : Step DotStates} → x ≡ with_dot_line f read → x ≡ dot_step f (without_cr line)
  unfolding dot_step
  step_read h = rw (← c, ← e) h

  pub line_skip : (o : Option DotLine) → read ≡ Ok o → o ≡ None → next f ≡ dot_step f (without_cr line)
  line_skip o q z = step_read (rw (q, z))

  pub line_fault : (x : Result DotStates LineFault) (fault : LineFault) → read ≡ Err fault → x ≡ Err fault → step_of x ≡ dot_step f (without_cr line)
  line_fault x fault q p = step_read (rw (q, p))

  pub line_dot : (x : Result DotStates LineFault) (o : Option DotLine) (d : DotLine) → read ≡ Ok o → o ≡ Some d → step_of x ≡ with_dot f d
      → step_of x ≡ dot_step f (without_cr line)
  line_dot x o d q z p = step_read (rw (q, z) p)

pub ruleset on_line = (line_fault, line_skip, line_dot)

pub long_text : (text : List ℕ) → text_limit < length text → rejected TextTooLong 0 0 ≡ compiled_attributes text
unfolding compiled_attributes
long_text text h = sym (text_long dot_step (dot_states all_unnamed 0) text h)

pub come_first : (f : DotStates) → f ≡ dot_states all_unnamed 0 → (text : List ℕ) (it e : Enumerate TextLines) (ls : TextLines) → it ≡ e
    → enumerate_source e ≡ ls → enumerate_count e ≡ 0 → lines_left ls ≡ lines_of text → length text ≤ text_limit
    → Gives dot_step (compiled_attributes text) it f × f.lines + left_count it ≤ text_limit
unfolding compiled_attributes
come_first f start text it e ls is source count all short =
    rw start (walk_first text it e ls is source count all dot_step (dot_states all_unnamed 0) short, omega (arith, walk_few text it e ls is source count all))

step_long : (f : DotStates) (line : List ℕ) → line_limit < length line → dot_step f line ≡ stop LineTooLong (length line - line_limit)
unfolding dot_step read_dot_line opening_of
step_long f line h = rw (lt-ltb line_limit (length line) h)

-- no column lies beyond the first byte that a line has too many
pub attributes_column : (text : List ℕ) → outcome_column (compiled_attributes text) ≤ line_limit + 1
unfolding compiled_attributes
attributes_column text = run_column dot_step step_long (dot_states all_unnamed 0) text
