-- One line more, and the lines of a text one after another.
use Rattle.std.proofs.Common.{◌≡◌, sym, ℕ, ◌+◌, ◌-◌, ◌≤◌, ◌<◌, Bool, true, false, not, List, length, take, get_or, set, None, Some, Result}
use Rattle.std.proofs.Common.{Ok, Err, arith}
use borrow.Author.Tests.{lt-ltb, not-true, not-false}
use Rattle.basics.proofs.Tests.{told, by_cases}
use Rattle.basics.specs.declared.Refusal.TheVariants.{AlreadyDefined, TextTooLong, LineTooLong, UnknownCharset}
use Rattle.scalars.specs.Characters.{is_charset}
use Rattle.lines.specs.Texts.{text_limit, line_limit, opening_of, Step, next, stop, rejected, run_text, outcome_column}
use Rattle.lines.specs.Lines.{lines_of, without_cr}
use Rattle.lines.specs.Internal.{step_of, lines_left}
use Rattle.lines.specs.declared.LineFault.{LineFault}
use Rattle.std.specs.Iterator.Adapters.{enumerate_source, enumerate_count}
use Rattle.std.specs.declared.iter.Enumerate.{Enumerate}
use Rattle.lines.specs.declared.TextLines.{TextLines}
use Rattle.lines.proofs.Texts.{Gives, left_count, walk_few, walk_first, text_long, run_column}
use Rattle.attributes.specs.Compile.{with_dot}
use Rattle.attributes.specs.declared.DotStates.{DotStates}
use Rattle.attributes.specs.declared.DotLine.{DotLine}
use Rattle.byte_tables.specs.Reader.{read_table_line}
use Rattle.byte_tables.specs.Compile.{so_far, begun, with_line, step, compiled_bytes}
use Rattle.byte_tables.specs.Internal.{left_by}
use Rattle.byte_tables.specs.declared.SoFar.{SoFar}
use Rattle.byte_tables.specs.declared.TableLine.{TableLine}
use Rattle.byte_tables.specs.declared.TableLine.TheVariants.{Skip, Dot, Byte}

-- front is a line without its CR, read what was answered of it
module _ (charset : ℕ) (s : SoFar) (line front : List ℕ) (read : Result TableLine LineFault) (c : front ≡ without_cr line)
    (e : read ≡ read_table_line charset front) where
  step_read : {x : Step SoFar} → x ≡ with_line s read → x ≡ step charset s (without_cr line)
  unfolding step
  step_read h = rw (← c, ← e) h

  pub line_fault : (r : Result Unit LineFault) (t : SoFar) (fault : LineFault) → read ≡ Err fault → r ≡ Err fault
      → step_of (left_by r t) ≡ step charset s (without_cr line)
  line_fault r t fault q p = step_read (rw (q, p))

  pub line_skip : (t : TableLine) → read ≡ Ok t → t ≡ Skip → next s ≡ step charset s (without_cr line)
  line_skip t q z = step_read (rw (q, z))

  -- a dot's line, o being what was answered of it
  module _ (t : TableLine) (d : DotLine) (o : Result DotStates LineFault) (q : read ≡ Ok t) (z : t ≡ Dot d) (does : step_of o ≡ with_dot s.dots d) where
    pub dot_fault : (r : Result Unit LineFault) (u : SoFar) (fault : LineFault) → o ≡ Err fault → r ≡ Err fault
        → step_of (left_by r u) ≡ step charset s (without_cr line)
    dot_fault r u fault p h = step_read (rw (q, z, ← does, p, h))

    pub dot_taken : (dots : DotStates) → o ≡ Ok dots → next (so_far s.slots dots s.count) ≡ step charset s (without_cr line)
    dot_taken dots p = step_read (rw (q, z, ← does, p))

  -- a byte's line
  module _ (t : TableLine) (byte cell left : ℕ) (q : read ≡ Ok t) (z : t ≡ Byte byte cell left) where
    pub byte_again : (earlier : ℕ) → get_or s.slots byte None ≡ Some earlier → stop AlreadyDefined left ≡ step charset s (without_cr line)
    byte_again earlier p = step_read (rw (q, z, p))

    pub byte_taken : get_or s.slots byte None ≡ None → next (so_far (set s.slots byte (Some cell)) s.dots (s.count + 1)) ≡ step charset s (without_cr line)
    byte_taken p = step_read (rw (q, z, p))

pub ruleset on_line = (line_fault, line_skip, dot_fault, dot_taken, byte_again, byte_taken)

-- ---- the lines of a text

-- k is what a call answered of the set
module _ (charset : ℕ) (text : List ℕ) (k : Bool) (is-known : k ≡ is_charset charset) where
  pub no_set : not k ≡ true → rejected UnknownCharset 0 0 ≡ compiled_bytes charset text
  unfolding compiled_bytes
  no_set q = rw (told is-known (not-true k q))

  module _ (q : not k ≡ false) where
    pub long_text : text_limit < length text → rejected TextTooLong 0 0 ≡ compiled_bytes charset text
    unfolding compiled_bytes
    long_text h = rw (told is-known (not-false k q)) (sym (text_long (step charset) begun text h))

    pub come_first : (s : SoFar) → s ≡ begun → (it e : Enumerate TextLines) (ls : TextLines) → it ≡ e → enumerate_source e ≡ ls → enumerate_count e ≡ 0
        → lines_left ls ≡ lines_of text → length text ≤ text_limit
        → Gives (step charset) (compiled_bytes charset text) it s × s.dots.lines + left_count it ≤ text_limit × s.count + left_count it ≤ text_limit
    unfolding compiled_bytes
    come_first s start it e ls is source count all short =
        let few = walk_few text it e ls is source count all in
        let known = told is-known (not-false k q) in
        rw (start, known) (walk_first text it e ls is source count all (step charset) begun short, omega (arith, few), omega (arith, few))

step_long : (charset : ℕ) (s : SoFar) (line : List ℕ) → line_limit < length line → step charset s line ≡ stop LineTooLong (length line - line_limit)
unfolding step read_table_line opening_of
step_long charset s line h = rw (lt-ltb line_limit (length line) h)

-- no column lies beyond the first byte that a line has too many
pub bytes_column : (charset : ℕ) (text : List ℕ) → outcome_column (compiled_bytes charset text) ≤ line_limit + 1
unfolding compiled_bytes
bytes_column charset text =
    let read : outcome_column (run_text (step charset) begun text) ≤ line_limit + 1 = run_column (step charset) (step_long charset) begun text in
    by_cases (is_charset charset) (λ e. rw e read) (λ e. rw e (omega arith))
