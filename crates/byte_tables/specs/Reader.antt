-- Reading a line of a byte table: `byte`, which may be missing, a byte and its dots; or `dot`, a dot number and a
-- state. Faults 6 to 9 and 16 as met from left to right.
use Rattle.std.specs.Prelude.{ℕ, ◌-◌, Bool, not, ◌||◌, List, Option, None, Result, Ok, length, get_or, eqb}
use Rattle.basics.specs.Ascii.{ascii}
use Rattle.basics.specs.Choice.{pick, if_ok}
use Rattle.lines.specs.declared.LineFault.{LineFault}
use Rattle.lines.specs.declared.Parsed.{Parsed}
use Rattle.lines.specs.declared.Word.{Word}
use Rattle.lines.specs.Words.{word_at, bytes_of, same_bytes}
use Rattle.lines.specs.Texts.{opening_of, if_directive}
use Rattle.characters.specs.Characters.{backslash, is_escape, byte_of}
use Rattle.operands.specs.Operands.{operand_word, ended, word_operand, dots_operand_at}
use Rattle.attributes.specs.Reader.{dot_at}
use Rattle.attributes.specs.declared.States.TheVariants.{WithFixed}
use Rattle.byte_tables.specs.declared.TableLine.{TableLine}
use Rattle.byte_tables.specs.declared.TableLine.TheVariants.{Skip, Dot, Byte}

-- of the escapes only `\\`, `\x` and `\X` stand here, told by the byte after the backslash
abbrev pub is_byte_form : List ℕ → Bool
is_byte_form w =
    not (is_escape w) || (eqb (get_or w 1 0) backslash || (eqb (get_or w 1 0) 120 || eqb (get_or w 1 0) 88))

-- the byte of a whole word of these forms, in a local character set
unfoldable pub form_byte : ℕ → List ℕ → Option ℕ
form_byte charset w = pick (is_byte_form w) (byte_of charset w) None

-- the next word as a byte operand
unfoldable pub byte_at : ℕ → List ℕ → ℕ → Result (Parsed ℕ) LineFault
byte_at charset line at = if_ok (operand_word line at) (λ w. word_operand (form_byte charset (bytes_of line w)) line w)

-- behind the last operand: nothing, or a comment
abbrev pub finished : List ℕ → ℕ → TableLine → Result TableLine LineFault
finished line at read = if_ok (ended line at) (λ u. Ok read)

-- a byte line from its byte operand on
unfoldable pub byte_line : ℕ → List ℕ → ℕ → ℕ → Result TableLine LineFault
byte_line charset line at left =
    if_ok (byte_at charset line at) (λ byte.
    if_ok (dots_operand_at line byte.after) (λ cell.
    finished line cell.after (Byte byte.value cell.value left)))

-- a line begun by `dot` or `byte` is that; any other is a byte line too, its first word the operand
unfoldable pub table_line : ℕ → List ℕ → Result TableLine LineFault
table_line charset line =
    let w : Word = word_at line 0 in
    let left : ℕ = length line - w.start in
    pick (same_bytes (bytes_of line w) (ascii "dot")) (if_ok (dot_at WithFixed line w.end left) (λ d. Ok (Dot d)))
    (pick (same_bytes (bytes_of line w) (ascii "byte")) (byte_line charset line w.end left)
    (byte_line charset line w.start left))

-- a whole line, without its end: 3, 4, then the others
unfoldable pub read_table_line : ℕ → List ℕ → Result TableLine LineFault
read_table_line charset line = if_directive (opening_of line) (Ok Skip) (table_line charset line)
