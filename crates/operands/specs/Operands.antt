-- An operand is the next word, or begins where it begins. None is number 6, at the line's end; a bad one is 7 or 8, at
-- its first byte.
use Rattle.std.specs.Prelude.{ℕ, ◌-◌, List, length, Option, Result, Ok, ok_or}
use Rattle.basics.specs.Choice.{pick, if_some, if_ok}
use Rattle.basics.specs.declared.Refusal.TheVariants.{MissingOperand, BadCharacter, BadDots, TrailingText}
use Rattle.lines.specs.declared.LineFault.{LineFault}
use Rattle.lines.specs.declared.Parsed.{Parsed}
use Rattle.lines.specs.declared.Word.{Word}
use Rattle.lines.specs.Words.{word_at, bytes_of, is_missing, is_over}
use Rattle.lines.specs.Texts.{fault}
use Rattle.characters.specs.declared.OperandKind.{OperandKind}
use Rattle.characters.specs.Characters.{word_value}
use Rattle.dots.specs.Dots.{dots_at, cell_at}

-- the next word, if there is one
unfoldable pub operand_word : List ℕ → ℕ → Result Word LineFault
operand_word line at =
    let w : Word = word_at line at in
    pick (is_missing w) (fault MissingOperand 0) (Ok w)

-- behind the last operand: nothing, or a word that begins with `#`
unfoldable pub ended : List ℕ → ℕ → Result (Unit {0}) LineFault
ended line at = pick (is_over line at) (Ok tt) (fault TrailingText (length line - (word_at line at).start))

-- a word with what it stands for
abbrev pub word_operand : Option ℕ → List ℕ → Word → Result (Parsed ℕ) LineFault
word_operand value line w =
    if_some value
    (fault BadCharacter (length line - w.start))
    (λ c. Ok (record { value = c; after = w.end }))

-- the next word as an operand of that kind, by a local character set
unfoldable pub character_at : ℕ → OperandKind → List ℕ → ℕ → Result (Parsed ℕ) LineFault
character_at charset kind line at =
    if_ok (operand_word line at) (λ w. word_operand (word_value kind charset (bytes_of line w)) line w)

abbrev pub dots_fault : Option (Parsed ℕ) → ℕ → Result (Parsed ℕ) LineFault
dots_fault read left = ok_or read (record { refusal = BadDots; left = left })

-- what begins at the next word as a dots operand
unfoldable pub dots_operand_at : List ℕ → ℕ → Result (Parsed ℕ) LineFault
dots_operand_at line at =
    if_ok (operand_word line at) (λ w. dots_fault (dots_at line w.start) (length line - w.start))

-- and as a cell operand
unfoldable pub cell_operand_at : List ℕ → ℕ → Result (Parsed ℕ) LineFault
cell_operand_at line at =
    if_ok (operand_word line at) (λ w. dots_fault (cell_at line w.start) (length line - w.start))
