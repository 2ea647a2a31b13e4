-- Reading a line: 3, 4, then faults 5 to 10 and 17 as met from left to right. The conditions are judged with the
-- definitions of the lines before; operands and rule 2 go by the local character set.
use Rattle.std.specs.Prelude.{ℕ, zero, suc, ◌-◌, Bool, true, false, not, List, length, drop, eqb}
use Rattle.std.specs.Prelude.{Option, None, Some, Result, Ok}
use Rattle.std.specs.Bool.{beq}
use Rattle.basics.specs.Ascii.{ascii}
use Rattle.basics.specs.Choice.{pick, if_some, if_ok}
use Rattle.basics.specs.declared.Refusal.TheVariants.{UnknownDirective, TooManyConditions, StrayBlockWord}
use Rattle.lines.specs.declared.Word.{Word}
use Rattle.lines.specs.declared.LineFault.{LineFault}
use Rattle.lines.specs.Words.{word_at, bytes_of, same_bytes, is_over}
use Rattle.lines.specs.Texts.{fault, opening_of, if_directive}
use Rattle.characters.specs.declared.OperandKind.{OperandKind}
use Rattle.characters.specs.declared.OperandKind.TheVariants.{Character, Byte}
use Rattle.operands.specs.Operands.{ended, character_at, dots_operand_at, cell_operand_at}
use Rattle.blocks.specs.Blocks.{inert}
use Rattle.blocks.specs.declared.BlockLine.{BlockLine}
use Rattle.blocks.specs.declared.BlockLine.TheVariants.{Open, Else, EndIf}
use Rattle.blocks.specs.declared.Around.{Around}
use Rattle.definitions.specs.declared.Meaning.{Meaning}
use Rattle.definitions.specs.declared.Meaning.TheVariants as M
use Rattle.definitions.specs.declared.Definition.{Definition}
use Rattle.reader.specs.Conditions.{has_glyph, has_cell}
use Rattle.reader.specs.declared.Directive.{Directive}
use Rattle.reader.specs.declared.Directive.TheVariants as D
use Rattle.reader.specs.declared.Reading.{Reading}
use Rattle.reader.specs.declared.Reading.TheVariants.{NoEffect, Define, Block}
use Rattle.reader.specs.declared.Front.{Front}
use Rattle.reader.specs.declared.Front.TheVariants.{Whole, Condition}

-- the eight directive words: those of conditions, and all
unfoldable pub condition_of : List ℕ → Option Directive
condition_of w =
    pick (same_bytes w (ascii "ifGlyph")) (Some (D.IfGlyph true))
    (pick (same_bytes w (ascii "ifNotGlyph")) (Some (D.IfGlyph false))
    (pick (same_bytes w (ascii "ifCell")) (Some (D.IfCell true))
    (pick (same_bytes w (ascii "ifNotCell")) (Some (D.IfCell false))
    None)))

unfoldable pub directive_of : List ℕ → Option Directive
directive_of w =
    pick (same_bytes w (ascii "char")) (Some (D.ByDots Character true))
    (pick (same_bytes w (ascii "glyph")) (Some (D.ByDots Character false))
    (pick (same_bytes w (ascii "byte")) (Some (D.ByDots Byte false))
    (pick (same_bytes w (ascii "alias")) (Some D.ByAlias)
    (condition_of w))))

-- after the last operand: nothing, or a word that begins with `#`
unfoldable pub finished : List ℕ → ℕ → Reading → Result Reading LineFault
finished line at reading = if_ok (ended line at) (λ u. Ok reading)

abbrev pub define : ℕ → Meaning → ℕ → Reading
define c meaning left = Define (record { character = c; meaning = meaning }) left

abbrev pub dots_meaning : Bool → ℕ → Meaning
dots_meaning typed dots = pick typed (M.Typed dots) (M.Shown dots)

-- `char`, `glyph` and `byte`: a character or byte operand, then dots
unfoldable pub dots_line : ℕ → OperandKind → Bool → List ℕ → ℕ → ℕ → Result Reading LineFault
dots_line charset kind typed line at left =
    if_ok (character_at charset kind line at) (λ character.
    if_ok (dots_operand_at line character.after) (λ dots.
    finished line dots.after (define character.value (dots_meaning typed dots.value) left)))

-- `alias`: the character, then the one it stands for
unfoldable pub alias_line : ℕ → List ℕ → ℕ → ℕ → Result Reading LineFault
alias_line charset line at left =
    if_ok (character_at charset Character line at) (λ character.
    if_ok (character_at charset Character line character.after) (λ target.
    finished line target.after (define character.value (M.Alias target.value) left)))

-- behind a condition's operand: a further directive; where it is absent or begins with `#`, a block opens, its first
-- half taken if the condition holds, its second if it fails
unfoldable pub condition_at : List ℕ → ℕ → Bool → Front
condition_at line after holds =
    pick (is_over line after) (Whole (Block (Open holds (not holds)))) (Condition holds after)

-- a condition's operand: the condition holds where its test comes out as wanted
unfoldable pub glyph_condition : ℕ → List Definition → Bool → List ℕ → ℕ → Result Front LineFault
glyph_condition charset ds wanted line at =
    if_ok (character_at charset Character line at) (λ character.
    Ok (condition_at line character.after (beq (has_glyph charset ds character.value) wanted)))

unfoldable pub cell_condition : List Definition → Bool → List ℕ → ℕ → Result Front LineFault
cell_condition ds wanted line at =
    if_ok (cell_operand_at line at) (λ cell. Ok (condition_at line cell.after (beq (has_cell ds cell.value) wanted)))

-- where there is room for one, a condition; the one too many is at fault at its word
abbrev pub has_room : ℕ → ℕ → Result (Unit {0}) LineFault
has_room room left = pick (eqb room 0) (fault TooManyConditions left) (Ok tt)

-- what stands behind a directive word; the word itself begins `left` bytes before the line's end
abbrev pub after_directive : ℕ → List Definition → ℕ → List ℕ → Directive → ℕ → ℕ → Result Front LineFault
after_directive charset ds room line (D.ByDots kind typed) at left =
    if_ok (dots_line charset kind typed line at left) (λ reading. Ok (Whole reading))
after_directive charset ds room line D.ByAlias at left =
    if_ok (alias_line charset line at left) (λ reading. Ok (Whole reading))
after_directive charset ds room line (D.IfGlyph wanted) at left =
    if_ok (has_room room left) (λ u. glyph_condition charset ds wanted line at)
after_directive charset ds room line (D.IfCell wanted) at left =
    if_ok (has_room room left) (λ u. cell_condition ds wanted line at)

-- the directive at the front, with room for so many conditions
unfoldable pub front_of : ℕ → List Definition → ℕ → List ℕ → Result Front LineFault
front_of charset ds room line =
    let w : Word = word_at line 0 in
    if_some (directive_of (bytes_of line w)) (fault UnknownDirective (length line - w.start))
    (λ directive. after_directive charset ds room line directive w.end (length line - w.start))

-- what a well formed line does behind a failed condition, or inside lines not taken: nothing is defined, and of a block
-- that opens neither half is taken; a fault is no reading, and stands in `read_from` and `read_first`
abbrev pub without_effect : Reading → Reading
without_effect NoEffect = NoEffect
without_effect (Define definition left) = NoEffect
without_effect (Block line) = Block (inert line)

unfoldable pub if_holds : Bool → Reading → Reading
if_holds holds reading = pick holds reading (without_effect reading)

abbrev pub on_front : Front → (Bool → ℕ → Result Reading LineFault) → Result Reading LineFault
on_front (Whole reading) more = Ok reading
on_front (Condition holds rest) more = more holds rest

-- a directive with room for so many conditions: what follows a condition is read with room for one less.
-- Without room no front is a condition
unfoldable pub read_from : ℕ → List Definition → ℕ → List ℕ → Result Reading LineFault
read_from charset ds zero line =
    if_ok (front_of charset ds zero line) (λ front. on_front front (λ holds rest. Ok NoEffect))
read_from charset ds (suc room) line =
    if_ok (front_of charset ds (suc room) line) (λ front. on_front front (λ holds rest.
    if_ok (read_from charset ds room (drop rest line)) (λ reading. Ok (if_holds holds reading))))

-- `else` or `endIf`, at fault at its word where it may not stand
unfoldable pub block_line : Bool → BlockLine → List ℕ → ℕ → ℕ → Result Reading LineFault
block_line may read line at left = pick may (finished line at (Block read)) (fault StrayBlockWord left)

-- `else` and `endIf` stand first on their line; any other directive has its effect where the line is taken
unfoldable pub read_first : ℕ → List Definition → Around → List ℕ → Result Reading LineFault
read_first charset ds around line =
    let w : Word = word_at line 0 in
    let left : ℕ = length line - w.start in
    pick (same_bytes (bytes_of line w) (ascii "else")) (block_line around.turns Else line w.end left)
    (pick (same_bytes (bytes_of line w) (ascii "endIf")) (block_line around.closes EndIf line w.end left)
    (if_ok (read_from charset ds around.room line) (λ reading. Ok (if_holds around.taken reading))))

-- a whole line, without its end
unfoldable pub read_line : ℕ → List Definition → Around → List ℕ → Result Reading LineFault
read_line charset ds around line = if_directive (opening_of line) (Ok NoEffect) (read_first charset ds around line)
