-- Reading a line of an attributes table: `dot`, a dot number, a state. Faults 5, 6, 8, 9 and 16 as met from left to
-- right. From behind `dot` on a line of a byte table reads the same, but for two states more.
use Rattle.std.specs.Prelude.{ℕ, ◌-◌, Bool, ◌&&◌, List, length, get_or, drop, eqb, leb}
use Rattle.std.specs.Prelude.{Option, None, Some, Result, Ok}
use Rattle.basics.specs.Ascii.{ascii}
use Rattle.basics.specs.Choice.{pick, if_some, if_ok}
use Rattle.basics.specs.declared.Refusal.TheVariants.{UnknownDirective, BadDots, BadState}
use Rattle.lines.specs.declared.Word.{Word}
use Rattle.lines.specs.declared.LineFault.{LineFault}
use Rattle.lines.specs.Words.{word_at, bytes_of, same_bytes}
use Rattle.lines.specs.Texts.{fault}
use Rattle.operands.specs.Operands.{operand_word, ended}
use Rattle.attributes.specs.declared.Attribute.{Attribute}
use Rattle.attributes.specs.declared.Attribute.TheVariants as A
use Rattle.attributes.specs.declared.State.{State}
use Rattle.attributes.specs.declared.State.TheVariants.{On, Off, Always, Never}
use Rattle.attributes.specs.declared.States.{States}
use Rattle.attributes.specs.declared.States.TheVariants.{ByAttribute, WithFixed}
use Rattle.attributes.specs.declared.DotLine.{DotLine}

-- the eight names, which match exactly
unfoldable pub attribute_of : List ℕ → Option Attribute
attribute_of name =
    pick (same_bytes name (ascii "fg-blue")) (Some A.FgBlue)
    (pick (same_bytes name (ascii "fg-green")) (Some A.FgGreen)
    (pick (same_bytes name (ascii "fg-red")) (Some A.FgRed)
    (pick (same_bytes name (ascii "fg-bright")) (Some A.FgBright)
    (pick (same_bytes name (ascii "bg-blue")) (Some A.BgBlue)
    (pick (same_bytes name (ascii "bg-green")) (Some A.BgGreen)
    (pick (same_bytes name (ascii "bg-red")) (Some A.BgRed)
    (pick (same_bytes name (ascii "blink")) (Some A.Blink)
    None)))))))

-- the state that a sign says of a name: `=` on, `~` off
abbrev pub signed : ℕ → Attribute → Option State
signed sign name = pick (eqb sign 61) (Some (On name)) (pick (eqb sign 126) (Some (Off name)) None)

abbrev pub named_state : ℕ → List ℕ → Option State
named_state sign name = if_some (attribute_of name) None (signed sign)

-- a state operand is a whole word: a sign and a name
unfoldable pub state_of : List ℕ → Option State
state_of w = named_state (get_or w 0 0) (drop 1 w)

-- or, in a table where they stand, `on` or `off`
unfoldable pub fixed_state : List ℕ → Option State
fixed_state w =
    pick (same_bytes w (ascii "on")) (Some Always)
    (pick (same_bytes w (ascii "off")) (Some Never)
    (state_of w))

-- the state operand of a table, by the states that it knows
abbrev pub state_in : States → List ℕ → Option State
state_in ByAttribute w = state_of w
state_in WithFixed w = fixed_state w

-- a dot number is one digit 1 to 8
abbrev pub is_dot_number : List ℕ → Bool
is_dot_number w = eqb (length w) 1 && (leb 49 (get_or w 0 0) && leb (get_or w 0 0) 56)

-- and the dot is counted from 0 on
unfoldable pub dot_number : List ℕ → Option ℕ
dot_number w = pick (is_dot_number w) (Some (get_or w 0 0 - 49)) None

-- behind the dot number
unfoldable pub state_at : States → List ℕ → ℕ → Result State LineFault
state_at states line at =
    if_ok (operand_word line at) (λ w.
    if_some (state_in states (bytes_of line w)) (fault BadState (length line - w.start)) (λ state.
    if_ok (ended line w.end) (λ u. Ok state)))

abbrev pub dot_of : ℕ → State → ℕ → DotLine
dot_of dot state left = record { dot = dot; state = state; left = left }

-- behind the word `dot`
unfoldable pub dot_at : States → List ℕ → ℕ → ℕ → Result DotLine LineFault
dot_at states line at left =
    if_ok (operand_word line at) (λ w.
    if_some (dot_number (bytes_of line w)) (fault BadDots (length line - w.start)) (λ dot.
    if_ok (state_at states line w.end) (λ state. Ok (dot_of dot state left))))

-- `dot` is the only directive word of an attributes table, and `on` and `off` do not stand there
unfoldable pub dot_line : List ℕ → Result DotLine LineFault
dot_line line =
    let w : Word = word_at line 0 in
    let dot : Result DotLine LineFault = dot_at ByAttribute line w.end (length line - w.start) in
    pick (same_bytes (bytes_of line w) (ascii "dot")) dot (fault UnknownDirective (length line - w.start))
