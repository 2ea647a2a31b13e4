-- A text is read line by line; the first line that is refused decides. How a line changes the state is a parameter.
-- And what a compile call answers, for every kind of table.
use Rattle.std.specs.Prelude.{ℕ, ◌+◌, ◌-◌, List, [], ◌∷◌, length, ltb, Result, Ok, Err}
use Rattle.basics.specs.Choice.{pick}
use Rattle.basics.specs.Refusals.{number_of, Reply, answered, refused}
use Rattle.basics.specs.declared.Refusal.{Refusal}
use Rattle.basics.specs.declared.Refusal.TheVariants.{TextTooLong, LineTooLong, NotUtf8}
use Rattle.utf8.specs.Utf8.{utf8}
use Rattle.utf8.specs.declared.BadSequence.{BadSequence}
use Rattle.lines.specs.Lines.{lines_of, without_cr}
use Rattle.lines.specs.Words.{is_over}
use Rattle.lines.specs.declared.LineFault.{LineFault}
use Rattle.lines.specs.declared.Opening.{Opening}
use Rattle.lines.specs.declared.Opening.TheVariants.{Skip, Directive}
use Rattle.lines.specs.declared.Rejection.{Rejection}

-- a text is at most 65,536 bytes, a line without its end at most 1,024
abbrev pub text_limit : ℕ
text_limit = 65536

abbrev pub line_limit : ℕ
line_limit = 1024

-- a fault at a place so many bytes before the line's end
abbrev pub fault : {A : Type 0} → Refusal → ℕ → Result A LineFault
fault refusal left = Err (record { refusal = refusal; left = left })

-- what a line of UTF-8 is: whitespace only or a comment is skipped
abbrev pub valid_opening : List ℕ → Result Unit BadSequence → Result Opening LineFault
valid_opening line (Err bad) = Err (record { refusal = NotUtf8; left = length line - bad.start })
valid_opening line (Ok u) = Ok (pick (is_over line 0) Skip Directive)

-- refusals 3 and 4 come before anything else of the line, comments included
unfoldable pub opening_of : List ℕ → Result Opening LineFault
opening_of line =
    let long : LineFault = record { refusal = LineTooLong; left = length line - line_limit } in
    let valid : Result Opening LineFault = valid_opening line (utf8 line) in
    pick (ltb line_limit (length line)) (Err long) valid

-- what follows from a line that opens so: from nothing to read, from its directive; a fault stands
abbrev pub if_directive : {A : Type 0} → Result Opening LineFault → Result A LineFault → Result A LineFault
    → Result A LineFault
if_directive (Err fault) skipped read = Err fault
if_directive (Ok Skip) skipped read = skipped
if_directive (Ok Directive) skipped read = read

-- what a line does: it leaves a state, or is refused at a place so many bytes before its end
pub data Step (S : Type 0) : Type 0 where
  next : S → Step S
  stop : Refusal → ℕ → Step S

-- the column of such a place: bytes count from 1, and the line is given without its end
abbrev pub column_of : List ℕ → ℕ → ℕ
column_of line left = length line - left + 1

-- what a text gives: the state after its last line, or the first refusal with its line and column
pub data Outcome (S : Type 0) : Type 0 where
  accepted : S → Outcome S
  rejected : Refusal → ℕ → ℕ → Outcome S

-- what follows from a line, the n-th, and from the lines behind it
abbrev pub on_step : {S : Type 0} → Step S → List ℕ → ℕ → (S → Outcome S) → Outcome S
on_step (next s) line n rest = rest s
on_step (stop refusal left) line n rest = rejected refusal n (column_of line left)

-- the lines that are left, the first of them the n-th
unfoldable pub run_lines : {S : Type 0} → (S → List ℕ → Step S) → List (List ℕ) → ℕ → S → Outcome S
run_lines step [] n s = accepted s
run_lines step (l ∷ ls) n s =
    let line : List ℕ = without_cr l in
    on_step (step s line) line n (λ s'. run_lines step ls (n + 1) s')

-- a whole text, from the state before its first line: refusal 1 has no line and no column
unfoldable pub run_text : {S : Type 0} → (S → List ℕ → Step S) → S → List ℕ → Outcome S
run_text step s text =
    let run = run_lines step (lines_of text) 1 s in
    pick (ltb text_limit (length text)) (rejected TextTooLong 0 0) run

-- the compile call of a text: a count of what it gives, or the refusal with its line
abbrev pub outcome_reply : {S : Type 0} → (S → ℕ) → Outcome S → Reply ℕ
outcome_reply count (accepted s) = answered (count s)
outcome_reply count (rejected refusal line column) = refused (number_of refusal) line

-- and the column in that line, 0 where there is none
abbrev pub outcome_column : {S : Type 0} → Outcome S → ℕ
outcome_column (accepted s) = 0
outcome_column (rejected refusal line column) = column

-- the number, place and value of each case of its answer, and the column
abbrev pub compiled_reply : Result ℕ Rejection → Reply ℕ
compiled_reply (Ok count) = answered count
compiled_reply (Err e) = refused (number_of e.refusal) e.line

abbrev pub compiled_column : Result ℕ Rejection → ℕ
compiled_column (Ok count) = 0
compiled_column (Err e) = e.column

-- a fault by its place in the text, where the line with its CR, if it has one, and its number are given
abbrev pub rejection_of : LineFault → List ℕ → ℕ → Rejection
rejection_of fault line n =
    record { refusal = fault.refusal; line = n; column = column_of (without_cr line) fault.left }
