-- What a line gives: a definition is in range, and a block that opens had room and, where the line is not taken, no half that is.
use Prim.Native.Nat.{ℕ, zero, suc, ◌-◌, ◌<◌}
use mathlib.Core.Path.{◌≡◌, refl}
use mathlib.Core.Bool.{Bool, true, false, beq}
use mathlib.Core.List.{List}
use lib.ListN.{length, drop}
use lib.Dec.{eqb}
use native.Mathlib.Omega.{arith}
use borrow.Author.Tests.{le-leb, eqb-false}
use Rattle.std.specs.Prelude.{Option, None, Some, Result, Ok, Err, IfOk}
use Rattle.basics.specs.Ascii.{ascii}
use Rattle.basics.specs.Choice.{if_some, if_ok}
use Rattle.basics.specs.declared.Refusal.TheVariants.{UnknownDirective}
use Rattle.lines.specs.Words.{word_at, bytes_of, same_bytes, is_over}
use Rattle.lines.specs.Texts.{opening_of, if_directive}
use Rattle.lines.specs.declared.LineFault.{LineFault}
use Rattle.lines.specs.declared.Opening.{Opening}
use Rattle.lines.specs.declared.Opening.TheVariants as Op
use Rattle.lines.specs.declared.Parsed.{Parsed}
use Rattle.characters.specs.declared.OperandKind.{OperandKind}
use Rattle.characters.specs.declared.OperandKind.TheVariants.{Character}
use Rattle.scalars.specs.Characters.{is_operand}
use Rattle.operands.specs.Operands.{ended, character_at, dots_operand_at, cell_operand_at}
use Rattle.basics.proofs.Tests.{by_test}
use Rattle.operands.proofs.InRange.{value_in_range, dots_in_range, cell_operand_in_range}
use Rattle.blocks.specs.Internal.{RoomFor}
use Rattle.blocks.specs.declared.BlockLine.{BlockLine}
use Rattle.blocks.specs.declared.BlockLine.TheVariants.{Open, Else, EndIf}
use Rattle.blocks.specs.declared.Around.{Around}
use Rattle.definitions.specs.declared.Definition.{Definition}
use Rattle.definitions.specs.declared.Meaning.TheVariants.{Alias}
use Rattle.reader.specs.Conditions.{has_glyph, has_cell}
use Rattle.table.proofs.Readback.{InRange, is_number_in_range}
use Rattle.reader.specs.Reader.{directive_of, finished, define, dots_meaning, dots_line, alias_line, condition_at, glyph_condition, cell_condition}
use Rattle.reader.specs.Reader.{has_room, after_directive, front_of, without_effect, if_holds, on_front, read_from, block_line, read_first}
use Rattle.reader.specs.Reader.{read_line}
use Rattle.reader.specs.declared.Directive.{Directive}
use Rattle.reader.specs.declared.Directive.TheVariants as D
use Rattle.reader.specs.declared.Reading.{Reading}
use Rattle.reader.specs.declared.Reading.TheVariants.{NoEffect, Define, Block}
use Rattle.reader.specs.declared.Front.{Front}
use Rattle.reader.specs.declared.Front.TheVariants.{Whole, Condition}

-- with room for so many conditions
abbrev ReadingInRange : ℕ → Reading → Type 0
ReadingInRange room NoEffect = Unit
ReadingInRange room (Define d left) = InRange d
ReadingInRange room (Block line) = RoomFor room line

abbrev FrontInRange : ℕ → Front → Type 0
FrontInRange room (Whole reading) = ReadingInRange room reading
FrontInRange room (Condition holds rest) = Unit

-- what a character operand answers, and a dots or cell operand
abbrev Standing : Parsed ℕ → Type 0
Standing p = is_operand p.value ≡ true

abbrev Small : Parsed ℕ → Type 0
Small p = p.value < 256

-- P holds of the value of r, if it has one
record Each {A : Type 0} (P : A → Type 0) (r : Result A LineFault) : Type 0 where
  value : IfOk r P

fault_each : {A : Type 0} (P : A → Type 0) (fault : LineFault) → Each P (Err fault)
fault_each P fault = record { value = tt }

-- what holds of each value holds of what follows from it
then : {A B : Type 0} (P : A → Type 0) (Q : B → Type 0) (r : Result A LineFault) (more : A → Result B LineFault) → IfOk r P
    → ((a : A) → P a → Each Q (more a)) → Each Q (if_ok r more)
then P Q (Ok a) more h k = k a h
then P Q (Err fault) more h k = record { value = tt }

-- what holds of an answer holds of it before the line's end; and what holds of all that a line may be holds of the line
module _ (P : Reading → Type 0) (line : List ℕ) where
  each_finished : (at : ℕ) (reading : Reading) → P reading → Each P (finished line at reading)
  unfolding finished
  each_finished at reading h = go (ended line at)
    where
      go : (r : Result (Unit {0}) LineFault) → Each P (if_ok r (λ u. Ok reading))
      go (Ok u) = record { value = h }
      go (Err fault) = record { value = tt }

  each_block : (may : Bool) (read : BlockLine) (at left : ℕ) → P (Block read) → Each P (block_line may read line at left)
  unfolding block_line
  each_block may read at left h = by_test (Each P) may (λ e. each_finished at (Block read) h) (λ e. record { value = tt })

  each_line : (charset : ℕ) (ds : List Definition) (around : Around) → P NoEffect → P (Block Else) → P (Block EndIf)
      → Each P (if_ok (read_from charset ds around.room line) (λ reading. Ok (if_holds around.taken reading)))
      → Each P (read_line charset ds around line)
  unfolding read_line read_first
  each_line charset ds around skipped turned closed other = go (opening_of line)
    where
      go : (o : Result Opening LineFault) → Each P (if_directive o (Ok NoEffect) (read_first charset ds around line))
      go (Err fault) = record { value = tt }
      go (Ok Op.Skip) = record { value = skipped }
      go (Ok Op.Directive) =
          let w = word_at line 0 in
          by_test (Each P) (same_bytes (bytes_of line w) (ascii "else")) (λ e. each_block around.turns Else _ _ turned)
          (λ e. by_test (Each P) (same_bytes (bytes_of line w) (ascii "endIf")) (λ e. each_block around.closes EndIf _ _ closed) (λ e. other))

-- dots of either kind
meaning_in_range : (typed : Bool) (cell : ℕ) → cell < 256 → is_number_in_range (dots_meaning typed cell) ≡ true
meaning_in_range true cell l = le-leb cell 255 (omega arith)
meaning_in_range false cell l = le-leb cell 255 (omega arith)

module _ (charset room : ℕ) where
  dots_line_lem : (kind : OperandKind) (typed : Bool) (line : List ℕ) (at left : ℕ) → Each (ReadingInRange room) (dots_line charset kind typed line at left)
  unfolding dots_line
  dots_line_lem kind typed line at left =
      then Standing (ReadingInRange room) (character_at charset kind line at) _ (value_in_range charset kind line at)
      (λ c h. then Small (ReadingInRange room) (dots_operand_at line c.after) _ (dots_in_range line c.after)
      (λ dots l. each_finished (ReadingInRange room) line dots.after (define c.value (dots_meaning typed dots.value) left)
      (record { character = h; number = meaning_in_range typed dots.value l })))

  alias_line_lem : (line : List ℕ) (at left : ℕ) → Each (ReadingInRange room) (alias_line charset line at left)
  unfolding alias_line
  alias_line_lem line at left =
      then Standing (ReadingInRange room) (character_at charset Character line at) _ (value_in_range charset Character line at)
      (λ c h. then Standing (ReadingInRange room) (character_at charset Character line c.after) _ (value_in_range charset Character line c.after)
      (λ target g. each_finished (ReadingInRange room) line target.after (define c.value (Alias target.value) left) (record { character = h; number = g })))

  -- a condition gives no definition, and is read only where there is room
  module _ (some : 0 < room) (line : List ℕ) where
    condition_front : (after : ℕ) (holds : Bool) → FrontInRange room (condition_at line after holds)
    unfolding condition_at
    condition_front after holds = by_test (FrontInRange room) (is_over line after) (λ e. some) (λ e. tt)

    glyph_front : (ds : List Definition) (wanted : Bool) (at : ℕ) → Each (FrontInRange room) (glyph_condition charset ds wanted line at)
    unfolding glyph_condition
    glyph_front ds wanted at =
        then Standing (FrontInRange room) (character_at charset Character line at) _ (value_in_range charset Character line at)
        (λ c h. record { value = condition_front c.after (beq (has_glyph charset ds c.value) wanted) })

    cell_front : (ds : List Definition) (wanted : Bool) (at : ℕ) → Each (FrontInRange room) (cell_condition ds wanted line at)
    unfolding cell_condition
    cell_front ds wanted at =
        then Small (FrontInRange room) (cell_operand_at line at) _ (cell_operand_in_range line at)
        (λ c h. record { value = condition_front c.after (beq (has_cell ds c.value) wanted) })

  front_in_range : (ds : List Definition) (line : List ℕ) → Each (FrontInRange room) (front_of charset ds room line)
  unfolding front_of
  front_in_range ds line =
      let w = word_at line 0 in
      go (directive_of (bytes_of line w)) w.end (length line - w.start)
    where
      some : eqb room 0 ≡ false → 0 < room
      some e = let n = eqb-false room 0 e in omega arith

      roomy : (left : ℕ) (r : Result Front LineFault) → (0 < room → Each (FrontInRange room) r) → Each (FrontInRange room) (if_ok (has_room room left) (λ u. r))
      roomy left r h =
          by_test (λ (u : Result (Unit {0}) LineFault). Each (FrontInRange room) (if_ok u (λ v. r))) (eqb room 0) (λ e. record { value = tt }) (λ e. h (some e))

      whole : (r : Result Reading LineFault) → Each (ReadingInRange room) r → Each (FrontInRange room) (if_ok r (λ reading. Ok (Whole reading)))
      whole r h = then (ReadingInRange room) (FrontInRange room) r _ h.value (λ reading k. record { value = k })

      known : (directive : Directive) (at left : ℕ) → Each (FrontInRange room) (after_directive charset ds room line directive at left)
      known (D.ByDots kind typed) at left = whole _ (dots_line_lem kind typed line at left)
      known D.ByAlias at left = whole _ (alias_line_lem line at left)
      known (D.IfGlyph wanted) at left = roomy left _ (λ h. glyph_front h line ds wanted at)
      known (D.IfCell wanted) at left = roomy left _ (λ h. cell_front h line ds wanted at)

      go : (directive : Option Directive) (at left : ℕ)
          → Each (FrontInRange room)
          (if_some directive (Err (record { refusal = UnknownDirective; left = left })) (λ d. after_directive charset ds room line d at left))
      go None at left = record { value = tt }
      go (Some directive) at left = known directive at left

module _ (room : ℕ) where
  holds_in_range : (holds : Bool) (reading : Reading) → ReadingInRange room reading → ReadingInRange room (if_holds holds reading)
  unfolding if_holds
  holds_in_range holds reading h = by_test (ReadingInRange room) holds (λ e. h) (λ e. without reading h)
    where
      without : (r : Reading) → ReadingInRange room r → ReadingInRange room (without_effect r)
      without NoEffect k = tt
      without (Define d left) k = tt
      without (Block (Open first second)) k = k
      without (Block Else) k = tt
      without (Block EndIf) k = tt

  on_front_lem : (more : Bool → ℕ → Result Reading LineFault) → ((holds : Bool) (rest : ℕ) → Each (ReadingInRange room) (more holds rest))
      → (front : Front) → FrontInRange room front → Each (ReadingInRange room) (on_front front more)
  on_front_lem more k (Whole reading) h = record { value = h }
  on_front_lem more k (Condition holds rest) h = k holds rest

  -- what had room for a condition less
  more_room : (reading : Reading) → ReadingInRange room reading → ReadingInRange (suc room) reading
  more_room NoEffect h = tt
  more_room (Define d left) h = h
  more_room (Block (Open first second)) h = omega arith
  more_room (Block Else) h = tt
  more_room (Block EndIf) h = tt

from_in_range : (charset : ℕ) (ds : List Definition) (room : ℕ) (line : List ℕ) → Each (ReadingInRange room) (read_from charset ds room line)
unfolding read_from
from_in_range charset ds zero line =
    then (FrontInRange zero) (ReadingInRange zero) (front_of charset ds zero line) _ (front_in_range charset zero ds line).value
    (on_front_lem zero (λ holds rest. Ok NoEffect) (λ holds rest. record { value = tt }))
from_in_range charset ds (suc room) line =
    then (FrontInRange (suc room)) (ReadingInRange (suc room)) (front_of charset ds (suc room) line) _ (front_in_range charset (suc room) ds line).value
    (on_front_lem (suc room) _ (λ holds rest.
    then (ReadingInRange room) (ReadingInRange (suc room)) (read_from charset ds room (drop rest line)) _ (from_in_range charset ds room (drop rest line)).value
    (λ reading h. record { value = holds_in_range (suc room) holds reading (more_room room reading h) })))

-- a line not taken opens a block without a half that is
abbrev NoHalf : Reading → Type 0
NoHalf NoEffect = Unit
NoHalf (Define d left) = Unit
NoHalf (Block (Open first second)) = (first ≡ false) × (second ≡ false)
NoHalf (Block Else) = Unit
NoHalf (Block EndIf) = Unit

without_half : (r : Reading) → NoHalf (without_effect r)
without_half NoEffect = tt
without_half (Define d left) = tt
without_half (Block (Open first second)) = (refl, refl)
without_half (Block Else) = tt
without_half (Block EndIf) = tt

module _ (charset : ℕ) (ds : List Definition) (around : Around) (line : List ℕ) where
  read_in_range : Each (ReadingInRange around.room) (read_line charset ds around line)
  read_in_range =
      each_line (ReadingInRange around.room) line charset ds around tt tt tt
      (then (ReadingInRange around.room) (ReadingInRange around.room) (read_from charset ds around.room line) _
      (from_in_range charset ds around.room line).value (λ reading h. record { value = holds_in_range around.room around.taken reading h }))

  -- the definition that a line gives is in range
  pub line_in_range : {d : Definition} {left : ℕ} → read_line charset ds around line ≡ Ok (Define d left) → InRange d
  line_in_range e = rw e at read_in_range.value

  -- a block that a line opens had room
  pub line_had_room : {read : BlockLine} → read_line charset ds around line ≡ Ok (Block read) → RoomFor around.room read
  line_had_room e = rw e at read_in_range.value

  -- and, where the line is not taken, no half that is
  pub line_no_half : {first second : Bool} → around.taken ≡ false → read_line charset ds around line ≡ Ok (Block (Open first second))
      → (first ≡ false) × (second ≡ false)
  unfolding if_holds
  line_no_half untaken e =
      rw e at
      (each_line NoHalf line charset ds around tt tt tt
      (then (λ r. Unit) NoHalf (read_from charset ds around.room line) _ (any (read_from charset ds around.room line))
      (λ reading h. record { value = rw untaken (without_half reading) }))).value
    where
      any : (r : Result Reading LineFault) → IfOk r (λ q. Unit)
      any (Ok q) = tt
      any (Err fault) = tt
