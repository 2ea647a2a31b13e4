-- What operands answer is in range: a character is one that an operand can stand for, dots are those of one cell.
use Prim.Native.Nat.{ℕ, ◌-◌, ◌/◌, ◌%◌, ◌^◌, ◌<◌}
use mathlib.Core.Path.{◌≡◌, refl}
use mathlib.Core.Bool.{Bool, true, ◌&&◌}
use mathlib.Core.List.{List, [], ◌∷◌}
use native.Mathlib.Omega.{arith}
use lib.Dec.{eqb, leb, lit<}
use borrow.Author.Tests.{eqb-true, leb-true}
use Rattle.std.specs.Prelude.{Option, None, Some, Result, Ok, Err, IfSome, IfOk}
use Rattle.basics.specs.Choice.{if_some, if_ok}
use Rattle.basics.proofs.Tests.{by_test, either, both}
use Rattle.scalars.specs.Characters.{is_scalar, is_operand, as_byte, local_byte}
use Rattle.scalars.proofs.Charsets.{local_operand, replaced_operand, byte_small}
use Rattle.characters.specs.declared.OperandKind.{OperandKind}
use Rattle.characters.specs.declared.OperandKind.TheVariants.{Character, Byte}
use Rattle.characters.specs.Characters.{character_of, operand_of, is_unicode_escape, byte_of, byte_character_of, word_value}
use Rattle.lines.specs.declared.LineFault.{LineFault}
use Rattle.lines.specs.declared.Parsed.{Parsed}
use Rattle.lines.specs.Words.{bytes_of}
use Rattle.dots.specs.Dots.{raise_by, raise, raise_inside, ends_at, digits_at, inside_at, cell_at, dots_at}
use Rattle.dots.proofs.Cells.{room}
use Rattle.operands.specs.Operands.{operand_word, character_at, dots_fault, dots_operand_at, cell_operand_at}

-- a choice by whether there is a value, each way
some_lem : {A B : Type 0} (P : B → Type 0) (Q : A → Type 0) (m : Option A) {none : B} {some : A → B} → P none → ((a : A) → Q a → P (some a))
    → IfSome m Q → P (if_some m none some)
some_lem P Q None n s h = n
some_lem P Q (Some a) n s h = s a h

ok_lem : {A B : Type 0} (P : B → Type 0) (m : Result A LineFault) (more : A → Result B LineFault) → ((a : A) → IfOk (more a) P) → IfOk (if_ok m more) P
ok_lem P (Ok a) more h = h a
ok_lem P (Err e) more h = tt

-- ---- characters: that of a word is a scalar value, and that of an operand one that it can stand for

-- a character, if there is one, passes a test
abbrev Passes : (ℕ → Bool) → Option ℕ → Type 0
Passes test m = IfSome m (λ c. test c ≡ true)

abbrev pub OperandInRange : Result (Parsed ℕ) LineFault → Type 0
OperandInRange r = IfOk r (λ p. is_operand p.value ≡ true)

character_in_range : (w : List ℕ) → Passes is_scalar (character_of w)
unfolding character_of
character_in_range w = search (by_test (Passes is_scalar))

operand_in_range : (charset : ℕ) (w : List ℕ) → Passes is_operand (operand_of charset w)
unfolding operand_of
operand_in_range charset w = some_lem (Passes is_operand) (λ c. is_scalar c ≡ true) (character_of w) tt (replaced_operand charset) (character_in_range w)

-- a byte has eight bits, however it is written
abbrev Small : Option ℕ → Type 0
Small m = IfSome m (λ byte. byte < 256)

number_small : (n : ℕ) → Small (as_byte n)
number_small n = by_test Small (leb n 255) (λ e. omega (arith, leb-true n 255 e)) (λ e. tt)

set_small : (charset n : ℕ) → Small (local_byte charset n)
set_small charset n = go (local_byte charset n) refl
  where
    go : (m : Option ℕ) → local_byte charset n ≡ m → Small m
    go None e = tt
    go (Some byte) e = byte_small charset n byte e

byte_small_of : (charset : ℕ) (w : List ℕ) → Small (byte_of charset w)
unfolding byte_of
byte_small_of charset w =
    some_lem Small (λ c. is_scalar c ≡ true) (character_of w) tt (λ n h. either Small _ (number_small n) (set_small charset n)) (character_in_range w)

-- and its character is in range too
byte_character_in_range : (charset : ℕ) (w : List ℕ) → Passes is_operand (byte_character_of charset w)
unfolding byte_character_of
byte_character_in_range charset w =
    either (Passes is_operand) (is_unicode_escape w) tt
    (some_lem (Passes is_operand) (λ byte. byte < 256) (byte_of charset w) tt (local_operand charset) (byte_small_of charset w))

word_in_range : (charset : ℕ) (kind : OperandKind) (w : List ℕ) → Passes is_operand (word_value kind charset w)
word_in_range charset Character w = operand_in_range charset w
word_in_range charset Byte w = byte_character_in_range charset w

pub value_in_range : (charset : ℕ) (kind : OperandKind) (line : List ℕ) (at : ℕ) → OperandInRange (character_at charset kind line at)
unfolding character_at
value_in_range charset kind line at =
    ok_lem _ (operand_word line at) _
    (λ w. some_lem OperandInRange (λ c. is_operand c ≡ true) (word_value kind charset (bytes_of line w)) tt (λ c h. h)
    (word_in_range charset kind (bytes_of line w)))

-- ---- dots: each answer is a cell

abbrev CellInRange : Option (Parsed ℕ) → Type 0
CellInRange o = IfSome o (λ p. p.value < 256)

abbrev pub DotsInRange : Result (Parsed ℕ) LineFault → Type 0
DotsInRange r = IfOk r (λ p. p.value < 256)

raise_by_in_range : (cell k : ℕ) → cell < 256 → k < 8 → Small (raise_by cell (2 ^ k))
unfolding raise_by
raise_by_in_range cell k small l = by_test Small (eqb (cell / 2 ^ k % 2) 0) (λ e. room cell k small l (eqb-true (cell / 2 ^ k % 2) 0 e)) (λ e. tt)

raise_in_range : (cell b : ℕ) → cell < 256 → Small (raise cell b)
unfolding raise
raise_in_range cell b small =
    by_test Small (leb 49 b && leb b 56)
    (λ e. raise_by_in_range cell (b - 49) small (omega (arith, leb-true b 56 (both (leb 49 b) (leb b 56) e).1)))
    (λ e. tt)

raise_inside_in_range : (cell b : ℕ) → cell < 256 → Small (raise_inside cell b)
unfolding raise_inside
raise_inside_in_range cell b small = search (either Small, raise_in_range)

raised_lem : (o : Option ℕ) (more : ℕ → Option (Parsed ℕ)) → Small o → ((cell : ℕ) → cell < 256 → CellInRange (more cell)) → CellInRange (if_some o None more)
raised_lem o more h k = some_lem CellInRange (λ cell. cell < 256) o tt k h

ends_in_range : (bs : List ℕ) (i cell : ℕ) → cell < 256 → CellInRange (ends_at bs i cell)
unfolding ends_at
ends_in_range [] i cell small = small
ends_in_range (b ∷ bs) i cell small = search (either CellInRange)

digits_in_range : (bs : List ℕ) (i cell : ℕ) → cell < 256 → CellInRange (digits_at bs i cell)
unfolding digits_at
digits_in_range [] i cell small = small
digits_in_range (b ∷ bs) i cell small = search (either CellInRange, raised_lem, raise_in_range, digits_in_range bs)

inside_in_range : (bs : List ℕ) (i cell : ℕ) → cell < 256 → CellInRange (inside_at bs i cell)
unfolding inside_at
inside_in_range [] i cell small = tt
inside_in_range (b ∷ bs) i cell small = search (either CellInRange, ends_in_range, raised_lem, raise_inside_in_range, inside_in_range bs)

cell_in_range : (line : List ℕ) (at : ℕ) → CellInRange (cell_at line at)
unfolding cell_at
cell_in_range line at = search (either CellInRange, ends_in_range, digits_in_range, lit<)

read_in_range : (line : List ℕ) (at : ℕ) → CellInRange (dots_at line at)
unfolding dots_at
read_in_range line at = search (either CellInRange, inside_in_range, cell_in_range, lit<)

fault_in_range : (o : Option (Parsed ℕ)) (left : ℕ) → CellInRange o → DotsInRange (dots_fault o left)
fault_in_range None left h = tt
fault_in_range (Some p) left h = h

pub dots_in_range : (line : List ℕ) (at : ℕ) → DotsInRange (dots_operand_at line at)
unfolding dots_operand_at
dots_in_range line at = ok_lem _ (operand_word line at) _ (λ w. fault_in_range (dots_at line w.start) _ (read_in_range line w.start))

pub cell_operand_in_range : (line : List ℕ) (at : ℕ) → DotsInRange (cell_operand_at line at)
unfolding cell_operand_at
cell_operand_in_range line at = ok_lem _ (operand_word line at) _ (λ w. fault_in_range (cell_at line w.start) _ (cell_in_range line w.start))
