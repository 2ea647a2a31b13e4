-- What is written for all 256 cells or bytes: each element, and the whole buffer.
use Rattle.std.specs.Prelude.{ℕ, zero, suc, ◌+◌, ◌^◌, ◌≤◌, ◌<◌, ◌≡◌, List, [], ◌∷◌, map, Option, length, take, get_or, set}
use Rattle.std.proofs.Common.{refl, sym, ap, ◌∙◌, arith}
use lib.Seq.{length-take-le}
use lib.ListN.{length-replicate, get_or-replicate}
use borrow.Author.Tests.{le-ltb}
use Rattle.basics.specs.Refusals.{Reply, answered, refused}
use Rattle.basics.proofs.Tests.{either}
use Rattle.basics.specs.Buffers.{over}
use Rattle.definitions.specs.declared.Definition.{Definition}
use Rattle.definitions.specs.Definitions.{types, typed_in}
use Rattle.table.specs.Check.{lent_table}
use Rattle.table.proofs.Readback.{AllInRange, operand_small, lent_in_range}
use Rattle.lookup.proofs.Buffers.{filled_to, filled_more, filled_all}
use Rattle.typing.specs.Typing.{nothing, entries_by, typing_entries}
use Rattle.typing.proofs.TypedCells.{entry_types, entries_length}
use Rattle.attributes.specs.declared.State.{State}
use Rattle.attributes.specs.Cells.{attribute_cell}
use Rattle.byte_tables.specs.Compile.{compiled_bytes, outcome_cells}
use Rattle.codes.specs.Codes.{character_code, cell_count, numbers_from, cells_of, byte_cells_after}
use Rattle.codes.specs.Internal.{EntriesFit}

-- ---- the elements one after another

-- a list with an element for each cell or byte, of which the first i are written
module _ {A : Type 0} (f : A → ℕ) (l : List A) (size : length l ≡ cell_count) (old : List ℕ) (i : ℕ) {new : List ℕ} (e : new ≡ filled_to f l i old) where
  pub all_more : (d : A) {v : ℕ} → i < cell_count → cell_count ≤ length old → v ≡ f (get_or l i d) → set new i v ≡ filled_to f l (i + 1) old
  all_more d h room p = filled_more f l old i d (omega arith) (omega arith) e p

  pub all_over : i ≤ cell_count → cell_count ≤ i → new ≡ over (map f l) old
  all_over h k = filled_all f l old i (omega arith) (omega arith) e

-- ---- numbers one after another

pub numbers_length : (first count : ℕ) → length (numbers_from first count) ≡ count
unfolding numbers_from
numbers_length first zero = refl
numbers_length first (suc count) = ap suc (numbers_length (first + 1) count)

number_at : (first count i : ℕ) → i < count → get_or (numbers_from first count) i 0 ≡ first + i
unfolding numbers_from
number_at first zero i h = absurd (omega arith)
number_at first (suc count) zero h = omega arith
number_at first (suc count) (suc i) h = omega (arith, number_at (first + 1) count i (omega arith))

-- the bytes are such a list, and the one at place i is i
abbrev pub cells_to : List State → ℕ → List ℕ → List ℕ
cells_to places i old = filled_to (λ (byte : ℕ). attribute_cell places byte) (numbers_from 0 cell_count) i old

-- the cell of byte i is written at its place
module _ (places : List State) (old : List ℕ) (i at : ℕ) {new : List ℕ} {v : ℕ} (e : new ≡ cells_to places i old) (same : at ≡ i)
    (room : cell_count ≤ length old) (p : v ≡ attribute_cell places i) where
  pub cells_more : i ≤ 255 → set new at v ≡ cells_to places (i + 1) old
  cells_more h =
      let here : get_or (numbers_from 0 cell_count) i 0 ≡ i = omega (arith, number_at 0 cell_count i (omega arith)) in
      rw same
      (all_more (λ (byte : ℕ). attribute_cell places byte) (numbers_from 0 cell_count) (numbers_length 0 cell_count) old i e 0 (omega arith) room
      (rw here p))

  pub cells_last : i ≡ 255 → set new at v ≡ over (cells_of places) old
  cells_last last =
      all_over (λ (byte : ℕ). attribute_cell places byte) (numbers_from 0 cell_count) (numbers_length 0 cell_count) old (i + 1)
      (cells_more (omega arith)) (omega arith) (omega arith)

-- the size of an array that is copied
pub size_within : (all old : List ℕ) → length all ≡ cell_count → cell_count ≤ length old → length (take cell_count old) ≡ length all
size_within all old size room = length-take-le cell_count old room ∙ sym size

-- ---- what a table types

typed_small : (ds : List Definition) → AllInRange ds → (cell : ℕ) → character_code (typed_in ds cell) < 2 ^ 32
unfolding typed_in
typed_small [] f cell = omega arith
typed_small (d ∷ ds) f cell =
    either (λ (m : Option ℕ). character_code m < 2 ^ 32) (types d.meaning cell) (omega (arith, operand_small d.character f.0.character))
    (typed_small ds f.1 cell)

pub entries_fit : (ws : List ℕ) {es : List (Option ℕ)} → es ≡ typing_entries ws → EntriesFit es
entries_fit ws e = rw e (go (lent_table ws) refl)
  where
    go : (lent : Reply (List Definition)) → lent_table ws ≡ lent → EntriesFit (entries_by lent)
    go (answered ds) p = record {
      size = entries_length ds;
      each = λ cell h. rw (entry_types ds cell h) (typed_small ds (lent_in_range ws ds p) cell);
    }
    go (refused number place) p = record {
      size = length-replicate cell_count nothing;
      each = λ cell h. rw (get_or-replicate cell_count cell nothing nothing h) (omega arith);
    }

-- ---- what the byte table's call leaves

-- its cells are written also where its text is refused
pub bytes_left : (charset : ℕ) (text : List ℕ) {all : List ℕ} (old : List ℕ) {left : List ℕ} → cell_count ≤ length old
    → all ≡ outcome_cells (compiled_bytes charset text) → left ≡ over all old → left ≡ byte_cells_after charset text old
bytes_left charset text old long from e = rw (le-ltb (length old) cell_count long, ← from) e
