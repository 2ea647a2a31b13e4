-- What the exported calls answer, as one number of 64 bits.
use Rattle.std.specs.Prelude.{ℕ, zero, suc, ◌+◌, ◌*◌, ◌^◌, min, ◌-◌, List, [], ◌∷◌, map, length, ltb}
use Rattle.std.specs.Prelude.{Option, None, Some}
use Rattle.basics.specs.Choice.{pick, if_some}
use Rattle.basics.specs.Refusals.{Reply, answered, refused}
use Rattle.basics.specs.Buffers.{over}
use Rattle.lines.specs.Texts.{outcome_column}
use Rattle.rules.specs.declared.Answer.{Answer}
use Rattle.by_order.specs.declared.Sought.{Sought}
use Rattle.typing.specs.Typing.{typing_reply, typing_entries, typed_by}
use Rattle.attributes.specs.declared.State.{State}
use Rattle.attributes.specs.Cells.{attribute_cell}
use Rattle.attributes.specs.Compile.{compiled_attributes, attributes_reply, outcome_places}
use Rattle.byte_tables.specs.Compile.{compiled_bytes, bytes_reply, outcome_cells}

-- a refusal: its number × 2^48 + its column × 2^32 + its place; a column beyond 2^16 − 1 is given as that, a place
-- beyond 2^32 − 1 as that
abbrev pub refusal_code : ℕ → ℕ → ℕ → ℕ
refusal_code number column place = number * 2 ^ 48 + min column (2 ^ 16 - 1) * 2 ^ 32 + min place (2 ^ 32 - 1)

-- an answer by its own code, a refusal by its own, with its column, which only compiling has: 0 elsewhere
abbrev pub code_of : {A : Type 0} → (A → ℕ) → ℕ → Reply A → ℕ
code_of code column (answered a) = code a
code_of code column (refused number place) = refusal_code number column place

-- compiling: the count of definitions, of `dot` lines, of byte lines
abbrev pub compile_code : ℕ → Reply ℕ → ℕ
compile_code column reply = code_of (λ count. count) column reply

-- lookup: cell + 2^8 × rule + 2^16 × links
abbrev pub answer_code : Answer → ℕ
answer_code a = a.cell + 2 ^ 8 * a.rule + 2 ^ 16 * a.links

abbrev pub lookup_code : Reply Answer → ℕ
lookup_code reply = code_of answer_code 0 reply

-- a call that fills buffers and has no value: 0
abbrev pub filling_code : Reply (Unit {0}) → ℕ
filling_code reply = code_of (λ u. 0) 0 reply

-- a call that answers a count or a length: that number
abbrev pub count_code : Reply ℕ → ℕ
count_code reply = code_of (λ count. count) 0 reply

-- a search: comparisons + 2^8 × (pair + 1), the second 0 for none
abbrev pub pair_code : Option ℕ → ℕ
pair_code (Some k) = k + 1
pair_code None = 0

abbrev pub sought_code : Sought → ℕ
sought_code s = s.comparisons + 2 ^ 8 * pair_code s.pair

abbrev pub search_code : Reply Sought → ℕ
search_code reply = code_of sought_code 0 reply

-- typing: 0 for nothing, else the character + 1
abbrev pub character_code : Option ℕ → ℕ
character_code typed = if_some typed 0 (λ c. c + 1)

abbrev pub typed_code : List ℕ → ℕ → ℕ
typed_code ws cell = code_of (λ u. character_code (typed_by ws cell)) 0 (typing_reply ws)

-- attributes: the cell of the byte
abbrev pub attribute_code : List ℕ → ℕ → ℕ
attribute_code text byte =
    code_of (λ lines. attribute_cell (outcome_places (compiled_attributes text)) byte)
    (outcome_column (compiled_attributes text)) (attributes_reply (compiled_attributes text))

-- ---- for all 256 cells, for all 256 bytes

-- as many cells as eight dots have, and as many attribute bytes
abbrev pub cell_count : ℕ
cell_count = 256

-- a buffer of fewer elements is refused before all else
abbrev pub with_room : {A : Type 0} → ℕ → Reply A → Reply A
with_room room reply = pick (ltb room cell_count) (refused 2 0) reply

-- and has no column
abbrev pub column_with_room : ℕ → ℕ → ℕ
column_with_room room column = pick (ltb room cell_count) 0 column

-- a buffer after the call: what is written stands at its front, and a refusal writes nothing
abbrev pub after : {A : Type 0} → Reply A → List ℕ → List ℕ → List ℕ
after (answered a) new old = over new old
after (refused number place) new old = old

-- the entries of all cells
abbrev pub entries_reply : List ℕ → ℕ → Reply (Unit {0})
entries_reply ws room = with_room room (typing_reply ws)

abbrev pub entry_code : Option ℕ → ℕ
entry_code typed = character_code typed

abbrev pub entries_after : List ℕ → List ℕ → List ℕ
entries_after ws old = after (entries_reply ws (length old)) (map entry_code (typing_entries ws)) old

-- the cells of all attribute bytes
abbrev pub cells_reply : List ℕ → ℕ → Reply ℕ
cells_reply text room = with_room room (attributes_reply (compiled_attributes text))

abbrev pub cells_column : List ℕ → ℕ → ℕ
cells_column text room = column_with_room room (outcome_column (compiled_attributes text))

-- so many numbers, one after another
unfoldable pub numbers_from : ℕ → ℕ → List ℕ
numbers_from first zero = []
numbers_from first (suc count) = first ∷ numbers_from (first + 1) count

abbrev pub cells_of : List State → List ℕ
cells_of places = map (λ (byte : ℕ). attribute_cell places byte) (numbers_from 0 cell_count)

abbrev pub cells_after : List ℕ → List ℕ → List ℕ
cells_after text old =
    after (cells_reply text (length old)) (cells_of (outcome_places (compiled_attributes text))) old

-- the cells of all bytes of a byte table: those of a refused text are written too, and those under 21
abbrev pub byte_cells_reply : ℕ → List ℕ → ℕ → Reply ℕ
byte_cells_reply charset text room = with_room room (bytes_reply (compiled_bytes charset text))

abbrev pub byte_cells_column : ℕ → List ℕ → ℕ → ℕ
byte_cells_column charset text room = column_with_room room (outcome_column (compiled_bytes charset text))

abbrev pub byte_cells_after : ℕ → List ℕ → List ℕ → List ℕ
byte_cells_after charset text old =
    pick (ltb (length old) cell_count) old (over (outcome_cells (compiled_bytes charset text)) old)
