-- Compiling a byte table: one line a byte and one a dot at most, and the cells of the 256 bytes.
use Rattle.std.specs.Prelude.{ℕ, ◌+◌, true, List, [], ◌∷◌, Option, None, Some, Result, Ok, Err, get_or, set, replicate}
use Rattle.basics.specs.Choice.{pick}
use Rattle.basics.specs.Refusals.{Reply}
use Rattle.basics.specs.declared.Refusal.TheVariants.{AlreadyDefined, UnknownCharset}
use Rattle.scalars.specs.Characters.{is_charset}
use Rattle.lines.specs.Texts.{Step, next, stop, Outcome, accepted, rejected, run_text, outcome_reply}
use Rattle.lines.specs.declared.LineFault.{LineFault}
use Rattle.attributes.specs.Cells.{cell_by, all_unnamed}
use Rattle.attributes.specs.Compile.{dot_states, with_dot}
use Rattle.attributes.specs.declared.State.{State}
use Rattle.attributes.specs.declared.DotStates.{DotStates}
use Rattle.byte_tables.specs.Reader.{read_table_line}
use Rattle.byte_tables.specs.declared.SoFar.{SoFar}
use Rattle.byte_tables.specs.declared.TableLine.{TableLine}
use Rattle.byte_tables.specs.declared.TableLine.TheVariants.{Skip, Dot, Byte}

abbrev pub byte_count : ℕ
byte_count = 256

-- what the lines so far leave: the cell of each byte that has a line, the states of the dots, and how many byte lines
-- there were
abbrev pub so_far : List (Option ℕ) → DotStates → ℕ → SoFar
so_far slots dots count = record { slots = slots; dots = dots; count = count }

-- before the first line
abbrev pub begun : SoFar
begun = so_far (replicate byte_count None) (dot_states all_unnamed 0) 0

-- a dot's line is what it is in an attributes table
abbrev pub with_dots : SoFar → Step DotStates → Step SoFar
with_dots s (next dots) = next (so_far s.slots dots s.count)
with_dots s (stop refusal left) = stop refusal left

-- a byte has one line at most; a second is at fault at its first word
abbrev pub with_byte : SoFar → Option ℕ → ℕ → ℕ → ℕ → Step SoFar
with_byte s None byte cell left = next (so_far (set s.slots byte (Some cell)) s.dots (s.count + 1))
with_byte s (Some earlier) byte cell left = stop AlreadyDefined left

abbrev pub with_line : SoFar → Result TableLine LineFault → Step SoFar
with_line s (Err fault) = stop fault.refusal fault.left
with_line s (Ok Skip) = next s
with_line s (Ok (Dot d)) = with_dots s (with_dot s.dots d)
with_line s (Ok (Byte byte cell left)) = with_byte s (get_or s.slots byte None) byte cell left

unfoldable pub step : ℕ → SoFar → List ℕ → Step SoFar
step charset s line = with_line s (read_table_line charset line)

-- the table of a text in a local character set: 21, then 1, then the first faulty line
unfoldable pub compiled_bytes : ℕ → List ℕ → Outcome SoFar
compiled_bytes charset text =
    pick (is_charset charset) (run_text (step charset) begun text)
    (rejected UnknownCharset 0 0)

-- the answer: the count of its byte lines, the `dot` lines not counted, or the refusal with its line
abbrev pub bytes_reply : Outcome SoFar → Reply ℕ
bytes_reply outcome = outcome_reply (λ (s : SoFar). s.count) outcome

-- the cell of a byte: that of its line, else by the states of the dots, where one without a line is raised
abbrev pub shown_by : List State → Option ℕ → ℕ → ℕ
shown_by places None byte = cell_by true places byte
shown_by places (Some cell) byte = cell

-- the cells of some bytes by their slots, one byte after another
unfoldable pub cells_from : List State → List (Option ℕ) → ℕ → List ℕ
cells_from places [] byte = []
cells_from places (own ∷ owns) byte = shown_by places own byte ∷ cells_from places owns (byte + 1)

-- all 255: what stands for the cells where there are none
abbrev pub no_cells : List ℕ
no_cells = replicate byte_count 255

-- the cells of all bytes, none where the text is refused
abbrev pub outcome_cells : Outcome SoFar → List ℕ
outcome_cells (accepted s) = cells_from s.dots.places s.slots 0
outcome_cells (rejected refusal line column) = no_cells
