-- The compile call of text tables in both editions: 2, the present one, and 1, byte tables. Any other is refused before
-- all else; the compile call of each edition refuses an unknown set before all else.
use Rattle.std.specs.Prelude.{ℕ, List, eqb}
use Rattle.basics.specs.Choice.{pick}
use Rattle.basics.specs.Refusals.{Reply, refused}
use Rattle.lines.specs.Texts.{outcome_column}
use Rattle.compiler.specs.Compile.{compile_reply, compile_column, compile_words}
use Rattle.byte_tables.specs.Compile.{compiled_bytes, bytes_reply, no_cells, outcome_cells}

-- what follows in edition 2, in edition 1, and in any other
abbrev pub in_edition : {A : Type 0} → ℕ → A → A → A → A
in_edition edition present old other = pick (eqb edition 2) present (pick (eqb edition 1) old other)

-- the answer, for a slice of so many words: the count of definitions or of byte lines, or the refusal with its line
unfoldable pub edition_reply : ℕ → ℕ → List ℕ → ℕ → Reply ℕ
edition_reply edition charset text words =
    in_edition edition (compile_reply charset text words) (bytes_reply (compiled_bytes charset text)) (refused 20 0)

-- and the column of its refusal, which 20 does not have
unfoldable pub edition_column : ℕ → ℕ → List ℕ → ℕ → ℕ
edition_column edition charset text words =
    in_edition edition (compile_column charset text words) (outcome_column (compiled_bytes charset text)) 0

-- the lent slice after the call: only edition 2 looks at it
unfoldable pub edition_words : ℕ → ℕ → List ℕ → List ℕ → List ℕ
edition_words edition charset text ws = in_edition edition (compile_words charset text ws) ws ws

-- the cells of the 256 bytes, which only a byte table has
unfoldable pub edition_cells : ℕ → ℕ → List ℕ → List ℕ
edition_cells edition charset text = in_edition edition no_cells (outcome_cells (compiled_bytes charset text)) no_cells
