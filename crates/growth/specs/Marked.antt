-- The cases that document 01 marks with *, as one table; and when a case comes out.
use Rattle.std.specs.Prelude.{ℕ, Bool, true, false, not, ◌&&◌, List, [], ◌∷◌, eqb, replicate, is_some}
use Prim.Native.String.{String}
use Rattle.basics.specs.Ascii.{ascii}
use Rattle.basics.specs.Refusals.{Reply, answered, refused}
use Rattle.pairs.specs.Words.{table_words}
use Rattle.rules.specs.declared.Answer.{Answer}
use Rattle.lookup.specs.Calls.{lookup_reply}
use Rattle.typing.specs.Typing.{typed_by}
use Rattle.compiler.specs.Compile.{compile_reply, compile_words}
use Rattle.attributes.specs.Cells.{attribute_cell}
use Rattle.attributes.specs.Compile.{compiled_attributes, attributes_reply, outcome_places}

abbrev pub small_table : String
small_table = "char a 1\nchar b (12)\nglyph A 17\nalias \\u00E4 a\nalias \\u03B1 \\u00E4\nchar ? 1456\n"

abbrev pub small_attributes : String
small_attributes = "dot 1 =fg-red\ndot 4 ~bg-blue\n"

pub data Case : Type 0 where
  -- a text table and a character: its cell, rule and links
  shows : String → ℕ → ℕ → ℕ → ℕ → Case
  -- a text table and a cell that types nothing
  types_nothing : String → ℕ → Case
  -- an attributes table and an attribute byte: its cell
  raises : String → ℕ → ℕ → Case

abbrev pub marked : List Case
marked =
    shows small_table 0x61 0x01 3 0
    ∷ shows small_table 0xE4 0x01 4 1
    ∷ shows small_table 0x3B1 0x01 4 2
    ∷ shows small_table 0xE0 0x01 5 0
    ∷ shows small_table 0xC5 0x41 5 0
    ∷ shows small_table 0xE6 0x01 6 0
    ∷ shows small_table 0xE9 0x39 8 0
    ∷ shows small_table 0x2809 0x09 1 0
    ∷ shows small_table 0xF061 0x01 19 0
    ∷ types_nothing small_table 0x41
    ∷ shows "" 0x61 0xFF 9 0
    ∷ raises small_attributes 0x04 0x09
    ∷ raises small_attributes 0x10 0x00
    ∷ []

-- the 2,050 words that a text compiles to, by ISO 8859-1, in a slice that held something else
unfoldable pub words_for : String → List ℕ
words_for text = compile_words 1 (ascii text) (replicate table_words 7)

abbrev pub is_answer : Reply Answer → ℕ → ℕ → ℕ → Bool
is_answer (answered a) cell rule links = eqb a.cell cell && (eqb a.rule rule && eqb a.links links)
is_answer (refused number place) cell rule links = false

abbrev pub is_accepted : Reply ℕ → Bool
is_accepted (answered count) = true
is_accepted (refused number line) = false

-- whether a case comes out as it is written, its text being accepted; the words that a refused one leaves answer no
-- lookup
unfoldable pub comes_out : Case → Bool
comes_out (shows text c cell rule links) = is_answer (lookup_reply (words_for text) c) cell rule links
comes_out (types_nothing text cell) =
    is_accepted (compile_reply 1 (ascii text) table_words) && not (is_some (typed_by (words_for text) cell))
comes_out (raises text byte cell) =
    is_accepted (attributes_reply (compiled_attributes (ascii text)))
    && eqb (attribute_cell (outcome_places (compiled_attributes (ascii text))) byte) cell

unfoldable pub every_one : List Case → Bool
every_one [] = true
every_one (k ∷ ks) = comes_out k && every_one ks
