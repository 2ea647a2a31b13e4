-- The words of a compiled table, the definitions that they say, and the local character set that it is for.
use Rattle.std.specs.Prelude.{ℕ, zero, suc, ◌+◌, ◌*◌, ◌-◌, ◌/◌, ◌%◌, Bool, false, eqb, leb}
use Rattle.std.specs.Prelude.{List, [], ◌∷◌, ◌++◌, length, get_or, replicate}
use Rattle.basics.specs.Choice.{pick}
use Rattle.scalars.specs.Characters.{is_operand}
use Rattle.definitions.specs.declared.Meaning.{Meaning}
use Rattle.definitions.specs.declared.Meaning.TheVariants.{Typed, Shown, Alias}
use Rattle.definitions.specs.declared.Definition.{Definition}
use Rattle.definitions.specs.Definitions.{Table, table}

-- two words for each of 1,024 definitions
abbrev pub pair_words : ℕ
pair_words = 2048

-- the words of a table: behind its pairs the local character set, and a word that is zero
abbrev pub table_words : ℕ
table_words = 2050

-- 2^24, which parts the kind of a second word from its number
abbrev pub kind_unit : ℕ
kind_unit = 16777216

-- the second word: kind × 2^24 + number; kind 1 char, 2 glyph or byte, 3 alias
abbrev pub word_of : Meaning → ℕ
word_of (Typed dots) = 1 * kind_unit + dots
word_of (Shown dots) = 2 * kind_unit + dots
word_of (Alias target) = 3 * kind_unit + target

-- definition k fills words 2k and 2k+1
unfoldable pub words_of : List Definition → List ℕ
words_of [] = []
words_of (d ∷ ds) = d.character ∷ word_of d.meaning ∷ words_of ds

-- the pairs of some definitions: the other words of the 2,048 are zero
abbrev pub pairs_of : List Definition → List ℕ
pairs_of ds = words_of ds ++ replicate (pair_words - 2 * length ds) 0

-- the compiled table of some definitions, for a local character set
abbrev pub image_of : ℕ → List Definition → List ℕ
image_of charset ds = pairs_of ds ++ charset ∷ 0 ∷ []

-- the set that words are for
abbrev pub charset_of : List ℕ → ℕ
charset_of ws = get_or ws pair_words 0

-- dots are at most 255, a target is what an operand can stand for, and there is no other kind
abbrev pub is_sound_number : ℕ → ℕ → Bool
is_sound_number kind number =
    pick (eqb kind 1) (leb number 255)
    (pick (eqb kind 2) (leb number 255)
    (pick (eqb kind 3) (is_operand number)
    false))

unfoldable pub is_sound_word : ℕ → Bool
is_sound_word w = is_sound_number (w / kind_unit) (w % kind_unit)

-- what a second word says, if it is a sound one; of any other this is of no account
unfoldable pub meaning_of : ℕ → Meaning
meaning_of w =
    pick (eqb (w / kind_unit) 1) (Typed (w % 256))
    (pick (eqb (w / kind_unit) 2) (Shown (w % 256))
    (Alias (w % kind_unit)))

abbrev pub definition_of : ℕ → ℕ → Definition
definition_of c w = record { character = c; meaning = meaning_of w }

-- the same of a row of two words
abbrev pub definition_row : List ℕ → Definition
definition_row row = definition_of (get_or row 0 0) (get_or row 1 0)

-- the definitions of the first n pairs
unfoldable pub definitions : ℕ → List ℕ → List Definition
definitions zero ws = []
definitions (suc n) [] = []
definitions (suc n) (c ∷ []) = []
definitions (suc n) (c ∷ w ∷ ws) = definition_of c w ∷ definitions n ws

-- the table that they are
abbrev pub table_of : ℕ → List ℕ → Table
table_of n ws = table (definitions n ws)
