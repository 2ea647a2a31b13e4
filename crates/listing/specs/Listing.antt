-- A table listed back as text, one line a definition, in order; and what the listing call answers and writes.
use Rattle.std.specs.Prelude.{ℕ, ◌≡◌, List, [], ◌∷◌, ◌++◌, Result, length, ltb}
use Rattle.basics.specs.Ascii.{ascii}
use Rattle.basics.specs.Choice.{pick}
use Rattle.basics.specs.Refusals.{reply_of, Reply, answered, refused, and_then}
use Rattle.basics.specs.Buffers.{written_reply, written_over}
use Rattle.basics.specs.declared.Refused.{Refused}
use Rattle.definitions.specs.declared.Meaning.{Meaning}
use Rattle.definitions.specs.declared.Meaning.TheVariants.{Typed, Shown, Alias}
use Rattle.definitions.specs.declared.Definition.{Definition}
use Rattle.table.specs.Check.{lent_table}
use Rattle.writing.specs.Writing.{hex_digits, dots_text}

-- a character is always `\U` with eight digits
abbrev pub escaped : ℕ → List ℕ
escaped c = 92 ∷ 85 ∷ hex_digits 8 c

-- the directive word of a definition, and what follows its character: the dots, or the target
abbrev pub directive_word : Meaning → List ℕ
directive_word (Typed dots) = ascii "char"
directive_word (Shown dots) = ascii "glyph"
directive_word (Alias target) = ascii "alias"

abbrev pub operand_text : Meaning → List ℕ
operand_text (Typed dots) = dots_text dots
operand_text (Shown dots) = dots_text dots
operand_text (Alias target) = escaped target

-- a line, without its LF: a blank stands before each operand
abbrev pub line_of : Definition → List ℕ
line_of d = (directive_word d.meaning ++ (32 ∷ escaped d.character)) ++ (32 ∷ operand_text d.meaning)

unfoldable pub listing : List Definition → List ℕ
listing [] = []
listing (d ∷ ds) = line_of d ++ (10 ∷ listing ds)

-- the call, for a buffer of so many bytes: the text that it writes, or a refusal; 2 or 15 of the table, then 2 where
-- the text is longer
unfoldable pub listing_plan : List ℕ → ℕ → Reply (List ℕ)
listing_plan ws room =
    and_then (lent_table ws) (λ ds. pick (ltb room (length (listing ds))) (refused 2 0) (answered (listing ds)))

-- its answer is the length
abbrev pub listing_reply : Reply (List ℕ) → Reply ℕ
listing_reply plan = written_reply plan

-- the buffer after the call, from what it held: a refusal writes nothing
abbrev pub listing_bytes : Reply (List ℕ) → List ℕ → List ℕ
listing_bytes plan old = written_over plan old

-- what the call is to do by its plan: its answer, and the buffer
pub record Lists (ws old : List ℕ) (r : Result ℕ Refused) (new : List ℕ) : Type 0 where
  pub answer : reply_of r ≡ listing_reply (listing_plan ws (length old))
  pub bytes : new ≡ listing_bytes (listing_plan ws (length old)) old
