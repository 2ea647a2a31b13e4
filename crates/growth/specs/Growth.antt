-- Demand 3, "Growing a table never spoils an answer": what is claimed of a text, of bytes after it, and of two lent
-- slices, in one local character set.
use Rattle.std.specs.Prelude.{ℕ, ◌≤◌, ◌<◌, ◌≡◌, true, false, List, [], ◌++◌, length, Some}
use Rattle.basics.specs.Refusals.{answered}
use Rattle.scalars.specs.Characters.{is_scalar, local_of, base_of, stand_in_of}
use Rattle.lines.specs.Lines.{lines_of, is_ended}
use Rattle.lines.specs.Texts.{Outcome, accepted, rejected}
use Rattle.definitions.specs.declared.Definition.{Definition}
use Rattle.definitions.specs.Definitions.{table, walk}
use Rattle.definitions.specs.Effects.{is_defined}
use Rattle.rules.specs.declared.Answer.{Answer}
use Rattle.lookup.specs.Calls.{lookup_reply}
use Rattle.typing.specs.Typing.{typing_reply, typed_by}
use Rattle.compiler.specs.Compile.{compiled, effects, compile_reply, compile_words}

-- the definitions of a text that is accepted
abbrev pub accepting : Outcome (List Definition) → List Definition
accepting (accepted ds) = ds
accepting (rejected refusal line column) = []

-- a definition is added exactly if it takes effect at a line in the bytes after the first text
abbrev pub added : ℕ → List ℕ → List ℕ → List Definition
added charset text more = effects charset (accepting (compiled charset text)) (lines_of more)

-- no added definition is for that character
abbrev pub NotAdded : ℕ → List ℕ → List ℕ → ℕ → Type 0
NotAdded charset text more c = is_defined (added charset text more) c ≡ false

-- the end of a character's alias walk in the first table
abbrev pub walk_end : ℕ → List ℕ → ℕ → ℕ
walk_end charset text c = (walk (table (accepting (compiled charset text))) c).end

-- no added definition is for any of these, c being the character as it stands after rule 2
pub record Apart (charset : ℕ) (text more : List ℕ) (c : ℕ) : Type 0 where
  pub own : NotAdded charset text more c
  pub base : (b : ℕ) → base_of c ≡ Some b → NotAdded charset text more b
  pub stand_in : (s : ℕ) → stand_in_of c ≡ Some s → NotAdded charset text more s
  pub end : NotAdded charset text more (walk_end charset text c)
  pub replacement : NotAdded charset text more 0xFFFD
  pub question : NotAdded charset text more 0x3F

-- what lookup answers for a character on the words of the first table and of the grown one
pub record Lookups (charset : ℕ) (text more first grown : List ℕ) (c : ℕ) : Type 0 where
  pub before : Answer
  pub after : Answer
  pub answers_before : lookup_reply first c ≡ answered before
  pub answers_after : lookup_reply grown c ≡ answered after
  pub rule_falls_or_stays : after.rule ≤ before.rule
  pub same_rule_same_cell : after.rule ≡ before.rule → after.cell ≡ before.cell
  pub same_where_apart : Apart charset text more (local_of charset c) → after ≡ before

-- what typing answers on them
pub record Typings (first grown : List ℕ) : Type 0 where
  pub answers_before : typing_reply first ≡ answered tt
  pub answers_after : typing_reply grown ≡ answered tt
  pub types_the_same : (cell c : ℕ) → cell < 256 → typed_by first cell ≡ Some c → typed_by grown cell ≡ Some c

-- a text that compiling accepts and that is empty or ends in LF, bytes after it with which compiling accepts it too,
-- and two slices, of at least 2,050 words or compiling would refuse them
pub record Growing (charset : ℕ) (text more slice slice' : List ℕ) : Type 0 where
  pub ended : is_ended text ≡ true
  pub count : ℕ
  pub accepts : compile_reply charset text (length slice) ≡ answered count
  pub count' : ℕ
  pub accepts' : compile_reply charset (text ++ more) (length slice') ≡ answered count'

-- the whole claim, of the two slices as compiled
pub record NeverSpoils (charset : ℕ) (text more slice slice' : List ℕ) : Type 0 where
  pub shown : (c : ℕ) → is_scalar c ≡ true
      → Lookups charset text more (compile_words charset text slice) (compile_words charset (text ++ more) slice') c
  pub typed : Typings (compile_words charset text slice) (compile_words charset (text ++ more) slice')
