-- Compiling: what a line does to the definitions and the open blocks so far, and what the compile call answers and
-- writes.
use Rattle.std.specs.Prelude.{ℕ, ◌+◌, not, ◌||◌, List, [], ◌∷◌, ◌++◌, length, drop, replicate, ltb, Result, Ok, Err}
use Rattle.basics.specs.Choice.{pick, if_ok}
use Rattle.basics.specs.Refusals.{Reply, refused}
use Rattle.basics.specs.declared.Refusal.{Refusal}
use Rattle.basics.specs.declared.Refusal.TheVariants.{UnclosedBlock}
use Rattle.scalars.specs.Characters.{is_charset}
use Rattle.lines.specs.declared.LineFault.{LineFault}
use Rattle.lines.specs.Lines.{without_cr}
use Rattle.lines.specs.Texts.{text_limit, Step, next, stop}
use Rattle.lines.specs.Texts.{Outcome, accepted, rejected, run_text, outcome_reply, outcome_column}
use Rattle.blocks.specs.Blocks.{around_of, blocks_after, starts_after}
use Rattle.blocks.specs.declared.OpenBlock.{OpenBlock}
use Rattle.definitions.specs.declared.Definition.{Definition}
use Rattle.definitions.specs.Effects.{verdict_of}
use Rattle.pairs.specs.Words.{table_words, image_of}
use Rattle.reader.specs.Reader.{read_line}
use Rattle.reader.specs.declared.Reading.{Reading}
use Rattle.reader.specs.declared.Reading.TheVariants.{NoEffect, Define, Block}

-- 22, 11, 12, 13, which only a definition that takes effect can give
abbrev pub judged : Result (Unit {0}) Refusal → Definition → ℕ → Result Reading LineFault
judged (Ok u) d left = Ok (Define d left)
judged (Err refusal) d left = Err (record { refusal = refusal; left = left })

abbrev pub effect_of : List Definition → Reading → Result Reading LineFault
effect_of ds NoEffect = Ok NoEffect
effect_of ds (Define d left) = judged (verdict_of ds d) d left
effect_of ds (Block line) = Ok (Block line)

-- what a line does inside these open blocks, in a local character set: its first fault, nothing, the definition that
-- takes effect, or what it does to the blocks
unfoldable pub line_effect : ℕ → List Definition → List OpenBlock → List ℕ → Result Reading LineFault
line_effect charset ds bs line = if_ok (read_line charset ds (around_of bs) line) (λ reading. effect_of ds reading)

-- what the lines so far leave: their definitions, the open blocks, the lines that opened these, and how many lines
-- there were
pub record SoFar : Type 0 where
  pub definitions : List Definition
  pub blocks : List OpenBlock
  pub starts : List ℕ
  pub lines : ℕ

abbrev pub so_far : List Definition → List OpenBlock → List ℕ → ℕ → SoFar
so_far ds bs starts lines = record { definitions = ds; blocks = bs; starts = starts; lines = lines }

-- before the first line
abbrev pub begun : SoFar
begun = so_far [] [] [] 0

-- one line more, with what takes effect at it
abbrev pub with_effect : SoFar → Result Reading LineFault → Step SoFar
with_effect s (Err fault) = stop fault.refusal fault.left
with_effect s (Ok NoEffect) = next (so_far s.definitions s.blocks s.starts (s.lines + 1))
with_effect s (Ok (Define d left)) = next (so_far (s.definitions ++ d ∷ []) s.blocks s.starts (s.lines + 1))
with_effect s (Ok (Block line)) =
    next (so_far s.definitions (blocks_after line s.blocks) (starts_after line (s.lines + 1) s.starts) (s.lines + 1))

unfoldable pub step : ℕ → SoFar → List ℕ → Step SoFar
step charset s line = with_effect s (line_effect charset s.definitions s.blocks line)

-- 18, after all line faults: a block that is open at the end, at the line that opened the innermost, without a column
abbrev pub closed_by : List ℕ → List Definition → Outcome (List Definition)
closed_by [] ds = accepted ds
closed_by (line ∷ starts) ds = rejected UnclosedBlock line 0

abbrev pub closing : Outcome SoFar → Outcome (List Definition)
closing (accepted s) = closed_by s.starts s.definitions
closing (rejected refusal line column) = rejected refusal line column

-- the definitions of a text
unfoldable pub compiled : ℕ → List ℕ → Outcome (List Definition)
compiled charset text = closing (run_text (step charset) begun text)

-- the definitions that take effect at some lines, after the definitions and inside the open blocks of the lines before
abbrev pub and_after : List Definition → List OpenBlock → Result Reading LineFault
    → (List Definition → List OpenBlock → List Definition) → List Definition
and_after ds bs (Err fault) more = []
and_after ds bs (Ok NoEffect) more = more ds bs
and_after ds bs (Ok (Define d left)) more = d ∷ more (ds ++ d ∷ []) bs
and_after ds bs (Ok (Block line)) more = more ds (blocks_after line bs)

unfoldable pub effects_within : ℕ → List Definition → List OpenBlock → List (List ℕ) → List Definition
effects_within charset ds bs [] = []
effects_within charset ds bs (l ∷ ls) =
    and_after ds bs (line_effect charset ds bs (without_cr l)) (λ ds' bs'. effects_within charset ds' bs' ls)

-- where no block is open before the first of the lines
abbrev pub effects : ℕ → List Definition → List (List ℕ) → List Definition
effects charset ds ls = effects_within charset ds [] ls

-- the answer: the count of definitions, or the refusal with its line
abbrev pub compiled_count : Outcome (List Definition) → Reply ℕ
compiled_count outcome = outcome_reply (λ (ds : List Definition). length ds) outcome

-- the compile call, for a slice of so many words: 21, then 2, then 1, then the first faulty line, then a block that is
-- open at the end
unfoldable pub compile_reply : ℕ → List ℕ → ℕ → Reply ℕ
compile_reply charset text words =
    let read : Reply ℕ = compiled_count (compiled charset text) in
    pick (is_charset charset) (pick (ltb words table_words) (refused 2 0) read) (refused 21 0)

-- and the column of its refusal, which 21 and 2 do not have
unfoldable pub compile_column : ℕ → List ℕ → ℕ → ℕ
compile_column charset text words =
    pick (is_charset charset) (pick (ltb words table_words) 0 (outcome_column (compiled charset text))) 0

-- the 2,050 words: zero where the text is refused
abbrev pub outcome_words : ℕ → Outcome (List Definition) → List ℕ
outcome_words charset (accepted ds) = image_of charset ds
outcome_words charset (rejected refusal line column) = replicate table_words 0

-- the lent slice after the call: refusals 21, 2 and 1 touch nothing, and nothing touches words beyond 2,050
unfoldable pub compile_words : ℕ → List ℕ → List ℕ → List ℕ
compile_words charset text ws =
    let written : List ℕ = outcome_words charset (compiled charset text) ++ drop table_words ws in
    pick (not (is_charset charset) || (ltb (length ws) table_words || ltb text_limit (length text))) ws written
