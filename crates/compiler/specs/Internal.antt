-- What the code knows beyond the rules: the words and the state between two lines, and after the last.
use Rattle.std.specs.Prelude.{ℕ, ◌≡◌, List, ◌++◌, drop, Result, Ok, Err}
use Rattle.lines.specs.declared.LineFault.{LineFault}
use Rattle.lines.specs.declared.Rejection.{Rejection}
use Rattle.lines.specs.Texts.{Step, next, stop, Outcome, outcome_column, compiled_reply, compiled_column}
use Rattle.blocks.specs.Internal.{no_blocks, blocks_of, starts_of}
use Rattle.definitions.specs.declared.Definition.{Definition}
use Rattle.pairs.specs.Words.{pair_words, table_words, charset_of, definitions}
use Rattle.table.specs.Internal.{Written}
use Rattle.compiler.specs.Compile.{SoFar, so_far, step, compiled_count, outcome_words}
use Rattle.compiler.specs.declared.State.{State}

-- what words and a state stand for
abbrev pub standing : List ℕ → State → SoFar
standing ws s = so_far (definitions s.count ws) (blocks_of s.blocks) (starts_of s.blocks) s.lines

-- before the first line
abbrev pub first_state : State
first_state = record { count = 0; lines = 0; blocks = no_blocks }

-- what words and the state after a line stand for, by what a call that takes the line answers; a fault stands
abbrev pub stepped : List ℕ → Result Unit LineFault → State → Step SoFar
stepped ws (Ok u) s = next (standing ws s)
stepped ws (Err fault) s = stop fault.refusal fault.left

-- what a line leaves, from the words and the state before it
pub record Leaves (old : List ℕ) (s : State) (line : List ℕ) (r : Result Unit LineFault) (t : State) (new : List ℕ)
    : Type 0 where
  pub does : stepped new r t ≡ step (charset_of old) (standing old s) line
  pub written : Written new t.count
  pub beyond : drop pair_words new ≡ drop pair_words old

-- the answer, its column, and the words, by what a text gives
pub record Settled (gives : Outcome (List Definition)) (old : List ℕ) (r : Result ℕ Rejection) (new : List ℕ)
    : Type 0 where
  pub answer : compiled_reply r ≡ compiled_count gives
  pub column : compiled_column r ≡ outcome_column gives
  pub words : new ≡ outcome_words (charset_of old) gives ++ drop table_words old
