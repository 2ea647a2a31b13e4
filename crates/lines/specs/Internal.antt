-- What the code knows beyond the rules: positions within a text or a line, and how it says what a line leaves.
use Rattle.std.specs.Prelude.{ℕ, ◌+◌, ◌≤◌, ◌≡◌, Bool, List, [], ◌∷◌, length, drop, eqb, Result, Ok, Err}
use Rattle.basics.specs.Choice.{pick}
use Rattle.lines.specs.Lines.{LF, lines_of}
use Rattle.lines.specs.Words.{first_at, word_at}
use Rattle.lines.specs.Texts.{Step, next, stop}
use Rattle.lines.specs.declared.Word.{Word}
use Rattle.lines.specs.declared.LineFault.{LineFault}
use Rattle.lines.specs.declared.TextLines.{TextLines}

-- how many bytes stand before the first LF, or all
unfoldable pub to_lf : List ℕ → ℕ
to_lf [] = 0
to_lf (b ∷ bs) =
    let rest : ℕ = to_lf bs + 1 in
    pick (eqb b LF) 0 rest

-- the position where the line that begins at a position ends
pub record LineEnd (text : List ℕ) (at end : ℕ) : Type 0 where
  pub is : end ≡ at + to_lf (drop at text)
  pub from : at ≤ end
  pub within : end ≤ length text

-- a position that a scan from `at` on answers, and the word that a search from `at` on answers
pub record FirstAt (blank : Bool) (line : List ℕ) (at r : ℕ) : Type 0 where
  pub is : r ≡ first_at blank line at
  pub from : at ≤ r
  pub within : r ≤ length line

pub record NextWord (line : List ℕ) (at : ℕ) (w : Word) : Type 0 where
  pub is : w ≡ word_at line at
  pub from : at ≤ w.start
  pub order : w.start ≤ w.end
  pub within : w.end ≤ length line

-- what the code answers of a line, as what the line does
abbrev pub step_of : {S : Type 0} → Result S LineFault → Step S
step_of (Ok s) = next s
step_of (Err fault) = stop fault.refusal fault.left

-- the lines that are left to walk
abbrev pub lines_left : TextLines → List (List ℕ)
lines_left s = lines_of s.rest.now
