-- The word that an operand begins with, by the word w that a call found.
use Rattle.std.proofs.Common.{◌≡◌, ◌≢◌, ℕ, ◌-◌, Bool, true, false, List, length, Ok, Err}
use borrow.Author.Tests.{eq-eqb, ne_eqb}
use Rattle.basics.specs.declared.Refusal.TheVariants.{MissingOperand, TrailingText}
use Rattle.lines.specs.declared.Word.{Word}
use Rattle.lines.specs.Words.{word_at, is_over}
use Rattle.lines.specs.Texts.{fault}
use Rattle.operands.specs.Operands.{operand_word, ended}

module _ (line : List ℕ) (at : ℕ) (w : Word) (e : w ≡ word_at line at) where
  pub word_missing : w.start ≡ w.end → operand_word line at ≡ Err (record { refusal = MissingOperand; left = 0 })
  unfolding operand_word
  word_missing q = rw (← e, eq-eqb w.start w.end q)

  pub word_there : w.start ≢ w.end → operand_word line at ≡ Ok w
  unfolding operand_word
  word_there q = rw (← e, ne_eqb w.start w.end q)

pub ruleset word_cases = (word_missing, word_there)

module _ (line : List ℕ) (at : ℕ) (over : Bool) (e : over ≡ is_over line at) where
  pub end_there : over ≡ true → Ok tt ≡ ended line at
  unfolding ended
  end_there q = rw (← e, q)

  pub end_text : (w : Word) → w ≡ word_at line at → over ≡ false → fault TrailingText (length line - w.start) ≡ ended line at
  unfolding ended
  end_text w h q = rw (← e, q, ← h)

pub ruleset end_cases = (end_there, end_text)
