-- Each way to a line's opening: what the calls answered, put into the definitions; and each way on from it.
use Prim.Native.Nat.{ℕ, ◌≤◌}
use mathlib.Core.Path.{◌≡◌}
use mathlib.Core.Bool.{Bool, ◌||◌}
use mathlib.Core.List.{List}
use lib.ListN.{length, get_or}
use lib.Dec.{eqb}
use borrow.Author.Tests.{lt-ltb, le-ltb}
use Rattle.basics.proofs.Tests.{chosen_first, chosen_other}
use Rattle.std.specs.Prelude.{Result, Ok, Err}
use Rattle.utf8.specs.Utf8.{utf8}
use Rattle.utf8.specs.declared.BadSequence.{BadSequence}
use Rattle.lines.specs.Words.{word_at, is_missing, is_over}
use Rattle.lines.specs.Texts.{line_limit, valid_opening, opening_of, if_directive}
use Rattle.lines.specs.declared.Word.{Word}
use Rattle.lines.specs.declared.Opening.{Opening}
use Rattle.lines.specs.declared.Opening.TheVariants.{Skip, Directive}
use Rattle.lines.specs.declared.LineFault.{LineFault}

pub over_at_lem : (line : List ℕ) (at : ℕ) {w : Word} {r : Bool} → w ≡ word_at line at → r ≡ (is_missing w || eqb (get_or line w.start 0) 35)
    → r ≡ is_over line at
unfolding is_over
over_at_lem line at e h = rw (← e) h

-- v is what the check of its bytes answered
module _ (line : List ℕ) {v : Result Unit BadSequence} {r : Result Opening LineFault} (e : v ≡ utf8 line) where
  pub opened : {k : Result Unit BadSequence} → length line ≤ line_limit → v ≡ k → r ≡ valid_opening line k → r ≡ opening_of line
  unfolding opening_of
  opened short q h = rw (le-ltb _ _ short, ← e, q) h

pub ruleset opening_cases = (opened, chosen_first, chosen_other, lt-ltb, le-ltb)

-- o is what a call answered of a line's opening
module _ {A : Type 0} (o x : Result Opening LineFault) (skipped read v : Result A LineFault) (e : o ≡ x) where
  pub opening_fault : (fault : LineFault) → o ≡ Err fault → v ≡ Err fault → v ≡ if_directive x skipped read
  opening_fault fault q h = rw (← e, q) h

  pub opening_skip : (w : Opening) → o ≡ Ok w → w ≡ Skip → v ≡ skipped → v ≡ if_directive x skipped read
  opening_skip w q p h = rw (← e, q, p) h

  pub opening_directive : (w : Opening) → o ≡ Ok w → w ≡ Directive → v ≡ read → v ≡ if_directive x skipped read
  opening_directive w q p h = rw (← e, q, p) h

pub ruleset on_opening = (opening_fault, opening_skip, opening_directive)
