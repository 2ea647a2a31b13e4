-- The table that a lent slice is, as the tests and the check of a call decide it.
use Prim.Native.Nat.{ℕ, ◌*◌, ◌≤◌, ◌<◌}
use mathlib.Core.Path.{◌≡◌}
use mathlib.Core.List.{List}
use lib.ListN.{length}
use borrow.Author.Tests.{lt-ltb, le-ltb}
use Rattle.basics.proofs.Tests.{told}
use Rattle.basics.specs.Refusals.{answered, refused}
use Rattle.std.specs.Prelude.{Result, Ok, Err}
use Rattle.pairs.specs.Words.{table_words, definitions}
use Rattle.table.specs.Check.{check_of, lent_table}
use Rattle.table.proofs.Readback.{lent}

module _ (ws : List ℕ) where
  pub lent_short : length ws < table_words → lent_table ws ≡ refused 2 0
  unfolding lent_table
  lent_short h = rw (lt-ltb (length ws) table_words h)

  pub lent_fault : (pair : ℕ) {r : Result ℕ ℕ} → table_words ≤ length ws → r ≡ check_of ws → r ≡ Err pair → lent_table ws ≡ refused 15 pair
  unfolding lent_table
  lent_fault pair h p q = rw (le-ltb (length ws) table_words h, told p q)

  pub lent_sound : (n : ℕ) {r : Result ℕ ℕ} → table_words ≤ length ws → r ≡ check_of ws → r ≡ Ok n → lent_table ws ≡ answered (definitions n ws)
  unfolding lent_table
  lent_sound n h p q = rw (le-ltb (length ws) table_words h, told p q)

  -- its definitions lie within it
  pub lent_fits : (n : ℕ) {r : Result ℕ ℕ} → table_words ≤ length ws → r ≡ check_of ws → r ≡ Ok n → 2 * n ≤ length ws
  lent_fits n h p q = (lent ws n h (told p q)).fits
