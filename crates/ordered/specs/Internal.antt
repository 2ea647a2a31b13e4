-- What the code knows beyond the rules: marks for defined characters, pairs counted without their check, and what
-- passed the tests.
use Rattle.std.specs.Prelude.{ℕ, ◌+◌, ◌*◌, ◌/◌, ◌%◌, ◌<◌, ◌≡◌, List, [], ◌∷◌, length, get_or, Result, Ok, Err}
use Rattle.basics.specs.Choice.{pick}
use Rattle.basics.specs.declared.Refused.{Refused}
use Rattle.basics.specs.Refusals.{number_of, answered, refused}
use Rattle.pairs.specs.Words.{definitions}
use Rattle.table.specs.Check.{is_zero_pair, lent_table}
use Rattle.order.specs.declared.InOrder.{InOrder}
use Rattle.order.specs.Order.{character}
use Rattle.order.specs.Internal.{Ordered}
use Rattle.ordered.specs.Tables.{ordered_table}

-- as many slots as marks or answers are kept in, and the slot of a character
abbrev pub slots : ℕ
slots = 4096

unfoldable pub slot_of : ℕ → ℕ
slot_of c = c * 2654435761 / 1048576 % slots

-- a mark in the slot of each defined character, and perhaps in others
pub record Marks (ws : List ℕ) (n : ℕ) (ms : List ℕ) : Type 0 where
  pub size : length ms ≡ slots
  pub marked : (k : ℕ) → k < n → get_or ms (slot_of (character ws k)) 0 ≡ 1

-- how many pairs stand before the first zero pair; before these words stand k
unfoldable pub pairs_from : ℕ → List ℕ → ℕ
pairs_from k [] = k
pairs_from k (c ∷ []) = k
pairs_from k (c ∷ w ∷ ws) =
    let more : ℕ = pairs_from (k + 1) ws in
    pick (is_zero_pair c w) k more

-- a table of n definitions with its order: the calls can go by both
pub record Passed (ws os : List ℕ) (n : ℕ) : Type 0 where
  pub table : ordered_table ws os ≡ answered (definitions n ws)
  pub lent : lent_table ws ≡ answered (definitions n ws)
  pub order : Ordered ws n os

-- what the test of both tells
abbrev pub Tests : List ℕ → List ℕ → Result InOrder Refused → Type 0
Tests ws os (Ok in_order) = Passed ws os in_order.count
Tests ws os (Err e) = ordered_table ws os ≡ refused (number_of e.refusal) e.place
