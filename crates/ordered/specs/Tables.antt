-- A lent table with an order of its pairs. Order of refusals: 2, 15, 23.
use Rattle.std.specs.Prelude.{ℕ, List, ltb, length}
use Rattle.basics.specs.Choice.{pick}
use Rattle.basics.specs.Refusals.{Reply, answered, refused, and_then}
use Rattle.definitions.specs.declared.Definition.{Definition}
use Rattle.definitions.specs.Effects.{definition_limit}
use Rattle.table.specs.Check.{lent_table}
use Rattle.order.specs.Order.{is_order}

-- the definitions of the table: 2 for a short slice or an order under 1,024 words, 15, then 23 for an order that is not
-- the rising one
unfoldable pub ordered_table : List ℕ → List ℕ → Reply (List Definition)
ordered_table ws os =
    pick (ltb (length os) definition_limit) (refused 2 0)
    (and_then (lent_table ws) (λ ds. pick (is_order ws (length ds) os) (answered ds) (refused 23 0)))
