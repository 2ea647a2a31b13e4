-- What the calls by an order answer and write. Order of refusals: 2, 15, 23, 14.
use Rattle.std.specs.Prelude.{ℕ, ◌||◌, List, ltb, length, get_or, Option, None, Some, Result, Ok, Err}
use Rattle.basics.specs.Choice.{pick}
use Rattle.basics.specs.declared.Refused.{Refused}
use Rattle.basics.specs.Refusals.{Reply, answered, refused, and_then, reply_of}
use Rattle.basics.specs.Buffers.{Writes}
use Rattle.scalars.specs.Characters.{is_scalar}
use Rattle.definitions.specs.Effects.{definition_limit}
use Rattle.order.specs.declared.Halved.{Halved}
use Rattle.order.specs.Order.{order_of, searched}
use Rattle.table.specs.Check.{lent_table}
use Rattle.rules.specs.declared.Answer.{Answer}
use Rattle.ordered.specs.Tables.{ordered_table}
use Rattle.lookup.specs.Calls.{lookup_reply, page_plan}
use Rattle.by_order.specs.declared.Sought.{Sought}

-- the building call, for a buffer of so many words: the order that it writes, or a refusal
unfoldable pub build_plan : List ℕ → ℕ → Reply (List ℕ)
build_plan ws room =
    pick (ltb room definition_limit) (refused 2 0) (and_then (lent_table ws) (λ ds. answered (order_of ws (length ds))))

-- what the call is to do by its plan: its answer, and the buffer
abbrev pub Builds : List ℕ → List ℕ → Result ℕ Refused → List ℕ → Type 0
Builds ws old = Writes reply_of (build_plan ws (length old)) old

-- the lookup call and the page call by an order: what the plain calls answer, once table and order pass
unfoldable pub ordered_lookup : List ℕ → List ℕ → ℕ → Reply Answer
ordered_lookup ws os c = and_then (ordered_table ws os) (λ ds. lookup_reply ws c)

unfoldable pub ordered_plan : List ℕ → List ℕ → List ℕ → ℕ → ℕ → Reply (ℕ → Answer)
ordered_plan ws os cs cells rules =
    pick (ltb cells (length cs) || ltb rules (length cs)) (refused 2 0)
    (and_then (ordered_table ws os) (λ ds. page_plan ws cs cells rules))

-- what a search tells of the pairs: the number of the one that has the character, or none; and its comparisons
abbrev pub pair_at : List ℕ → Result ℕ ℕ → Option ℕ
pair_at os (Ok place) = Some (get_or os place 0)
pair_at os (Err place) = None

abbrev pub sought_of : List ℕ → Halved → Sought
sought_of os h = record { pair = pair_at os h.place; comparisons = h.comparisons }

-- the search call, which has no rule 2: the character is looked for as it is
unfoldable pub search_reply : List ℕ → List ℕ → ℕ → Reply Sought
search_reply ws os c =
    and_then (ordered_table ws os)
    (λ ds. pick (is_scalar c) (answered (sought_of os (searched ws os (length ds) c))) (refused 14 0))
