-- "Cell, rule and links equal the plain lookup's for every table and character": after any building call that has room,
-- and with any order that passes; one order only passes; and what a search tells.
use Rattle.std.specs.Prelude.{ℕ, ◌≤◌, ◌<◌, ◌≡◌, List, length, take, Option, None, Some}
use Rattle.basics.specs.Refusals.{answered}
use Rattle.basics.specs.Buffers.{written_over}
use Rattle.definitions.specs.declared.Definition.{Definition}
use Rattle.definitions.specs.Definitions.{find}
use Rattle.order.specs.Order.{character, order_of}
use Rattle.lookup.specs.Calls.{lookup_reply, page_plan}
use Rattle.by_order.specs.declared.Sought.{Sought}
use Rattle.by_order.specs.Calls.{build_plan, ordered_lookup, ordered_plan, search_reply}

-- both calls by the order os answer as the plain ones do, for every character and every page
pub record AsPlain (ws os : List ℕ) : Type 0 where
  pub lookups : (c : ℕ) → ordered_lookup ws os c ≡ lookup_reply ws c
  pub pages : (cs : List ℕ) (cells rules : ℕ) → ordered_plan ws os cs cells rules ≡ page_plan ws cs cells rules

-- the words that the building call leaves in a buffer that held `old`
abbrev pub built : List ℕ → List ℕ → List ℕ
built ws old = written_over (build_plan ws (length old)) old

-- the pair has the character, or none has it
abbrev pub Right : List ℕ → List Definition → ℕ → Option ℕ → Type 0
Right ws ds c (Some k) = (k < length ds) × (character ws k ≡ c)
Right ws ds c None = find ds c ≡ None

-- a table of the definitions ds, with an order that passes
pub record Serves (ws os : List ℕ) (ds : List Definition) : Type 0 where
  pub plain : AsPlain ws os
  pub only : take (length ds) os ≡ order_of ws (length ds)
  pub few : (c : ℕ) (s : Sought) → search_reply ws os c ≡ answered s → s.comparisons ≤ 11
  pub right : (c : ℕ) (s : Sought) → search_reply ws os c ≡ answered s → Right ws ds c s.pair
