-- What the listing call answers and writes, as its tests and calls decide it.
use Rattle.std.specs.Prelude.{ℕ, ◌≤◌, ◌<◌, ◌*◌, ◌≡◌, List, length}
use Rattle.std.proofs.Common.{sym, arith}
use borrow.Author.Tests.{lt-ltb, le-ltb}
use Rattle.basics.specs.Refusals.{answered, refused}
use Rattle.definitions.specs.declared.Definition.{Definition}
use Rattle.definitions.specs.Effects.{definition_limit}
use Rattle.definitions.proofs.Admission.{admits_limit}
use Rattle.pairs.specs.Words.{definitions}
use Rattle.pairs.proofs.Scan.{definitions_length}
use Rattle.table.specs.Check.{lent_table}
use Rattle.table.proofs.Readback.{lent_admits}
use Rattle.listing.specs.Listing.{listing, listing_plan}

-- the plan by what the words are
module _ (ws : List ℕ) (room : ℕ) where
  pub plan_refused : (number place : ℕ) → refused number place ≡ lent_table ws → listing_plan ws room ≡ refused number place
  unfolding listing_plan
  plan_refused number place q = rw (← q)

  module _ (ds : List Definition) (q : answered ds ≡ lent_table ws) where
    pub plan_long : room < length (listing ds) → listing_plan ws room ≡ refused 2 0
    unfolding listing_plan
    plan_long h = rw (← q, lt-ltb room (length (listing ds)) h)

    pub plan_written : length (listing ds) ≤ room → listing_plan ws room ≡ answered (listing ds)
    unfolding listing_plan
    plan_written h = rw (← q, le-ltb room (length (listing ds)) h)

-- there are no more definitions than a table may have
pub lent_limit : (ws vs : List ℕ) (n : ℕ) → 2 * n ≤ length vs → answered (definitions n vs) ≡ lent_table ws → n ≤ definition_limit
lent_limit ws vs n h q = omega (arith, definitions_length n vs h, admits_limit (definitions n vs) (lent_admits ws (definitions n vs) (sym q)))

pub ruleset planned = (plan_refused, plan_long, plan_written, lent_limit)
