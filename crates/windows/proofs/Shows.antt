-- What the call answers and writes, as its tests and calls decide it.
use Prim.Native.Nat.{ℕ}
use mathlib.Core.Path.{◌≡◌, refl}
use mathlib.Core.Bool.{true, false}
use mathlib.Core.List.{List, map}
use lib.Dec.{leb}
use lib.ListN.{length}
use Rattle.std.specs.Prelude.{Option, None, Some}
use Rattle.std.proofs.Common.{min}
use Rattle.basics.specs.Refusals.{Reply, answered, refused}
use Rattle.basics.specs.Buffers.{over}
use Rattle.definitions.specs.declared.Definition.{Definition}
use Rattle.definitions.specs.Definitions.{table}
use Rattle.pairs.specs.Words.{charset_of}
use Rattle.table.specs.Check.{lent_table}
use Rattle.rules.specs.declared.Answer.{Answer}
use Rattle.rules.specs.Rules.{candidates, rules_from3, lookup}
use Rattle.rules.specs.Internal.{last_cells, lookup_by}
use Rattle.lookup.specs.Calls.{first_no_scalar, Pages}
use Rattle.lookup.proofs.Replies.{pages_refused}
use Rattle.windows.specs.declared.Window.{Window}
use Rattle.windows.specs.Windows.{parts_of, widths, all_within, windows_plan}
use Rattle.windows.proofs.Lists.{hold_least}

module _ (ws : List Window) (words page cells rules : List ℕ) where
  abbrev plan : Reply (ℕ → Answer)
  plan = windows_plan ws words page (length cells) (length rules)

  -- what the contract says of a call that answers so and leaves those bytes
  abbrev Settles : Reply (Unit {0}) → List ℕ → List ℕ → Type 0
  Settles = Pages (λ reply. reply) plan (parts_of page ws) cells rules

  pub shows_no_table : {number place : ℕ} → refused number place ≡ lent_table words → Settles (refused number place) cells rules
  unfolding windows_plan
  shows_no_table e = pages_refused (rw (← e))

  module _ (ds : List Definition) (lent : answered ds ≡ lent_table words) where
    pub shows_beyond : {number place : ℕ} → refused number place ≡ all_within (length page) ws 0 → Settles (refused number place) cells rules
    unfolding windows_plan
    shows_beyond e = pages_refused (rw (← lent, ← e))

    module _ (within : answered tt ≡ all_within (length page) ws 0) where
      pub shows_short : false ≡ leb (widths ws) (min (length cells) (length rules)) → Settles (refused 2 0) cells rules
      unfolding windows_plan
      shows_short e = pages_refused (rw (← lent, ← within, ← hold_least (widths ws) (length cells) (length rules), ← e))

      -- s is what a call answered of the page
      module _ (room : true ≡ leb (widths ws) (min (length cells) (length rules))) {s : Option ℕ} (from : s ≡ first_no_scalar page 0) where
        pub shows_no_scalar : {i : ℕ} → s ≡ Some i → Settles (refused 14 i) cells rules
        unfolding windows_plan
        shows_no_scalar e = pages_refused (rw (← lent, ← within, ← hold_least (widths ws) (length cells) (length rules), ← room, ← from, e))

        pub shows_filled : {set : ℕ} {new-cells new-rules : List ℕ} → s ≡ None → set ≡ charset_of words
            → new-cells ≡ over (map (λ (c : ℕ). (lookup_by set (table ds) (last_cells (table ds)) c).cell) (parts_of page ws)) cells
            → new-rules ≡ over (map (λ (c : ℕ). (lookup_by set (table ds) (last_cells (table ds)) c).rule) (parts_of page ws)) rules
            → Settles (answered tt) new-cells new-rules
        unfolding windows_plan lookup rules_from3 candidates
        shows_filled e own to-cells to-rules =
            let all : plan ≡ answered (lookup (charset_of words) (table ds)) =
            rw (← lent, ← within, ← hold_least (widths ws) (length cells) (length rules), ← room, ← from, e) in
            rw (to-cells, to-rules, all, own) (record { answer = refl; cells = refl; rules = refl })
