-- What the lookup call and the page call answer and write, as their tests and calls decide it.
use Prim.Native.Nat.{ℕ, ◌+◌, ◌≤◌, ◌<◌}
use mathlib.Core.Path.{◌≡◌, refl, ap, ◌∙◌}
use mathlib.Core.Bool.{true, false, not}
use mathlib.Core.List.{List, [], ◌∷◌, map}
use Rattle.std.specs.Prelude.{◌⊎◌}
use Rattle.std.proofs.Common.{inl, inr}
use Rattle.std.specs.List.{position_from}
use Rattle.basics.proofs.Tests.{by_cases}
use lib.ListN.{length}
use borrow.Author.Tests.{lt-ltb, le-ltb}
use Rattle.basics.specs.Refusals.{Reply, answered, refused, and_then}
use Rattle.basics.specs.Buffers.{over}
use Rattle.scalars.specs.Characters.{is_scalar}
use Rattle.definitions.specs.declared.Definition.{Definition}
use Rattle.definitions.specs.Definitions.{table}
use Rattle.pairs.specs.Words.{charset_of}
use Rattle.table.specs.Check.{lent_table}
use Rattle.rules.specs.declared.Answer.{Answer}
use Rattle.std.specs.Prelude.{Option, None, Some}
use Rattle.rules.specs.Rules.{candidates, rules_from3, lookup}
use Rattle.lookup.specs.Calls.{lookup_reply, first_no_scalar, unless_at, page_plan, Pages}
use Rattle.rules.specs.Internal.{last_cells, lookup_by}
use Rattle.rules.proofs.Choices.{by_last}

-- ---- the lookup call

module _ (ws : List ℕ) (c : ℕ) where
  pub look_refused : {number place : ℕ} → lent_table ws ≡ refused number place → refused number place ≡ lookup_reply ws c
  unfolding lookup_reply
  look_refused e = rw e

  module _ (ds : List Definition) (lent : answered ds ≡ lent_table ws) where
    pub look_no_scalar : false ≡ is_scalar c → refused 14 0 ≡ lookup_reply ws c
    unfolding lookup_reply
    look_no_scalar other = rw (← lent, ← other)

    pub look_answered : {set : ℕ} {a : Answer} → true ≡ is_scalar c → set ≡ charset_of ws → a ≡ lookup_by set (table ds) (last_cells (table ds)) c
        → answered a ≡ lookup_reply ws c
    unfolding lookup_reply
    look_answered scalar own e = rw (← lent, ← scalar, ← own) (ap answered (by_last _ _ _ refl e))

-- ---- the first character that is no scalar value, as std has it

pub first_place : (cs : List ℕ) (i : ℕ) → position_from (λ c. not (is_scalar c)) i cs ≡ first_no_scalar cs i
unfolding first_no_scalar
first_place [] i = refl
first_place (c ∷ cs) i = by_cases (is_scalar c) (λ q. rw q (first_place cs (i + 1))) (λ q. rw q)

-- ---- what a page writes for a character

pub same_cell : {a b : Answer} → a ≡ b → a.cell ≡ b.cell
same_cell e = rw e

pub same_rule : {a b : Answer} → a ≡ b → a.rule ≡ b.rule
same_rule e = rw e

-- ---- the page call

-- a refusal leaves both buffers
pub pages_refused : {plan : Reply (ℕ → Answer)} {cs cells rules : List ℕ} {number place : ℕ} → plan ≡ refused number place
    → Pages (λ reply. reply) plan cs cells rules (refused number place) cells rules
pages_refused e = rw e (record { answer = refl; cells = refl; rules = refl })

module _ (ws cs cells rules : List ℕ) where
  abbrev plan : Reply (ℕ → Answer)
  plan = page_plan ws cs (length cells) (length rules)

  -- what the contract says of a page call that answers so and leaves those bytes
  abbrev Settles : Reply (Unit {0}) → List ℕ → List ℕ → Type 0
  Settles = Pages (λ reply. reply) plan cs cells rules

  pub page_short : (length cells < length cs) ⊎ ((length cs ≤ length cells) × (length rules < length cs)) → Settles (refused 2 0) cells rules
  unfolding page_plan
  page_short (inl h) = pages_refused (rw (lt-ltb (length cells) (length cs) h))
  page_short (inr h) = pages_refused (rw (le-ltb (length cells) (length cs) h.0, lt-ltb (length rules) (length cs) h.1))

  module _ (wide : length cs ≤ length cells) (deep : length cs ≤ length rules) where
    planned : plan ≡ and_then (lent_table ws) (λ ds. unless_at (first_no_scalar cs 0) (lookup (charset_of ws) (table ds)))
    unfolding page_plan
    planned = rw (le-ltb (length cells) (length cs) wide, le-ltb (length rules) (length cs) deep)

    pub page_refused : {number place : ℕ} → refused number place ≡ lent_table ws → Settles (refused number place) cells rules
    page_refused e = pages_refused (planned ∙ rw (← e))

    -- s is what a call answered of the characters
    module _ (ds : List Definition) {s : Option ℕ} (lent : answered ds ≡ lent_table ws) (from : s ≡ first_no_scalar cs 0) where
      pub page_no_scalar : {i : ℕ} → s ≡ Some i → Settles (refused 14 i) cells rules
      page_no_scalar e = pages_refused (planned ∙ rw (← lent, ← from, e))

      pub page_filled : {set : ℕ} {new-cells new-rules : List ℕ} → s ≡ None → set ≡ charset_of ws
          → new-cells ≡ over (map (λ (c : ℕ). (lookup_by set (table ds) (last_cells (table ds)) c).cell) cs) cells
          → new-rules ≡ over (map (λ (c : ℕ). (lookup_by set (table ds) (last_cells (table ds)) c).rule) cs) rules
          → Settles (answered tt) new-cells new-rules
      unfolding lookup rules_from3 candidates
      page_filled e own to-cells to-rules =
          let all : plan ≡ answered (lookup (charset_of ws) (table ds)) = planned ∙ rw (← lent, ← from, e) in
          rw (to-cells, to-rules, all, own) (record { answer = refl; cells = refl; rules = refl })

-- its answer given otherwise: told is what the call answers, and v is how it is given
pub pages_given : {A : Type 0} (given : Reply (Unit {0}) → A) {plan : Reply (ℕ → Answer)}
    {cs cells rules new-cells new-rules : List ℕ} {told : Reply (Unit {0})} {v : A}
    → Pages (λ reply. reply) plan cs cells rules told new-cells new-rules → v ≡ given told → Pages given plan cs cells rules v new-cells new-rules
pages_given given p e = record { answer = e ∙ ap given p.answer; cells = p.cells; rules = p.rules }
