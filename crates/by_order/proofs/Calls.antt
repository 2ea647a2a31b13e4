-- What the calls by an order answer and write, as their tests and calls decide it.
use Prim.Native.Nat.{ℕ, ◌*◌, ◌≤◌, ◌<◌}
use mathlib.Core.Path.{◌≡◌, refl, sym, ◌∙◌}
use mathlib.Core.Bool.{true, false}
use mathlib.Core.List.{List, map}
use native.Mathlib.Omega.{arith}
use lib.ListN.{length}
use borrow.Author.Tests.{lt-ltb, le-ltb}
use Rattle.std.specs.Prelude.{◌⊎◌, Option, None, Some, Ok, Err}
use Rattle.std.proofs.Common.{inl, inr}
use Rattle.basics.specs.Choice.{pick}
use Rattle.basics.specs.declared.Refused.{Refused}
use Rattle.basics.specs.declared.Refusal.TheVariants.{ShortSlice}
use Rattle.basics.specs.Refusals.{number_of, Reply, answered, refused, and_then}
use Rattle.basics.specs.Buffers.{over}
use Rattle.scalars.specs.Characters.{is_scalar}
use Rattle.definitions.specs.declared.Definition.{Definition}
use Rattle.definitions.specs.Definitions.{Table}
use Rattle.definitions.specs.Effects.{definition_limit}
use Rattle.pairs.specs.Words.{charset_of, definitions, table_of}
use Rattle.pairs.proofs.Scan.{definitions_length}
use Rattle.table.specs.Check.{lent_table}
use Rattle.table.proofs.Readback.{lent_table_lem}
use Rattle.rules.specs.declared.Answer.{Answer}
use Rattle.rules.specs.Rules.{candidates, rules_from3, lookup}
use Rattle.rules.specs.Internal.{last_cells, lookup_by}
use Rattle.rules.proofs.Choices.{by_last}
use Rattle.order.specs.Order.{order_of, searched}
use Rattle.order.specs.Internal.{Distinct}
use Rattle.order.proofs.Rising.{order_length}
use Rattle.ordered.specs.Tables.{ordered_table}
use Rattle.ordered.specs.Internal.{Passed}
use Rattle.ordered.proofs.Checks.{lent_distinct}
use Rattle.lookup.specs.Calls.{lookup_reply, LentLinks, first_no_scalar, unless_at, page_plan, Pages}
use Rattle.lookup.proofs.Replies.{pages_refused}
use Rattle.by_order.specs.declared.Sought.{Sought}
use Rattle.by_order.specs.Calls.{build_plan, Builds, ordered_lookup, ordered_plan, sought_of, search_reply}

-- ---- the building call

-- a lent table of n definitions
module _ (ws : List ℕ) (n : ℕ) (fits : 2 * n ≤ length ws) (lent : answered (definitions n ws) ≡ lent_table ws) where
  size : length (definitions n ws) ≡ n
  size = definitions_length n ws fits

  pub few : n ≤ definition_limit
  few = rw size at (lent_table_lem (λ ds. length ds ≤ definition_limit) ws (definitions n ws) (λ m l. omega (arith, l.count, l.limit)) (sym lent))

  pub distinct : Distinct ws n
  distinct = rw size at (lent_table_lem (λ ds. Distinct ws (length ds)) ws (definitions n ws) (λ m l. rw l.count (lent_distinct ws m l)) (sym lent))

module _ (ws old : List ℕ) where
  pub builds_few : length old < definition_limit → Builds ws old (Err (record { refusal = ShortSlice; place = 0 })) old
  unfolding build_plan
  builds_few h = let e = lt-ltb (length old) definition_limit h in record { answer = rw e; buffer = rw e }

  module _ (enough : definition_limit ≤ length old) where
    plan_of : {lent : Reply (List Definition)} → lent ≡ lent_table ws → build_plan ws (length old) ≡ and_then lent (λ ds. answered (order_of ws (length ds)))
    unfolding build_plan
    plan_of e = rw (le-ltb (length old) definition_limit enough, ← e)

    pub builds_refused : (e : Refused) → refused (number_of e.refusal) e.place ≡ lent_table ws → Builds ws old (Err e) old
    builds_refused e lent = let plan = plan_of lent in record { answer = rw plan; buffer = rw plan }

    pub builds_order : (n : ℕ) {new : List ℕ} → 2 * n ≤ length ws → answered (definitions n ws) ≡ lent_table ws → new ≡ over (order_of ws n) old
        → Builds ws old (Ok n) new
    builds_order n fits lent w =
        let plan = plan_of lent in
        let e = definitions_length n ws fits in
        record { answer = rw (plan, e, order_length ws n); buffer = rw (plan, e) w }

-- ---- table and order refused

module _ (ws os : List ℕ) {number place : ℕ} (tested : ordered_table ws os ≡ refused number place) where
  pub search_refused : (c : ℕ) → refused number place ≡ search_reply ws os c
  unfolding search_reply
  search_refused c = rw tested

  pub look_refused : (c : ℕ) → refused number place ≡ ordered_lookup ws os c
  unfolding ordered_lookup
  look_refused c = rw tested

  pub page_refused : (cs cells rules : List ℕ) → length cs ≤ length cells → length cs ≤ length rules
      → Pages (λ reply. reply) (ordered_plan ws os cs (length cells) (length rules)) cs cells rules (refused number place) cells rules
  unfolding ordered_plan
  page_refused cs cells rules h g =
      pages_refused (rw (le-ltb (length cells) (length cs) h, le-ltb (length rules) (length cs) g, tested))

-- a refusal has no links
pub no_links : (charset : ℕ) (lent : Reply (List Definition)) (c number place : ℕ) → LentLinks charset lent c (refused number place)
no_links charset (answered ds) c number place = tt
no_links charset (refused n p) c number place = tt

-- ---- both passed, with n definitions

module _ (ws os : List ℕ) (n : ℕ) (passed : Passed ws os n) where
  module _ (c : ℕ) where
    search_passed : {v : Reply Sought} → pick (is_scalar c) (answered (sought_of os (searched ws os n c))) (refused 14 0) ≡ v → v ≡ search_reply ws os c
    unfolding search_reply
    search_passed e = sym (rw (passed.table, definitions_length n ws passed.order.fits) e)

    pub search_no_scalar : false ≡ is_scalar c → refused 14 0 ≡ search_reply ws os c
    search_no_scalar other = search_passed (rw (← other))

    -- s is what a call sought in the words and the order that were lent
    pub search_found : {vs ps : List ℕ} {s : Sought} → true ≡ is_scalar c → (vs ≡ ws) × (ps ≡ os) → s ≡ sought_of ps (searched vs ps n c)
        → answered s ≡ search_reply ws os c
    search_found scalar both e = search_passed (rw (← scalar, e, both.0, both.1))

    -- the plain answer
    pub look_plain : {vs : List ℕ} {a : Answer} → true ≡ is_scalar c → vs ≡ ws → a ≡ lookup (charset_of vs) (table_of n vs) c → answered a ≡ lookup_reply ws c
    unfolding lookup_reply
    look_plain scalar same e = rw (passed.lent, ← scalar, e, same)

    look_passed : {v : Reply Answer} → v ≡ lookup_reply ws c → v ≡ ordered_lookup ws os c
    unfolding ordered_lookup
    look_passed e = rw passed.table e

    pub look_no_scalar : false ≡ is_scalar c → refused 14 0 ≡ ordered_lookup ws os c
    unfolding lookup_reply
    look_no_scalar other = look_passed (rw (passed.lent, ← other))

    pub look_answered : {vs : List ℕ} {a : Answer} → true ≡ is_scalar c → vs ≡ ws → a ≡ lookup (charset_of vs) (table_of n vs) c
        → answered a ≡ ordered_lookup ws os c
    look_answered scalar same e = look_passed (look_plain scalar same e)

  module _ (cs cells rules : List ℕ) {s : Option ℕ} (from : s ≡ first_no_scalar cs 0) (h : length cs ≤ length cells) (g : length cs ≤ length rules) where
    planned : ordered_plan ws os cs (length cells) (length rules) ≡ unless_at s (lookup (charset_of ws) (table_of n ws))
    unfolding ordered_plan page_plan
    planned = rw (le-ltb (length cells) (length cs) h, le-ltb (length rules) (length cs) g, passed.table, passed.lent, from)

    pub page_no_scalar : (i : ℕ) → s ≡ Some i
        → Pages (λ reply. reply) (ordered_plan ws os cs (length cells) (length rules)) cs cells rules (refused 14 i) cells rules
    page_no_scalar i e = pages_refused (planned ∙ rw e)

    pub page_shown : {vs new-cells new-rules : List ℕ} → s ≡ None → vs ≡ ws
        → new-cells ≡ over (map (λ (c : ℕ). (lookup (charset_of vs) (table_of n vs) c).cell) cs) cells
        → new-rules ≡ over (map (λ (c : ℕ). (lookup (charset_of vs) (table_of n vs) c).rule) cs) rules
        → Pages (λ reply. reply) (ordered_plan ws os cs (length cells) (length rules)) cs cells rules (answered tt) new-cells new-rules
    page_shown e same to-cells to-rules =
        let all : ordered_plan ws os cs (length cells) (length rules) ≡ answered (lookup (charset_of ws) (table_of n ws)) = planned ∙ rw e in
        rw (to-cells, to-rules, all, same) (record { answer = refl; cells = refl; rules = refl })

-- ---- the rules of a table, by the set that a call answered

module _ (ws : List ℕ) (T : Table) {set : ℕ} (own : set ≡ charset_of ws) where
  pub by_own : (c : ℕ) {a : Answer} → a ≡ lookup_by set T (last_cells T) c → a ≡ lookup (charset_of ws) T c
  by_own c e = by_last (charset_of ws) T c refl (rw own at e)

  module _ (cs old : List ℕ) {new : List ℕ} where
    pub own_cells : new ≡ over (map (λ (c : ℕ). (lookup_by set T (last_cells T) c).cell) cs) old
        → new ≡ over (map (λ (c : ℕ). (lookup (charset_of ws) T c).cell) cs) old
    unfolding lookup rules_from3 candidates
    own_cells e = rw own at e

    pub own_rules : new ≡ over (map (λ (c : ℕ). (lookup_by set T (last_cells T) c).rule) cs) old
        → new ≡ over (map (λ (c : ℕ). (lookup (charset_of ws) T c).rule) cs) old
    unfolding lookup rules_from3 candidates
    own_rules e = rw own at e

-- ---- a buffer that is too short

pub page_short : (ws os cs cells rules : List ℕ) → (length cells < length cs) ⊎ ((length cs ≤ length cells) × (length rules < length cs))
    → Pages (λ reply. reply) (ordered_plan ws os cs (length cells) (length rules)) cs cells rules (refused 2 0) cells rules
unfolding ordered_plan
page_short ws os cs cells rules (inl h) = pages_refused (rw (lt-ltb (length cells) (length cs) h))
page_short ws os cs cells rules (inr h) = pages_refused (rw (le-ltb (length cells) (length cs) h.0, lt-ltb (length rules) (length cs) h.1))
