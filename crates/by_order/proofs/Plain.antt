-- Calls by an order answer as the plain ones do, and a search finds the pair in at most eleven comparisons.
use Rattle.std.specs.Prelude.{Some, Result, Ok, Err}
use Prim.Native.Nat.{ℕ, ◌*◌, ◌≤◌, ◌<◌}
use mathlib.Core.Path.{◌≡◌, refl, sym, ap, ◌∙◌}
use mathlib.Core.Bool.{true, ◌||◌}
use mathlib.Core.List.{List}
use native.Mathlib.Omega.{arith}
use lib.Dec.{ltb}
use lib.ListN.{length, take, drop, length-append, length-drop}
use lib.Seq.{take_at}
use borrow.Author.Tests.{le-ltb, ltb-false}
use Rattle.basics.specs.Choice.{pick}
use Rattle.basics.specs.declared.Refused.{Refused}
use Rattle.basics.specs.Refusals.{Reply, answered, refused, and_then, reply_of}
use Rattle.basics.specs.Buffers.{over, written_over}
use Rattle.basics.proofs.Tests.{by_cases, by_test}
use Rattle.scalars.specs.Characters.{is_scalar}
use Rattle.definitions.specs.declared.Definition.{Definition}
use Rattle.definitions.specs.Definitions.{find, table}
use Rattle.definitions.specs.Effects.{definition_limit}
use Rattle.pairs.specs.Words.{charset_of, definitions}
use Rattle.table.specs.Check.{lent_table}
use Rattle.table.proofs.Readback.{lent_table_lem}
use Rattle.rules.specs.declared.Answer.{Answer}
use Rattle.rules.specs.Rules.{lookup}
use Rattle.order.specs.declared.Halved.{Halved}
use Rattle.order.specs.Order.{order_of, is_order, at_place, searched}
use Rattle.order.specs.Internal.{Ordered, Distinct}
use Rattle.order.proofs.Rising.{order_length, front_is_order, order_in_front, order_rises}
use Rattle.order.proofs.Halving.{eleven, pair_hit, no_pair}
use Rattle.ordered.specs.Tables.{ordered_table}
use Rattle.ordered.proofs.Finds.{find_nowhere}
use Rattle.ordered.proofs.Checks.{lent_distinct}
use Rattle.lookup.specs.Calls.{lookup_reply, first_no_scalar, unless_at, page_plan}
use Rattle.lookup.proofs.WholeWalks.{shown_small}
use Rattle.by_order.specs.declared.Sought.{Sought}
use Rattle.by_order.specs.Calls.{build_plan, ordered_lookup, ordered_plan, pair_at, sought_of, search_reply}
use Rattle.by_order.specs.Plain.{AsPlain, built, Right, Serves}

-- ---- where the order is no reason to refuse

as_plain : (ws os : List ℕ) → ordered_table ws os ≡ lent_table ws → AsPlain ws os
unfolding ordered_lookup ordered_plan lookup_reply page_plan
as_plain ws os e = record {
  lookups = λ c. rw e (again (lent_table ws) (λ ds. pick (is_scalar c) (answered (lookup (charset_of ws) (table ds) c)) (refused 14 0)));
  pages = λ cs cells rules.
      by_cases (ltb cells (length cs) || ltb rules (length cs)) (λ t. rw t)
      (λ t. rw (t, e) (again (lent_table ws) (λ ds. unless_at (first_no_scalar cs 0) (lookup (charset_of ws) (table ds)))));
}
  where
    -- a refusal that comes again is the same
    again : {A B : Type 0} (r : Reply A) (f : A → Reply B) → and_then r (λ a. and_then r f) ≡ and_then r f
    again (answered a) f = refl
    again (refused number place) f = refl

-- ---- after building

module _ (ws old : List ℕ) (room : definition_limit ≤ length old) where
  passes : (lent : Reply (List Definition)) → lent_table ws ≡ lent
      → ordered_table ws (written_over (and_then lent (λ ds. answered (order_of ws (length ds)))) old) ≡ lent
  unfolding ordered_table
  passes (answered ds) e =
      let os = order_of ws (length ds) in
      let long : definition_limit ≤ length (over os old) = omega (arith, length-append os (drop (length os) old), length-drop (length os) old) in
      let front : take (length ds) (over os old) ≡ os = take_at os (drop (length os) old) (length ds) (order_length ws (length ds)) in
      rw (le-ltb (length (over os old)) definition_limit long, e, front_is_order ws (length ds) (over os old) front)
  passes (refused number place) e = rw (le-ltb (length old) definition_limit room, e)

  pub built_plain : AsPlain ws (built ws old)
  unfolding build_plan
  built_plain = as_plain ws (built ws old) (rw (le-ltb (length old) definition_limit room) (passes (lent_table ws) refl))

-- ---- with an order that passes

-- what is known of a lent table
record Table (ws : List ℕ) (ds : List Definition) : Type 0 where
  pairs : ds ≡ definitions (length ds) ws
  fits : 2 * length ds ≤ length ws
  limit : length ds ≤ definition_limit
  distinct : Distinct ws (length ds)

known : (ws : List ℕ) (ds : List Definition) → lent_table ws ≡ answered ds → Table ws ds
known ws ds = lent_table_lem (Table ws) ws ds
    (λ n l. let e = l.count in record { pairs = rw e; fits = rw e l.fits; limit = rw e l.limit; distinct = rw e (lent_distinct ws n l) })

-- both tests were passed
record Both (ws os : List ℕ) (ds : List Definition) : Type 0 where
  long : definition_limit ≤ length os
  lent : lent_table ws ≡ answered ds
  order : is_order ws (length ds) os ≡ true

both_passed : (ws os : List ℕ) (ds : List Definition) → ordered_table ws os ≡ answered ds → Both ws os ds
unfolding ordered_table
both_passed ws os ds e =
    by_test (λ (r : Reply (List Definition)). r ≡ answered ds → Both ws os ds) (ltb (length os) definition_limit)
    (λ t g. absurd (let z : ◌≡◌ {A = ℕ} 0 1 = cc in omega arith))
    (λ t g. on_table (ltb-false (length os) definition_limit t) (lent_table ws) refl g)
    e
  where
    on_table : definition_limit ≤ length os → (r : Reply (List Definition)) → lent_table ws ≡ r
        → and_then r (λ es. pick (is_order ws (length es) os) (answered es) (refused 23 0)) ≡ answered ds → Both ws os ds
    on_table h (refused number place) p g = absurd (let z : ◌≡◌ {A = ℕ} 0 1 = cc in omega arith)
    on_table h (answered es) p g =
        by_cases (is_order ws (length es) os)
        (λ t. let same : es ≡ ds = cc (rw t at g) in record { long = h; lent = rw same at p; order = rw same at t })
        (λ t. absurd (let z : ◌≡◌ {A = ℕ} 0 1 = cc (rw t at g) in omega arith))

module _ (ws os : List ℕ) (ds : List Definition) (e : ordered_table ws os ≡ answered ds) where
  ordered : Ordered ws (length ds) os
  ordered =
      let b = both_passed ws os ds e in
      let t = known ws ds b.lent in
      record { fits = t.fits; long = omega (arith, b.long, t.limit); rising = order_rises ws (length ds) os t.distinct b.order }

  -- h is what the search answered
  right_pair : (c : ℕ) (h : Halved) → h ≡ searched ws os (length ds) c → Right ws ds c (pair_at os h.place)
  right_pair c h is = go h.place refl
    where
      go : (r : Result ℕ ℕ) → h.place ≡ r → Right ws ds c (pair_at os r)
      go (Ok place) p = pair_hit ws (length ds) os ordered c h is place p
      go (Err place) p =
          let t = known ws ds (both_passed ws os ds e).lent in
          ap (λ (rs : List Definition). find rs c) t.pairs
          ∙ find_nowhere (length ds) ws t.fits c (no_pair ws (length ds) os ordered c h is place p)

  -- what the search call answers is what was sought
  answers : (c : ℕ) (s : Sought) → search_reply ws os c ≡ answered s → sought_of os (searched ws os (length ds) c) ≡ s
  unfolding search_reply
  answers c s q =
      by_test (λ (r : Reply Sought). r ≡ answered s → sought_of os (searched ws os (length ds) c) ≡ s) (is_scalar c) (λ t g. cc) (λ t g. cc) (rw e at q)

  pub serves : Serves ws os ds
  serves =
      let b = both_passed ws os ds e in
      let t = known ws ds b.lent in
      record {
        plain = as_plain ws os (e ∙ sym b.lent);
        only = order_in_front ws (length ds) os b.order;
        few = λ c s q. rw (← answers c s q) (eleven (at_place ws os) c (length ds) t.limit);
        right = λ c s q. rw (← answers c s q) (right_pair c (searched ws os (length ds) c) refl);
      }

-- ---- how large the numbers of an answer are

-- r is what the lookup call answered
pub ordered_small : (ws os : List ℕ) (c : ℕ) {r : Result Answer Refused} {a : Answer} → reply_of r ≡ ordered_lookup ws os c → r ≡ Ok a
    → a.links ≤ definition_limit
unfolding ordered_lookup
ordered_small ws os c {r} {a} p q = go (ordered_table ws os) p
  where
    go : (t : Reply (List Definition)) → reply_of r ≡ and_then t (λ ds. lookup_reply ws c) → a.links ≤ definition_limit
    go (answered ds) e = shown_small ws c e q
    go (refused number place) e = absurd (let z : ◌≡◌ {A = ℕ} 0 1 = cc (rw q at e) in omega arith)

-- and the search call
module _ (ws os : List ℕ) (c : ℕ) {r : Result Sought Refused} {s : Sought} (p : reply_of r ≡ search_reply ws os c) (q : r ≡ Ok s) where
  found : search_reply ws os c ≡ answered s
  found = sym p ∙ rw q

  served : (P : Type 0) → ((ds : List Definition) → Serves ws os ds → length ds ≤ definition_limit → P) → P
  unfolding search_reply
  served P f = go (ordered_table ws os) refl found
    where
      go : (t : Reply (List Definition)) → ordered_table ws os ≡ t
          → and_then t (λ ds. pick (is_scalar c) (answered (sought_of os (searched ws os (length ds) c))) (refused 14 0)) ≡ answered s → P
      go (answered ds) e g = f ds (serves ws os ds e) (known ws ds (both_passed ws os ds e).lent).limit
      go (refused number place) e g = absurd (let z : ◌≡◌ {A = ℕ} 0 1 = cc in omega arith)

  pub few_compared : s.comparisons ≤ 11
  few_compared = served (s.comparisons ≤ 11) (λ ds t l. t.few c s found)

  pub pair_small : (k : ℕ) → s.pair ≡ Some k → k < definition_limit
  pair_small k e = served (k < definition_limit) (λ ds t l. let right : Right ws ds c (Some k) = rw e at (t.right c s found) in omega (arith, right.0))
