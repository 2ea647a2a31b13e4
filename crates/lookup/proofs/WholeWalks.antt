-- On a lent table no walk is cut short, and no lookup counts more links than a table may have definitions.
use Prim.Native.Nat.{ℕ, ◌≤◌}
use mathlib.Core.Path.{◌≡◌, refl, sym}
use mathlib.Core.Bool.{Bool, true, false}
use mathlib.Core.List.{List, []}
use native.Mathlib.Omega.{arith}
use Rattle.std.specs.Prelude.{Result, Ok}
use Rattle.basics.specs.Choice.{pick}
use Rattle.basics.specs.declared.Refused.{Refused}
use Rattle.basics.specs.Refusals.{Reply, answered, refused, and_then, reply_of}
use Rattle.basics.proofs.Tests.{by_cases}
use Rattle.scalars.specs.Characters.{is_scalar, is_braille, local_of}
use Rattle.definitions.specs.declared.Definition.{Definition}
use Rattle.definitions.specs.Definitions.{table}
use Rattle.definitions.specs.Effects.{definition_limit}
use Rattle.definitions.proofs.Admission.{Admits, admits_limit, aliases_length, whole_walk}
use Rattle.pairs.specs.Words.{charset_of}
use Rattle.table.specs.Check.{lent_table}
use Rattle.table.proofs.Readback.{lent_admits}
use Rattle.rules.specs.declared.Answer.{Answer}
use Rattle.rules.specs.Rules.{lookup}
use Rattle.lookup.specs.Calls.{lookup_reply, Followed, LentLinks}
use Rattle.rules.proofs.Choices.{rules_chosen}

lookup_followed : (charset : ℕ) (ds : List Definition) → Admits [] ds → (c : ℕ) → Followed charset ds c (lookup charset (table ds) c).links
unfolding lookup
lookup_followed charset ds h c =
    let w = whole_walk ds h (local_of charset c) in
    let chosen = (rules_chosen (table ds) (local_of charset c)).links in
    by_cases (is_braille c)
    (λ p. rw p (record { walked = rw p; whole = w; within = omega arith }))
    (λ p. rw p (record { walked = rw p chosen; whole = w; within = omega (arith, chosen, w.within) }))

picked_answer : (scalar : Bool) {a b : Answer} → pick scalar (answered a) (refused 14 0) ≡ answered b → a ≡ b
picked_answer true e = cc
picked_answer false e = cc

-- r is what the lookup call answers
pub lent_links : (ws : List ℕ) (c : ℕ) {r : Reply Answer} → r ≡ lookup_reply ws c → LentLinks (charset_of ws) (lent_table ws) c r
unfolding lookup_reply
lent_links ws c {r} e = go (lent_table ws) r refl e
  where
    go : (lent : Reply (List Definition)) (r : Reply Answer) → lent_table ws ≡ lent
        → r ≡ and_then lent (λ ds. pick (is_scalar c) (answered (lookup (charset_of ws) (table ds) c)) (refused 14 0)) → LentLinks (charset_of ws) lent c r
    go (answered ds) (answered a) p e = rw (picked_answer (is_scalar c) (sym e)) at (lookup_followed (charset_of ws) ds (lent_admits ws ds p) c)
    go (answered ds) (refused number place) p e = tt
    go (refused number place) r p e = tt

-- such links are as few as the definitions of a table
pub shown_small : (ws : List ℕ) (c : ℕ) {r : Result Answer Refused} {a : Answer} → reply_of r ≡ lookup_reply ws c → r ≡ Ok a → a.links ≤ definition_limit
unfolding lookup_reply
shown_small ws c {r} {a} p q = go (lent_table ws) refl (rw (← p, q)) (rw q at (lent_links ws c p))
  where
    go : (lent : Reply (List Definition)) → lent_table ws ≡ lent
        → and_then lent (λ ds. pick (is_scalar c) (answered (lookup (charset_of ws) (table ds) c)) (refused 14 0)) ≡ answered a
        → LentLinks (charset_of ws) lent c (answered a) → a.links ≤ definition_limit
    go (answered ds) e h f = omega (arith, f.within, aliases_length ds, admits_limit ds (lent_admits ws ds e))
    go (refused number place) e h f = absurd (let z : ◌≡◌ {A = ℕ} 0 1 = cc in omega arith)
