-- A table and one that keeps all that it has: the rule that answers falls or stays, the same rule gives the same cell, and the
-- answer is the same where both have the same for all that it goes by. First of any two tables, then of definitions that follow.
use Rattle.std.proofs.Common.{◌≡◌, ℕ, ◌+◌, ◌≤◌, Bool, true, false, List, [], ◌∷◌, ◌++◌, Option, None, Some, refl, arith}
use native.Mathlib.Nat.{le_refl}
use lib.Dec.{eqb}
use Rattle.basics.specs.Choice.{pick}
use Rattle.basics.proofs.Tests.{by_cases}
use Rattle.scalars.specs.Characters.{is_braille, local_of, base_of, stand_in_of}
use Rattle.definitions.specs.declared.Meaning.{Meaning}
use Rattle.definitions.specs.declared.Meaning.TheVariants.{Typed, Shown, Alias}
use Rattle.definitions.specs.declared.Definition.{Definition}
use Rattle.definitions.specs.declared.Walk.{Walk}
use Rattle.definitions.specs.Definitions.{Table, table, cell_of, target_of, explicit, alias_of, walk}
use Rattle.definitions.specs.Effects.{is_defined}
use Rattle.definitions.proofs.Finds.{found_kept, found_same}
use Rattle.definitions.proofs.Walks.{Walks, walk_unique, walk_kept}
use Rattle.definitions.proofs.Admission.{Admits, admits_first, walk_walks}
use Rattle.rules.specs.declared.Answer.{Answer}
use Rattle.rules.proofs.Choices.{choose_chosen}
use Rattle.rules.specs.Rules.{explicit_of, end_cell, candidates, choose, rules_from3, lookup}

-- the second answer's rule is the first's or smaller; where it is the same, so is the cell
pub record NotSpoiled (before after : Answer) : Type 0 where
  pub rule : after.rule ≤ before.rule
  pub cell : after.rule ≡ before.rule → after.cell ≡ before.cell

-- all that the answer for c, as it stands after rule 2, goes by in the table T
pub record Each (T : Table) (P : ℕ → Type 0) (c : ℕ) : Type 0 where
  pub own : P c
  pub base : (b : ℕ) → base_of c ≡ Some b → P b
  pub stand_in : (s : ℕ) → stand_in_of c ≡ Some s → P s
  pub end : P (walk T c).end
  pub replacement : P 0xFFFD
  pub question : P 0x3F

pub each_map : {T : Table} {P Q : ℕ → Type 0} {c : ℕ} → ((x : ℕ) → P x → Q x) → Each T P c → Each T Q c
each_map {T} {c = c} f e = record {
  own = f c e.own;
  base = λ b p. f b (e.base b p);
  stand_in = λ s p. f s (e.stand_in s p);
  end = f (walk T c).end e.end;
  replacement = f 0xFFFD e.replacement;
  question = f 0x3F e.question;
}

-- ---- the first cell of a list, where each cell of one list is in the other too

-- the other has what the first has
abbrev Keeps : {A : Type 0} → Option A → Option A → Type 0
Keeps {A} o p = (a : A) → o ≡ Some a → p ≡ Some a

data Kept : List (Option ℕ) → List (Option ℕ) → Type 0 where
  none : Kept [] []
  more : {o p : Option ℕ} {os ps : List (Option ℕ)} → Keeps o p → Kept os ps → Kept (o ∷ os) (p ∷ ps)

choose_kept : {os ps : List (Option ℕ)} → Kept os ps → (r links links' : ℕ) → NotSpoiled (choose r os links) (choose r ps links')
unfolding choose
choose_kept none r links links' = record { rule = le_refl r; cell = λ e. refl }
choose_kept (more {o = None} {p = None} h t) r links links' = choose_kept t (r + 1) links links'
choose_kept (more {o = None} {p = Some dots} {os = os} h t) r links links' =
    let later = choose_chosen (r + 1) os links in
    record { rule = omega arith; cell = λ e. absurd (omega arith) }
choose_kept (more {o = Some dots} {p = p} h t) r links links' = rw (h dots refl) (record { rule = le_refl r; cell = λ e. refl })

pick_kept : (b : Bool) (a : Answer) {x y : Answer} → NotSpoiled x y → NotSpoiled (pick b a x) (pick b a y)
pick_kept true a h = record { rule = le_refl _; cell = λ e. refl }
pick_kept false a h = h

-- ---- any two tables

-- no walk is cut
abbrev pub Whole : Table → Type 0
Whole T = (c : ℕ) → Walks (alias_of T) c (walk T c).end (walk T c).links

walk_as : {x y j k : ℕ} → (x ≡ y) × (j ≡ k) → ◌≡◌ {A = Walk} (record { end = x; links = j }) (record { end = y; links = k })
walk_as (p, q) = rw (p, q)

-- what is read off what is found, and not off nothing, is read off what keeps it
of_kept : {A B : Type 0} (of : Option A → Option B) → of None ≡ None → (o p : Option A) → Keeps o p → Keeps (of o) (of p)
of_kept of lack None p k b e = cc
of_kept of lack (Some a) p k b e = rw (k a refl) e

-- an explicit cell is no alias
no_target : (f : Option Meaning) {dots : ℕ} → cell_of f ≡ Some dots → target_of f ≡ None
no_target None e = refl
no_target (Some (Typed n)) e = refl
no_target (Some (Shown n)) e = refl
no_target (Some (Alias n)) e = cc

-- G has all that T has, and no walk of either is cut
module _ (T G : Table) (keep : (c : ℕ) → Keeps (T.found c) (G.found c)) (whole : Whole T) (whole' : Whole G) where
  cell_kept : (c : ℕ) → Keeps (explicit T c) (explicit G c)
  unfolding explicit
  cell_kept c = of_kept cell_of refl (T.found c) (G.found c) (keep c)

  alias_kept : (c : ℕ) → Keeps (alias_of T c) (alias_of G c)
  unfolding alias_of
  alias_kept c = of_kept target_of refl (T.found c) (G.found c) (keep c)

  other_kept : (o : Option ℕ) → Keeps (explicit_of T o) (explicit_of G o)
  other_kept None dots e = e
  other_kept (Some c) dots e = cell_kept c dots e

  no_alias : (c dots : ℕ) → explicit G c ≡ Some dots → alias_of G c ≡ None
  unfolding explicit alias_of
  no_alias c dots e = no_target (G.found c) e

  -- a walk whose end has no alias in G either is the same there
  walk_same : (c : ℕ) → alias_of G (walk T c).end ≡ None → walk G c ≡ walk T c
  walk_same c h = walk_as (walk_unique (whole' c) (walk_kept alias_kept h (whole c)))

  end_kept : (c : ℕ) → Keeps (end_cell T (walk T c)) (end_cell G (walk G c))
  end_kept c dots h =
      by_cases (eqb (walk T c).links 0)
      (λ q. let e = rw q at h in cc)
      (λ q.
      let k = cell_kept (walk T c).end dots (rw q at h) in
      rw (walk_same c (no_alias (walk T c).end dots k), q) k)

  candidates_kept : (c : ℕ) → Kept (candidates T c) (candidates G c)
  unfolding candidates
  candidates_kept c =
      more (cell_kept c)
      (more (end_kept c) (more (other_kept (base_of c)) (more (other_kept (stand_in_of c)) (more (cell_kept 0xFFFD) (more (cell_kept 0x3F) none)))))

  -- the rule falls or stays, and the same rule gives the same cell
  pub not_spoiled : (charset c : ℕ) → NotSpoiled (lookup charset T c) (lookup charset G c)
  unfolding lookup rules_from3
  not_spoiled charset c =
      let l = local_of charset c in
      let p = choose_kept (candidates_kept l) 3 (walk T l).links (walk G l).links in
      pick_kept (is_braille c) _ (record { rule = omega (arith, p.rule); cell = λ e. p.cell (omega arith) })

  same_cell : (c : ℕ) → G.found c ≡ T.found c → explicit G c ≡ explicit T c
  unfolding explicit
  same_cell c h = rw h

  same_other : (o : Option ℕ) → ((c : ℕ) → o ≡ Some c → G.found c ≡ T.found c) → explicit_of G o ≡ explicit_of T o
  same_other None h = refl
  same_other (Some c) h = same_cell c (h c refl)

  same_walk : (c : ℕ) → G.found (walk T c).end ≡ T.found (walk T c).end → walk G c ≡ walk T c
  unfolding alias_of
  same_walk c h = walk_same c (rw h (whole c).ended)

  same_candidates : (c : ℕ) → Each T (λ x. G.found x ≡ T.found x) c → candidates G c ≡ candidates T c
  unfolding candidates
  same_candidates c h =
      rw (same_walk c h.end, same_cell c h.own, same_cell (walk T c).end h.end)
      (rw (same_other (base_of c) h.base, same_other (stand_in_of c) h.stand_in, same_cell 0xFFFD h.replacement, same_cell 0x3F h.question))

  same_rules : (c : ℕ) → Each T (λ x. G.found x ≡ T.found x) c → rules_from3 G c ≡ rules_from3 T c
  unfolding rules_from3
  same_rules c h = rw (same_candidates c h, same_walk c h.end)

  -- the answer is the same where both have the same for all that it goes by
  pub same_answer : (charset c : ℕ) → Each T (λ x. G.found x ≡ T.found x) (local_of charset c) → lookup charset G c ≡ lookup charset T c
  unfolding lookup
  same_answer charset c h = rw (same_rules (local_of charset c) h)

-- ---- definitions, and the same with others after them

module _ (ds rs : List Definition) (h : Admits [] (ds ++ rs)) where
  whole_first : Whole (table ds)
  whole_first c = walk_walks ds (admits_first ds rs [] h) c

  whole_grown : Whole (table (ds ++ rs))
  whole_grown c = walk_walks (ds ++ rs) h c

  -- the rule falls or stays, and the same rule gives the same cell
  pub lookup_grown : (charset c : ℕ) → NotSpoiled (lookup charset (table ds) c) (lookup charset (table (ds ++ rs)) c)
  lookup_grown charset c = not_spoiled (table ds) (table (ds ++ rs)) (found_kept ds rs) whole_first whole_grown charset c

  -- the answer is the same where no later definition is for any character that it goes by
  pub lookup_same : (charset c : ℕ) → Each (table ds) (λ x. is_defined rs x ≡ false) (local_of charset c)
      → lookup charset (table (ds ++ rs)) c ≡ lookup charset (table ds) c
  lookup_same charset c apart =
      same_answer (table ds) (table (ds ++ rs)) (found_kept ds rs) whole_first whole_grown charset c (each_map (λ x. found_same ds rs x) apart)
