-- The nine rules, as their tests, the calls and one walk decide them.
use Prim.Native.Nat.{ℕ, ◌+◌, ◌≤◌, ◌<◌}
use mathlib.Core.Path.{◌≡◌, refl, sym, ◌∙◌}
use mathlib.Core.Bool.{Bool, true, false}
use mathlib.Core.List.{List, [], ◌∷◌}
use native.Mathlib.Nat.{add-zero}
use native.Mathlib.Omega.{arith}
use lib.Dec.{eqb}
use lib.ListN.{length}
use Rattle.basics.proofs.Tests.{told, by_cases, same_twice, on_value}
use Rattle.basics.specs.Choice.{pick}
use Rattle.std.specs.Prelude.{Option, None, Some}
use Rattle.scalars.specs.Characters.{is_private, local_of}
use Rattle.definitions.specs.Definitions.{Table, explicit, walk}
use Rattle.definitions.proofs.Cells.{own_cell}
use Rattle.pairs.specs.declared.Walked.{Walked}
use Rattle.pairs.specs.Internal.{walk_with_cell}
use Rattle.rules.specs.declared.Answer.{Answer}
use Rattle.rules.specs.declared.LastCells.{LastCells}
use Rattle.rules.specs.Rules.{explicit_of, end_cell, candidates, choose, rules_from3, passed, lookup}
use Rattle.rules.specs.Internal.{last_cells, later_candidates, walk_answer, rules_by, lookup_by}

-- ---- what choosing keeps

-- the rule that is chosen is one of the candidates' or the one after, and the links are handed on
pub record Chosen (rule candidates walked : ℕ) (a : Answer) : Type 0 where
  pub from : rule ≤ a.rule
  pub to : a.rule ≤ rule + candidates
  pub links : a.links ≡ walked

pub choose_chosen : (rule : ℕ) (os : List (Option ℕ)) (links : ℕ) → Chosen rule (length os) links (choose rule os links)
unfolding choose
choose_chosen rule [] links = record { from = omega arith; to = omega arith; links = refl }
choose_chosen rule (Some dots ∷ os) links = record { from = omega arith; to = omega arith; links = refl }
choose_chosen rule (None ∷ os) links =
    let rest = choose_chosen (rule + 1) os links in
    record { from = omega arith; to = omega arith; links = rest.links }

pub rules_chosen : (T : Table) (c : ℕ) → Chosen 3 6 (walk T c).links (rules_from3 T c)
unfolding rules_from3 candidates
rules_chosen T c = choose_chosen 3 (candidates T c) (walk T c).links

-- ---- each way through the rules

-- the explicit cell of a character that a call answered
pub asked : (T : Table) {m o : Option ℕ} {r : Option ℕ} → m ≡ o → r ≡ explicit_of T m → r ≡ explicit_of T o
asked T p q = rw (← p) q

pub ruleset later = (on_value, asked)

-- rules 3 and 4 as the walk of a character decides them; w is what a call answered of it
module _ (T : Table) (c : ℕ) (w : Walked) (from : w ≡ walk_with_cell T c) where
  module _ (last : LastCells) where
    walk_first : rules_by T last c ≡ choose 3 (pick (eqb w.links 0) w.cell None ∷ pick (eqb w.links 0) None w.cell ∷ later_candidates T last c) w.links
    walk_first = rw (from, own_cell T c)

    -- its end has no cell: the rules from 5 on
    pub rule_later : {r : Answer} → w.cell ≡ None → r ≡ choose 5 (later_candidates T last c) w.links → r ≡ rules_by T last c
    unfolding choose
    rule_later none e = e ∙ sym (walk_first ∙ rw (none, same_twice {A = Option ℕ} (eqb w.links 0) None))

    -- its end has a cell: rule 3 where there is no link, else rule 4
    pub rule_walked : (dots : ℕ) {r : Answer} → w.cell ≡ Some dots → r ≡ walk_answer dots w.links → r ≡ rules_by T last c
    unfolding choose
    rule_walked dots some e = e ∙ sym (walk_first ∙ rw some (by_cases (eqb w.links 0) (λ q. rw q) (λ q. rw q)))

  pub by_walk : rules_from3 T c ≡ choose 3 (pick (eqb w.links 0) w.cell None ∷ pick (eqb w.links 0) None w.cell ∷ later_candidates T (last_cells T) c) w.links
  unfolding rules_from3 candidates
  by_walk = walk_first (last_cells T)

pub rule_fits : (T : Table) (last : LastCells) (c : ℕ) (a : Answer) → a ≡ rules_by T last c → a.rule + 16 < 256
rule_fits T last c a e = rw e (omega (arith, choose_chosen 3 (explicit T c ∷ end_cell T (walk T c) ∷ later_candidates T last c) (walk T c).links))

-- the character after rule 2, by the set that a call answered
pub local_asked : (charset c s : ℕ) {l : ℕ} → s ≡ charset → l ≡ local_of s c → l ≡ local_of charset c
local_asked charset c s e h = rw e at h

-- rule 2 by a call's answer p of the test t
module _ (p t : Bool) (a : Answer) (e : p ≡ t) where
  pub private_passed : p ≡ true → record { cell = a.cell; rule = a.rule + 16; links = a.links } ≡ passed t a
  private_passed is = rw (told e is)

  pub other_passed : p ≡ false → a ≡ passed t a
  other_passed is = rw (told e is, add-zero)

-- what the other rules answer, of the character as it stands then
pub rule_passed_on : (charset : ℕ) (T : Table) (last : LastCells) (c l : ℕ) (a : Answer) {r : Answer} → l ≡ local_of charset c → a ≡ rules_by T last l
    → r ≡ passed (is_private c) a
    → r ≡ passed (is_private c) (rules_by T last (local_of charset c))
rule_passed_on charset T last c l a local others e = e ∙ rw (others, local)

pub ruleset answering = (rule_fits, rule_passed_on)

-- both at once
module _ (charset : ℕ) (T : Table) (last : LastCells) (c l : ℕ) (p : Bool) (a : Answer) (local : l ≡ local_of charset c)
    (others : a ≡ rules_by T last l) (private : p ≡ is_private c) where
  pub rule_passed : p ≡ true → record { cell = a.cell; rule = a.rule + 16; links = a.links } ≡ passed (is_private c) (rules_by T last (local_of charset c))
  rule_passed is = rw (told private is, others, local)

  pub rule_others : p ≡ false → a ≡ passed (is_private c) (rules_by T last (local_of charset c))
  rule_others is = rw (told private is, others, local, add-zero)

-- the cells of rules 7 and 8, as two calls answered them
pub both_asked : (T : Table) {replacement question : Option ℕ} → replacement ≡ explicit T 0xFFFD → question ≡ explicit T 0x3F
    → record { replacement = replacement; question = question } ≡ last_cells T
both_asked T p q = rw (p, q)

-- with the table's own cells for rules 7 and 8 the rules are those of the papers
pub by_last : (charset : ℕ) (T : Table) (c : ℕ) {last : LastCells} {a : Answer} → last ≡ last_cells T → a ≡ lookup_by charset T last c → a ≡ lookup charset T c
unfolding lookup rules_from3 candidates
by_last charset T c e p = rw e at p
