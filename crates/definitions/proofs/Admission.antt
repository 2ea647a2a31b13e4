-- Definitions that take effect one after the other: what an admitted one has, that there are at most 1,024 and one for a
-- character at most, that every alias walk is whole and within the aliases, and refusal 12 in plain words.
use Prim.Native.Nat.{ℕ, suc, ◌+◌, ◌≤◌, ◌<◌}
use mathlib.Core.Path.{◌≡◌, refl, sym, ap, fun_ext}
use mathlib.Core.Bool.{Bool, true, false}
use mathlib.Core.Logic.{◌↔◌}
use mathlib.Core.List.{List, [], ◌∷◌, ◌++◌, append-nil}
use native.Mathlib.Omega.{arith}
use lib.Dec.{eqb, leb, ltb}
use lib.ListN.{length, length-append}
use lib.Seq.{append_snoc}
use borrow.Author.Tests.{eqb-true, eqb-false, ne_eqb, leb-false, lt-ltb, le-ltb, ltb-true}
use Rattle.basics.proofs.Tests.{by_test, either, same_twice}
use Rattle.basics.specs.Choice.{pick}
use Rattle.std.specs.Prelude.{Option, None, Some, Result, Ok, Err}
use Rattle.basics.specs.declared.Refusal.{Refusal}
use Rattle.basics.specs.declared.Refusal.TheVariants.{BrailleRow, AlreadyDefined, AliasLoop, TableFull}
use Rattle.scalars.specs.Characters.{is_braille}
use Rattle.definitions.specs.declared.Meaning.{Meaning}
use Rattle.definitions.specs.declared.Meaning.TheVariants.{Typed, Shown, Alias}
use Rattle.definitions.specs.declared.Definition.{Definition}
use Rattle.definitions.specs.Definitions.{find, target_of, table, alias_of, walk, is_alias, aliases, WholeWalk}
use Rattle.definitions.specs.Effects.{is_defined, closes_loop, definition_limit, verdict_of}
use Rattle.definitions.proofs.Finds.{or_else, or_else_nothing, find_append, not_found, not_first, alias_found}
use Rattle.definitions.proofs.Walks.{Reaches, Here, Link, Walks, walk_reached, walk_unique, Ending, none_ending, put, comes_to, put_ending}
use Rattle.definitions.proofs.Walks.{comes_returns, returns_comes}

-- ---- one definition

-- what a definition that may take effect after others has
pub record Admissible (ds : List Definition) (d : Definition) : Type 0 where
  pub plain : is_braille d.character ≡ false
  pub fresh : find ds d.character ≡ None
  pub opens : closes_loop ds d ≡ false
  pub room : length ds < definition_limit

not_refused : (b : Bool) (r : Refusal) (v : Result (Unit {0}) Refusal) → pick b (Err r) v ≡ Ok tt → (b ≡ false) × (v ≡ Ok tt)
not_refused true r v e = (cc, cc)
not_refused false r v e = (refl, e)

-- an admitted one has it
pub admissible : (ds : List Definition) (d : Definition) → verdict_of ds d ≡ Ok tt → Admissible ds d
unfolding verdict_of
admissible ds d e =
    let other = not_refused (is_braille d.character) BrailleRow _ e in
    let new = not_refused (is_defined ds d.character) AlreadyDefined _ other.1 in
    let open-end = not_refused (closes_loop ds d) AliasLoop _ new.1 in
    let few = not_refused (leb definition_limit (length ds)) TableFull _ open-end.1 in
    record { plain = other.0; fresh = not_found (find ds d.character) new.0; opens = open-end.0; room = leb-false definition_limit (length ds) few.0 }

-- b is what a call answered of the character's row
module _ (ds : List Definition) (d : Definition) {b : Bool} (row : b ≡ is_braille d.character) where
  pub judged_braille : b ≡ true → Err BrailleRow ≡ verdict_of ds d
  unfolding verdict_of
  judged_braille h = rw (← row, h)

  -- n is how many definitions there are, and f what they say of the character
  module _ (n : ℕ) {f : Option Meaning} (other : b ≡ false) (count : length ds ≡ n) (found : f ≡ find ds d.character) where
    pub judged_defined : {m : Meaning} → f ≡ Some m → Err AlreadyDefined ≡ verdict_of ds d
    unfolding verdict_of
    judged_defined e = rw (← row, other, ← found, e)

    pub judged_new : {v : Result (Unit {0}) Refusal} → f ≡ None
        → v ≡ pick (closes_loop ds d) (Err AliasLoop) (pick (leb definition_limit n) (Err TableFull) (Ok tt)) → v ≡ verdict_of ds d
    unfolding verdict_of
    judged_new e h = rw (← row, other, ← found, e, ap (leb definition_limit) count) h

pub ruleset judged = (judged_braille, judged_defined, judged_new)

-- ---- definitions one after the other

-- each is admitted after those before it
abbrev pub Admits : List Definition → List Definition → Type 0
Admits ds [] = Unit
Admits ds (d ∷ rs) = (verdict_of ds d ≡ Ok tt) × Admits (ds ++ d ∷ []) rs

pub admits_first : (xs ys ds : List Definition) → Admits ds (xs ++ ys) → Admits ds xs
admits_first [] ys ds h = tt
admits_first (d ∷ xs) ys ds h = (h.0, admits_first xs ys (ds ++ d ∷ []) h.1)

-- what each admitted definition keeps holds in the end
admits_keep : (P : List Definition → Type 0) → ((ds : List Definition) (d : Definition) → P ds → Admissible ds d → P (ds ++ d ∷ [])) → (rs ds : List Definition)
    → P ds → Admits ds rs → P (ds ++ rs)
admits_keep P keep [] ds p h = rw append-nil p
admits_keep P keep (d ∷ rs) ds p h = rw append_snoc at (admits_keep P keep rs (ds ++ d ∷ []) (keep ds d p (admissible ds d h.0)) h.1)

-- there are at most 1,024
pub admits_limit : (ds : List Definition) → Admits [] ds → length ds ≤ definition_limit
admits_limit ds h =
    admits_keep (λ (es : List Definition). length es ≤ definition_limit) (λ es d l a. omega (arith, length-append es (d ∷ []), a.room)) ds [] (omega arith) h

-- ---- one character has at most one definition

-- no later definition is for the character of an earlier one
abbrev pub Distinct : List Definition → Type 0
Distinct [] = Unit
Distinct (d ∷ ds) = (find ds d.character ≡ None) × Distinct ds

distinct_new : (ds : List Definition) (d : Definition) → Distinct ds → find ds d.character ≡ None → Distinct (ds ++ d ∷ [])
unfolding find
distinct_new [] d h e = (refl, tt)
distinct_new (f ∷ ds) d h e =
    let parts = not_first (eqb f.character d.character) f.meaning (find ds d.character) e in
    let other : eqb d.character f.character ≡ false = ne_eqb _ _ (λ q. eqb-false f.character d.character parts.0 (sym q)) in
    (rw (find_append ds (d ∷ []) f.character, h.0, other), distinct_new ds d h.1 parts.1)

pub distinct : (ds : List Definition) → Admits [] ds → Distinct ds
distinct ds h = admits_keep Distinct (λ es d p a. distinct_new es d p a.fresh) ds [] tt h

-- ---- the aliases of definitions

alias_fresh : (ds : List Definition) (c : ℕ) → find ds c ≡ None → alias_of (table ds) c ≡ None
alias_fresh ds c e = rw (alias_found ds c, e) (same_twice (is_braille c) None)

-- one definition more, for a character without one that is not of the braille row
alias_new : (ds : List Definition) (d : Definition) → is_braille d.character ≡ false → find ds d.character ≡ None
    → alias_of (table (ds ++ d ∷ [])) ≡ put (alias_of (table ds)) d.character (target_of (Some d.meaning))
unfolding find
alias_new ds d plain fresh =
    fun_ext (λ c. rw (alias_found (ds ++ d ∷ []) c, alias_found ds c, find_append ds (d ∷ []) c) (go c (is_braille c) (eqb d.character c) refl refl))
  where
    go : (c : ℕ) (braille same : Bool) → is_braille c ≡ braille → eqb d.character c ≡ same
        → pick braille None (target_of (or_else (find ds c) (pick same (Some d.meaning) None)))
        ≡ pick same (target_of (Some d.meaning)) (pick braille None (target_of (find ds c)))
    go c true true p q = absurd (let z : ◌≡◌ {A = ℕ} 0 1 = cc (p, plain, eqb-true d.character c q) in omega arith)
    go c true false p q = refl
    go c false true p q = rw (← eqb-true d.character c q, fresh)
    go c false false p q = rw or_else_nothing

-- ---- a whole walk has no more links than there are aliases

alias_counts : (m : Meaning) {t : ℕ} → target_of (Some m) ≡ Some t → is_alias m ≡ 1
alias_counts (Typed dots) e = cc
alias_counts (Shown dots) e = cc
alias_counts (Alias target) e = refl

alias_once : (m : Meaning) → is_alias m ≤ 1
alias_once (Typed dots) = omega arith
alias_once (Shown dots) = omega arith
alias_once (Alias target) = omega arith

pub aliases_length : (ds : List Definition) → aliases ds ≤ length ds
unfolding aliases
aliases_length [] = omega arith
aliases_length (d ∷ ds) = omega (arith, alias_once d.meaning, aliases_length ds)

-- the aliases among the definitions whose characters have fewer than j links to the end of their walk
abbrev is_nearer : (ℕ → ℕ) → ℕ → Definition → ℕ
is_nearer links j d = pick (ltb (links d.character) j) (is_alias d.meaning) 0

nearer : (ℕ → ℕ) → ℕ → List Definition → ℕ
nearer links j [] = 0
nearer links j (d ∷ ds) = is_nearer links j d + nearer links j ds

module _ (links : ℕ → ℕ) (j : ℕ) where
  nearer_one : (d : Definition) → is_nearer links j d ≤ is_nearer links (suc j) d
  nearer_one d =
      by_test (λ (n : ℕ). n ≤ is_nearer links (suc j) d) (ltb (links d.character) j)
      (λ p. rw (lt-ltb (links d.character) (suc j) (omega (arith, ltb-true (links d.character) j p))) (omega arith))
      (λ p. omega arith)

  nearer_next : (ds : List Definition) → nearer links j ds ≤ nearer links (suc j) ds
  unfolding nearer
  nearer_next [] = omega arith
  nearer_next (d ∷ ds) = omega (arith, nearer_one d, nearer_next ds)

  nearer_all : (ds : List Definition) → nearer links j ds ≤ aliases ds
  unfolding nearer aliases
  nearer_all [] = omega arith
  nearer_all (d ∷ ds) =
      let rest = nearer_all ds in
      either (λ (n : ℕ). n + nearer links j ds ≤ is_alias d.meaning + aliases ds) (ltb (links d.character) j) (omega arith) (omega arith)

  -- an alias with j links is one more
  nearer_more : (ds : List Definition) {c t : ℕ} → links c ≡ j → target_of (find ds c) ≡ Some t → nearer links j ds < nearer links (suc j) ds
  unfolding nearer find
  nearer_more [] l e = absurd (let z : ◌≡◌ {A = ℕ} 0 1 = cc in omega arith)
  nearer_more (d ∷ ds) {c} {t} l e =
      by_test (λ (f : Option Meaning). target_of f ≡ Some t → nearer links j (d ∷ ds) < nearer links (suc j) (d ∷ ds)) (eqb d.character c)
      (λ p g. rw (eqb-true d.character c p, l, le-ltb j j (omega arith), lt-ltb j (suc j) (omega arith), alias_counts d.meaning g)
      (omega (arith, nearer_next ds)))
      (λ p g. omega (arith, nearer_one d, nearer_more ds l g))
      e

-- ---- every walk ends

abbrev AllEnd : List Definition → Type 0
AllEnd ds = Ending (alias_of (table ds))

module _ (ds : List Definition) (v : AllEnd ds) where
  -- the characters on a walk have fewer and fewer links to its end, so each counts
  links_nearer : {c e k : ℕ} → Reaches (alias_of (table ds)) c k e → alias_of (table ds) e ≡ None → k ≤ nearer (λ x. (v x).links) (suc k) ds
  links_nearer Here h = omega arith
  links_nearer (Link {c = c} {k = k} g r) h =
      let same = walk_unique (v c).walks (record { way = Link g r; ended = h }) in
      omega (arith, links_nearer r h, nearer_more (λ x. (v x).links) (suc k) ds same.1 (said (is_braille c) (rw (alias_found ds c) at g)))
    where
      said : (b : Bool) {m : Option ℕ} {t : ℕ} → pick b None m ≡ Some t → m ≡ Some t
      said true e = cc
      said false e = e

  links_aliases : (c : ℕ) → (v c).links ≤ aliases ds
  links_aliases c = omega (arith, links_nearer (v c).walks.way (v c).walks.ended, nearer_all (λ x. (v x).links) (suc (v c).links) ds)

  -- the walk of a table is the whole one
  walk_is : (c : ℕ) → walk (table ds) c ≡ record { end = (v c).end; links = (v c).links }
  unfolding walk
  walk_is c = walk_reached (v c).walks.way (v c).walks.ended (length ds) (omega (arith, links_aliases c, aliases_length ds))

  loop_comes : (d : Definition) → closes_loop ds d ≡ comes_to v (target_of (Some d.meaning)) d.character
  loop_comes d = simp walk_is

end_new : (ds : List Definition) (d : Definition) → AllEnd ds → Admissible ds d → AllEnd (ds ++ d ∷ [])
end_new ds d v a =
    rw (alias_new ds d a.plain a.fresh)
    (put_ending (alias_of (table ds)) v d.character (alias_fresh ds d.character a.fresh) (target_of (Some d.meaning)) (rw (loop_comes ds v d) at a.opens))

all_end : (ds : List Definition) → Admits [] ds → AllEnd ds
unfolding find
all_end ds h = let none : alias_of (table []) ≡ (λ c. None) = fun_ext (λ c. alias_fresh [] c refl) in admits_keep AllEnd end_new ds [] (rw none none_ending) h

-- the walk of a table, as it is computed, is a whole walk
pub walk_walks : (ds : List Definition) → Admits [] ds → (c : ℕ) → Walks (alias_of (table ds)) c (walk (table ds) c).end (walk (table ds) c).links
walk_walks ds h c = let v = all_end ds h in rw (walk_is ds v c) (v c).walks

-- no walk is cut: it ends at a character without an alias, after no more links than there are aliases
pub whole_walk : (ds : List Definition) → Admits [] ds → (c : ℕ) → WholeWalk ds c
whole_walk ds h c = let v = all_end ds h in record { ends = (walk_walks ds h c).ended; within = rw (walk_is ds v c) (links_aliases ds v c) }

-- ---- refusal 12

-- with these definitions a walk that starts at c comes back to c, after one link or more
abbrev pub Returns : List Definition → ℕ → Type 0
Returns ds c = (k : ℕ) × (1 ≤ k) × Reaches (alias_of (table ds)) c k c

-- a definition of a character without one, not of the braille row, closes a loop exactly if with it a walk from that character comes back there
pub loop_returns : (ds : List Definition) (d : Definition) → Admits [] ds → is_braille d.character ≡ false → find ds d.character ≡ None
    → (closes_loop ds d ≡ true) ↔ Returns (ds ++ d ∷ []) d.character
loop_returns ds d h plain fresh =
    let v = all_end ds h in
    let free = alias_fresh ds d.character fresh in
    rw (loop_comes ds v d, alias_new ds d plain fresh) (
      comes_returns (alias_of (table ds)) v d.character free (target_of (Some d.meaning)),
      returns_comes (alias_of (table ds)) v d.character free (target_of (Some d.meaning)),
    )
