-- Alias walks over any function from a character to its alias target: links as a relation, whole walks, what the walk
-- within a budget answers, and what one alias more does to them.
use Prim.Native.Nat.{ℕ, zero, suc, ◌+◌, ◌≤◌}
use mathlib.Core.Path.{◌≡◌, refl, sym, ap, subst}
use mathlib.Core.Bool.{Bool, true, false}
use native.Mathlib.Nat.{zero-add, suc-add}
use native.Mathlib.Numerals.{add-one}
use native.Mathlib.Omega.{arith}
use lib.Dec.{eqb}
use borrow.Author.Tests.{eqb-true, eqb-false, eq-eqb, ne_eqb}
use Rattle.basics.proofs.Tests.{by_test, either}
use Rattle.basics.specs.Choice.{pick, if_some}
use Rattle.std.specs.Prelude.{Option, None, Some}
use Rattle.definitions.specs.Definitions.{walk_within}

-- k alias links lead from c to e
pub data Reaches (alias : ℕ → Option ℕ) : ℕ → ℕ → ℕ → Type 0 where
  Here : {c : ℕ} → Reaches alias c 0 c
  Link : {c t e k : ℕ} → alias c ≡ Some t → Reaches alias t k e → Reaches alias c (suc k) e

-- the whole walk from c is k links to e, which has no alias
pub record Walks (alias : ℕ → Option ℕ) (c e k : ℕ) : Type 0 where
  pub way : Reaches alias c k e
  pub ended : alias e ≡ None

-- a whole walk is what a budget of at least its links answers
pub walk_reached : {alias : ℕ → Option ℕ} {c e k : ℕ} → Reaches alias c k e → alias e ≡ None → (n : ℕ) → k ≤ n
    → walk_within alias n c ≡ record { end = e; links = k }
unfolding walk_within
walk_reached Here h zero l = refl
walk_reached Here h (suc n) l = rw h
walk_reached (Link g r) h zero l = absurd (omega arith)
walk_reached (Link g r) h (suc n) l = rw (g, walk_reached r h n (omega arith), add-one)

-- another function that has all the aliases of this one
abbrev pub Extends : (ℕ → Option ℕ) → (ℕ → Option ℕ) → Type 0
Extends alias more = (c t : ℕ) → alias c ≡ Some t → more c ≡ Some t

-- it has all the links
links_kept : {alias more : ℕ → Option ℕ} {c e k : ℕ} → Extends alias more → Reaches alias c k e → Reaches more c k e
links_kept up Here = Here
links_kept up (Link {c = c} {t = t} g r) = Link (up c t g) (links_kept up r)

-- and the whole walks whose end still has no alias
pub walk_kept : {alias more : ℕ → Option ℕ} {c e k : ℕ} → Extends alias more → more e ≡ None → Walks alias c e k → Walks more c e k
walk_kept up h w = record { way = links_kept up w.way; ended = h }

links_join : {alias : ℕ → Option ℕ} {c x e j k : ℕ} → Reaches alias c j x → Reaches alias x k e → Reaches alias c (j + k) e
links_join Here v = rw zero-add v
links_join (Link g r) v = rw suc-add (Link g (links_join r v))

links_unique : {alias : ℕ → Option ℕ} {c x y j k : ℕ} → Reaches alias c j x → alias x ≡ None → Reaches alias c k y → alias y ≡ None → (x ≡ y) × (j ≡ k)
links_unique Here p Here q = (refl, refl)
links_unique Here p (Link h v) q = (cc, cc)
links_unique (Link g r) p Here q = (cc, cc)
links_unique {alias} (Link {t = t} g r) p (Link {t = u} {e = y} {k = k} h v) q =
    let same : u ≡ t = cc in
    let rest = links_unique r p (subst (λ (z : ℕ). Reaches alias z k y) same v) q in
    (rest.0, ap suc rest.1)

-- a character has one whole walk
pub walk_unique : {alias : ℕ → Option ℕ} {c x y j k : ℕ} → Walks alias c x j → Walks alias c y k → (x ≡ y) × (j ≡ k)
walk_unique w v = links_unique w.way w.ended v.way v.ended

-- a character with a whole walk never comes back to itself
no_return : {alias : ℕ → Option ℕ} {c e j k : ℕ} → Walks alias c e j → Reaches alias c (suc k) c → ⊥
no_return {k = k} w r =
    let twice = walk_unique w (record { way = links_join r w.way; ended = w.ended }) in
    omega (arith, twice.1)

-- the walk of a character is whole
pub record HasEnd (alias : ℕ → Option ℕ) (c : ℕ) : Type 0 where
  pub end : ℕ
  pub links : ℕ
  pub walks : Walks alias c end links

ends : {alias : ℕ → Option ℕ} {c e k : ℕ} → Walks alias c e k → HasEnd alias c
ends {e = e} {k = k} w = record { end = e; links = k; walks = w }

-- every character's walk ends
abbrev pub Ending : (ℕ → Option ℕ) → Type 0
Ending alias = (c : ℕ) → HasEnd alias c

pub none_ending : Ending (λ c. None)
none_ending c = ends (record { way = Here; ended = refl })

-- what x has put to another: an alias, or none
abbrev pub put : (ℕ → Option ℕ) → ℕ → Option ℕ → ℕ → Option ℕ
put alias x o c = pick (eqb x c) o (alias c)

put_at : (alias : ℕ → Option ℕ) (x : ℕ) (o : Option ℕ) → put alias x o x ≡ o
put_at alias x o = rw (eq-eqb x x refl)

-- the walk of a target, if there is one, comes to x
abbrev pub comes_to : {alias : ℕ → Option ℕ} → Ending alias → Option ℕ → ℕ → Bool
comes_to v o x = if_some o false (λ target. eqb (v target).end x)

-- two numbers are the same, or not
by_same : {A : Type 0} (a b : ℕ) → (a ≡ b → A) → ((a ≡ b → ⊥) → A) → A
by_same {A} a b p q = by_test (λ (n : ℕ). A) (eqb a b) {x = a} {y = b} (λ e. p (eqb-true a b e)) (λ e. q (eqb-false a b e))

-- x has no alias yet
module _ (alias : ℕ → Option ℕ) (v : Ending alias) (x : ℕ) (free : alias x ≡ None) where
  put_extends : (o : Option ℕ) → Extends alias (put alias x o)
  put_extends o c u g = by_test (λ (m : Option ℕ). m ≡ Some u) (eqb x c) (λ p. cc (ap alias (eqb-true x c p))) (λ p. g)

  -- a walk that does not end at x stays
  put_walk : (o : Option ℕ) {c e k : ℕ} → Walks alias c e k → (e ≡ x → ⊥) → Walks (put alias x o) c e k
  put_walk o {e = e} w other = walk_kept (put_extends o) (rw (ne_eqb x e (λ q. other (sym q))) w.ended) w

  -- that of x goes on with the walk of its alias t
  put_walk_on : (t : ℕ) → ((v t).end ≡ x → ⊥) → Walks (put alias x (Some t)) x (v t).end (suc (v t).links)
  put_walk_on t other =
      let w = put_walk (Some t) (v t).walks other in
      record { way = Link (put_at alias x (Some t)) w.way; ended = w.ended }

  -- the links to x stay
  to_x : (o : Option ℕ) (c : ℕ) → (v c).end ≡ x → Reaches (put alias x o) c (v c).links x
  to_x o c same = links_kept (put_extends o) (rw same at (v c).walks.way)

  -- every walk still ends, if that of the target does not come to x
  pub put_ending : (o : Option ℕ) → comes_to v o x ≡ false → Ending (put alias x o)
  put_ending None e c =
      ends (walk_kept (put_extends None) (either (λ (m : Option ℕ). m ≡ None) (eqb x (v c).end) refl (v c).walks.ended) (v c).walks)
  put_ending (Some t) e c =
      let on = put_walk_on t (eqb-false (v t).end x e) in
      by_same (v c).end x
      (λ same. ends (record { way = links_join (to_x (Some t) c same) on.way; ended = on.ended }))
      (λ other. ends (put_walk (Some t) (v c).walks other))

  -- where it comes to x, x comes back to x
  pub comes_returns : (o : Option ℕ) → comes_to v o x ≡ true → (k : ℕ) × (1 ≤ k) × Reaches (put alias x o) x k x
  comes_returns None e = absurd (let z : ◌≡◌ {A = ℕ} 0 1 = cc in omega arith)
  comes_returns (Some t) e =
      (suc (v t).links, omega arith, Link (put_at alias x (Some t)) (to_x (Some t) t (eqb-true (v t).end x e)))

  -- and only there
  pub returns_comes : (o : Option ℕ) → (k : ℕ) × (1 ≤ k) × Reaches (put alias x o) x k x → comes_to v o x ≡ true
  returns_comes o (zero, l, r) = absurd (omega arith)
  returns_comes None (suc k, l, r) = absurd (no_return (record { way = Here; ended = put_at alias x None }) r)
  returns_comes (Some t) (suc k, l, r) = by_same (v t).end x (eq-eqb (v t).end x) (λ other. absurd (no_return (put_walk_on t other) r))
