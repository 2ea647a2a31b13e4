-- The explicit cell of a character, as its alias walk tells it.
use Rattle.std.specs.Prelude.{Option, None, Some}
use Rattle.definitions.specs.declared.Meaning.{Meaning}
use Prim.Native.Nat.{ℕ, zero, suc, ◌+◌}
use mathlib.Core.Path.{◌≡◌, refl}
use native.Mathlib.Omega.{arith}
use lib.Dec.{eqb}
use borrow.Author.Tests.{ne_eqb}
use Rattle.basics.specs.Choice.{pick}
use Rattle.definitions.specs.declared.Meaning.TheVariants.{Typed, Shown, Alias}
use Rattle.definitions.specs.declared.Walk.{Walk}
use Rattle.definitions.specs.Definitions.{Table, target_of, explicit, alias_of, follow, walk_within, walk}

module _ (T : Table) (c : ℕ) where
  -- a walk that begins at what is found for c
  own_by : (f : Option Meaning) (more : ℕ → Walk) → T.found c ≡ f →
      explicit T c ≡ pick (eqb (follow (target_of f) (record { end = c; links = 0 }) more).links 0)
      (explicit T (follow (target_of f) (record { end = c; links = 0 }) more).end) None
  unfolding explicit
  own_by None more p = rw p
  own_by (Some (Typed dots)) more p = rw p
  own_by (Some (Shown dots)) more p = rw p
  own_by (Some (Alias target)) more p = rw (p, ne_eqb ((more target).links + 1) 0 (λ q. omega arith))

  own_within : (n : ℕ) → explicit T c ≡ pick (eqb (walk_within (alias_of T) n c).links 0) (explicit T (walk_within (alias_of T) n c).end) None
  unfolding walk_within alias_of
  own_within zero = refl
  own_within (suc n) = own_by (T.found c) (walk_within (alias_of T) n) refl

  -- a walk without links ends where it began; one with links begins at an alias, which has no cell of its own
  pub own_cell : explicit T c ≡ pick (eqb (walk T c).links 0) (explicit T (walk T c).end) None
  unfolding walk
  own_cell = own_within T.budget
