-- The alias walk as a loop goes it, at a character after k links.
use Prim.Native.Nat.{ℕ, zero, suc, ◌+◌, ◌-◌, ◌≤◌, ◌<◌}
use mathlib.Core.Path.{◌≡◌, refl, ap, ◌∙◌}
use mathlib.Core.List.{List}
use native.Mathlib.Omega.{arith}
use lib.ListN.{length}
use Rattle.basics.proofs.Tests.{told}
use Rattle.std.specs.Prelude.{Option, None, Some}
use Rattle.definitions.specs.declared.Meaning.{Meaning}
use Rattle.definitions.specs.declared.Definition.{Definition}
use Rattle.definitions.specs.declared.Walk.{Walk}
use Rattle.definitions.specs.Definitions.{found_in, cell_of, target_of, table, explicit, alias_of, walk_within, walk}
use Rattle.pairs.specs.Internal.{walk_with_cell}

at_links : (e : ℕ) {m n : ℕ} → m ≡ n → ◌≡◌ {A = Walk} (record { end = e; links = m }) (record { end = e; links = n })
at_links e p = ap (λ (k : ℕ). record { end = e; links = k }) p

-- a walk after k links
abbrev pub after : ℕ → Walk → Walk
after k w = record { end = w.end; links = k + w.links }

walk_end_lem : (alias : ℕ → Option ℕ) (n c : ℕ) → alias c ≡ None → walk_within alias n c ≡ record { end = c; links = 0 }
unfolding walk_within
walk_end_lem alias zero c e = refl
walk_end_lem alias (suc n) c e = rw e

pub walk_first : (ds : List Definition) (c : ℕ) → walk (table ds) c ≡ after 0 (walk_within (alias_of (table ds)) (length ds - 0) c)
unfolding walk
walk_first ds c = let p : length ds - 0 ≡ length ds = omega arith in rw p (at_links _ (omega arith))

module _ (ds : List Definition) (c n k e : ℕ) (inv : walk (table ds) c ≡ after k (walk_within (alias_of (table ds)) (n - k) e)) where
  pub walk_on : {f : Option Meaning} {t : Option ℕ} (target : ℕ) {m : ℕ} → m ≡ n → k < m → f ≡ found_in ds e → t ≡ target_of f → t ≡ Some target
      → walk (table ds) c ≡ after (k + 1) (walk_within (alias_of (table ds)) (n - (k + 1)) target)
  unfolding alias_of walk_within
  walk_on target count h found of is =
      let p : n - k ≡ suc (n - (k + 1)) = omega arith in
      inv ∙ rw (p, ← found, told of is) (at_links _ (omega arith))

  -- what the loop answers where the walk goes no further
  walk_here : {v : Option ℕ} → walk_within (alias_of (table ds)) (n - k) e ≡ record { end = e; links = 0 } → v ≡ explicit (table ds) e
      → record { end = e; links = k; cell = v } ≡ walk_with_cell (table ds) c
  walk_here here cell = let p : walk (table ds) c ≡ record { end = e; links = k } = inv ∙ rw here (at_links _ (omega arith)) in rw (p, cell)

  pub walk_ends : {f : Option Meaning} {t : Option ℕ} {v : Option ℕ} → f ≡ found_in ds e → t ≡ target_of f → t ≡ None → v ≡ cell_of f
      → record { end = e; links = k; cell = v } ≡ walk_with_cell (table ds) c
  unfolding alias_of explicit
  walk_ends found of is cell = walk_here (walk_end_lem (alias_of (table ds)) (n - k) e (rw (← found) (told of is))) (rw (← found) cell)

  pub walk_cut : {f : Option Meaning} {v : Option ℕ} {m : ℕ} → m ≡ n → m ≤ k → f ≡ found_in ds e → v ≡ cell_of f
      → record { end = e; links = k; cell = v } ≡ walk_with_cell (table ds) c
  unfolding walk_within explicit
  walk_cut count h found cell = let p : n - k ≡ 0 = omega arith in walk_here (rw p) (rw (← found) cell)
