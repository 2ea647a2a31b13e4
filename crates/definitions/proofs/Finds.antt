-- What is found where definitions follow others: in either part, kept by later ones, the same where no later one is for the character.
use Rattle.std.specs.Prelude.{Option, None, Some, is_some}
use Prim.Native.Nat.{ℕ}
use mathlib.Core.Path.{◌≡◌, refl}
use mathlib.Core.Bool.{Bool, true, false}
use mathlib.Core.List.{List, [], ◌∷◌, ◌++◌}
use lib.Dec.{eqb}
use Rattle.basics.specs.Choice.{pick}
use Rattle.basics.proofs.Tests.{by_cases}
use Rattle.scalars.specs.Characters.{is_braille}
use Rattle.definitions.specs.declared.Meaning.{Meaning}
use Rattle.definitions.specs.declared.Definition.{Definition}
use Rattle.definitions.specs.Definitions.{find, found_in, target_of, table, alias_of}
use Rattle.definitions.specs.Effects.{is_defined}

-- the first that is found
abbrev pub or_else : Option Meaning → Option Meaning → Option Meaning
or_else None g = g
or_else (Some meaning) g = Some meaning

pub or_else_nothing : (f : Option Meaning) → or_else f None ≡ f
or_else_nothing None = refl
or_else_nothing (Some meaning) = refl

pick_or_else : (b : Bool) (m : Meaning) (f g : Option Meaning) → pick b (Some m) (or_else f g) ≡ or_else (pick b (Some m) f) g
pick_or_else true m f g = refl
pick_or_else false m f g = refl

-- the earlier definitions come first
pub find_append : (xs ys : List Definition) (c : ℕ) → find (xs ++ ys) c ≡ or_else (find xs c) (find ys c)
unfolding find
find_append [] ys c = refl
find_append (d ∷ xs) ys c = rw (find_append xs ys c) (pick_or_else (eqb d.character c) d.meaning (find xs c) (find ys c))

-- a character without a definition is found nowhere
pub not_found : (f : Option Meaning) → is_some f ≡ false → f ≡ None
not_found None e = refl
not_found (Some meaning) e = cc

pub not_first : (b : Bool) (m : Meaning) (f : Option Meaning) → pick b (Some m) f ≡ None → (b ≡ false) × (f ≡ None)
not_first true m f e = (cc, cc)
not_first false m f e = (refl, e)

-- what is found stays found
pub found_kept : (ds rs : List Definition) (c : ℕ) (m : Meaning) → found_in ds c ≡ Some m → found_in (ds ++ rs) c ≡ Some m
unfolding found_in
found_kept ds rs c m e =
    by_cases (is_braille c) (λ q. rw q (rw q at e))
    (λ q. let f : find ds c ≡ Some m = rw q at e in rw (q, find_append ds rs c, f))

-- the same where no later definition is for the character
pub found_same : (ds rs : List Definition) (c : ℕ) → is_defined rs c ≡ false → found_in (ds ++ rs) c ≡ found_in ds c
unfolding found_in
found_same ds rs c h = rw (find_append, not_found (find rs c) h, or_else_nothing)

-- an alias is found where a definition says it, but none of the braille row
pub alias_found : (ds : List Definition) (c : ℕ) → alias_of (table ds) c ≡ pick (is_braille c) None (target_of (find ds c))
unfolding alias_of found_in
alias_found ds c = by_cases (is_braille c) (λ e. rw e) (λ e. rw e)
