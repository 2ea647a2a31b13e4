-- Definitions in order of effect: what a character means, its explicit cell, its alias walk, what a cell types.
use Rattle.std.specs.Prelude.{ℕ, zero, suc, ◌+◌, ◌%◌, ◌≤◌, ◌≡◌, Bool, false, eqb}
use Rattle.std.specs.Prelude.{List, [], ◌∷◌, length, Option, None, Some}
use Rattle.basics.specs.Choice.{pick}
use Rattle.scalars.specs.Characters.{is_braille}
use Rattle.definitions.specs.declared.Meaning.{Meaning}
use Rattle.definitions.specs.declared.Meaning.TheVariants.{Typed, Shown, Alias}
use Rattle.definitions.specs.declared.Definition.{Definition}
use Rattle.definitions.specs.declared.Walk.{Walk}

-- what the earliest definition of a character says
unfoldable pub find : List Definition → ℕ → Option Meaning
find [] c = None
find (d ∷ ds) c =
    let rest : Option Meaning = find ds c in
    pick (eqb d.character c) (Some d.meaning) rest

-- what is found for a character: a character of the braille row shows its low eight bits, any other what its definition
-- says
unfoldable pub found_in : List Definition → ℕ → Option Meaning
found_in ds c = pick (is_braille c) (Some (Shown (c % 256))) (find ds c)

-- the first two meanings are explicit
abbrev pub cell_of : Option Meaning → Option ℕ
cell_of None = None
cell_of (Some (Typed dots)) = Some dots
cell_of (Some (Shown dots)) = Some dots
cell_of (Some (Alias target)) = None

abbrev pub target_of : Option Meaning → Option ℕ
target_of None = None
target_of (Some (Typed dots)) = None
target_of (Some (Shown dots)) = None
target_of (Some (Alias target)) = Some target

-- what lookup goes by: what each character means, and a number of links that no walk needs to pass
pub record Table : Type 0 where
  pub found : ℕ → Option Meaning
  pub budget : ℕ

-- the table of some definitions. No walk that ends has more links than there are definitions (a law says so)
abbrev pub table : List Definition → Table
table ds = record { found = found_in ds; budget = length ds }

-- a character's explicit cell, and its alias target
unfoldable pub explicit : Table → ℕ → Option ℕ
explicit T c = cell_of (T.found c)

unfoldable pub alias_of : Table → ℕ → Option ℕ
alias_of T c = target_of (T.found c)

-- a walk with one link more at its front
abbrev pub longer : Walk → Walk
longer w = record { end = w.end; links = w.links + 1 }

abbrev pub follow : Option ℕ → Walk → (ℕ → Walk) → Walk
follow None here more = here
follow (Some target) here more = longer (more target)

-- from alias to alias until a character without one, over so many links at most
unfoldable pub walk_within : (ℕ → Option ℕ) → ℕ → ℕ → Walk
walk_within alias zero c = record { end = c; links = 0 }
walk_within alias (suc n) c = follow (alias c) (record { end = c; links = 0 }) (λ target. walk_within alias n target)

-- the alias walk of a character
unfoldable pub walk : Table → ℕ → Walk
walk T c = walk_within (alias_of T) T.budget c

-- how many of the definitions are aliases
abbrev pub is_alias : Meaning → ℕ
is_alias (Typed dots) = 0
is_alias (Shown dots) = 0
is_alias (Alias target) = 1

unfoldable pub aliases : List Definition → ℕ
aliases [] = 0
aliases (d ∷ ds) = is_alias d.meaning + aliases ds

-- "the links followed equal the length of the alias walk and never exceed the table's aliases": no walk is cut short
pub record WholeWalk (ds : List Definition) (c : ℕ) : Type 0 where
  pub ends : alias_of (table ds) (walk (table ds) c).end ≡ None
  pub within : (walk (table ds) c).links ≤ aliases ds

-- whether a meaning is that of a `char` line with that cell
abbrev pub types : Meaning → ℕ → Bool
types (Typed dots) cell = eqb dots cell
types (Shown dots) cell = false
types (Alias target) cell = false

-- typing: the character of the earliest `char` definition with that cell, or nothing
unfoldable pub typed_in : List Definition → ℕ → Option ℕ
typed_in [] cell = None
typed_in (d ∷ ds) cell =
    let rest : Option ℕ = typed_in ds cell in
    pick (types d.meaning cell) (Some d.character) rest
