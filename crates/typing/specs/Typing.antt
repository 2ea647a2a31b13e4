-- Typing: what each of the 256 cells enters. Order of refusals: 2, 15.
use Rattle.std.specs.Prelude.{ℕ, List, [], ◌∷◌, Option, None, Some, get_or, set, replicate}
use Rattle.basics.specs.Refusals.{Reply, answered, refused, and_then}
use Rattle.definitions.specs.declared.Meaning.{Meaning}
use Rattle.definitions.specs.declared.Meaning.TheVariants.{Typed, Shown, Alias}
use Rattle.definitions.specs.declared.Definition.{Definition}
use Rattle.table.specs.Check.{lent_table}

-- each cell of an entry table is at first typing nothing
abbrev pub nothing : Option ℕ
nothing = None

-- an entry with one `char` more for its cell: the earliest wins
abbrev pub kept_in : Option ℕ → ℕ → Option ℕ
kept_in None c = Some c
kept_in (Some earlier) c = Some earlier

-- a `char` definition fills the entry of its cell, unless an earlier one did; nothing else is typed
abbrev pub with_meaning : List (Option ℕ) → ℕ → Meaning → List (Option ℕ)
with_meaning es c (Typed dots) = set es dots (kept_in (get_or es dots nothing) c)
with_meaning es c (Shown dots) = es
with_meaning es c (Alias target) = es

-- an entry table after some definitions more
unfoldable pub filled_from : List Definition → List (Option ℕ) → List (Option ℕ)
filled_from [] es = es
filled_from (d ∷ ds) es = filled_from ds (with_meaning es d.character d.meaning)

-- the entry table of some definitions: 256 cells, each at first typing nothing
abbrev pub entries_of : List Definition → List (Option ℕ)
entries_of ds = filled_from ds (replicate 256 nothing)

-- the typing call answers no value but the entries
abbrev pub typing_reply : List ℕ → Reply (Unit {0})
typing_reply ws = and_then (lent_table ws) (λ ds. answered tt)

abbrev pub entries_by : Reply (List Definition) → List (Option ℕ)
entries_by (answered ds) = entries_of ds
entries_by (refused number place) = replicate 256 nothing

-- the entries that it hands back: a refused call's type nothing
abbrev pub typing_entries : List ℕ → List (Option ℕ)
typing_entries ws = entries_by (lent_table ws)

-- what a cell types on the words of a table
abbrev pub typed_by : List ℕ → ℕ → Option ℕ
typed_by ws cell = get_or (typing_entries ws) cell nothing
