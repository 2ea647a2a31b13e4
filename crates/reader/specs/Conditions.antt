-- The conditions, judged with the definitions of the lines so far.
use Rattle.std.specs.Prelude.{ℕ, ◌%◌, Bool, ◌||◌, List, eqb, is_some}
use Rattle.definitions.specs.declared.Definition.{Definition}
use Rattle.definitions.specs.Definitions.{table, typed_in}
use Rattle.rules.specs.Rules.{lookup}

-- `ifGlyph`: the lookup answers by rule 3 or 4, rule 2 passed or not
unfoldable pub has_glyph : ℕ → List Definition → ℕ → Bool
has_glyph charset ds c =
    let rule : ℕ = (lookup charset (table ds) c).rule % 16 in
    eqb rule 3 || eqb rule 4

-- `ifCell`: some `char` so far has that cell
unfoldable pub has_cell : List Definition → ℕ → Bool
has_cell ds cell = is_some (typed_in ds cell)
