-- What the code knows beyond the rules: rules 7 and 8 go by two cells that are the same for every character.
use Rattle.std.specs.Prelude.{ℕ, ◌%◌, List, [], ◌∷◌, eqb, Option}
use Rattle.basics.specs.Choice.{pick}
use Rattle.scalars.specs.Characters.{is_braille, is_private, local_of, base_of, stand_in_of}
use Rattle.definitions.specs.Definitions.{Table, explicit, walk}
use Rattle.rules.specs.declared.Answer.{Answer}
use Rattle.rules.specs.declared.LastCells.{LastCells}
use Rattle.rules.specs.Rules.{explicit_of, end_cell, choose, passed}

-- these cells of a table
abbrev pub last_cells : Table → LastCells
last_cells T = record { replacement = explicit T 0xFFFD; question = explicit T 0x3F }

-- rules 7 and 8
abbrev pub last_candidates : LastCells → List (Option ℕ)
last_candidates last = last.replacement ∷ last.question ∷ []

-- rules 5 to 8
abbrev pub later_candidates : Table → LastCells → ℕ → List (Option ℕ)
later_candidates T last c = explicit_of T (base_of c) ∷ explicit_of T (stand_in_of c) ∷ last_candidates last

-- rules 3 and 4, for a walk with that cell at its end
abbrev pub walk_answer : ℕ → ℕ → Answer
walk_answer cell links =
    pick (eqb links 0)
    (record { cell = cell; rule = 3; links = links })
    (record { cell = cell; rule = 4; links = links })

-- rules 3 to 9, and all of them, with any two cells for rules 7 and 8
abbrev pub rules_by : Table → LastCells → ℕ → Answer
rules_by T last c = choose 3 (explicit T c ∷ end_cell T (walk T c) ∷ later_candidates T last c) (walk T c).links

abbrev pub lookup_by : ℕ → Table → LastCells → ℕ → Answer
lookup_by charset T last c =
    let others : Answer = passed (is_private c) (rules_by T last (local_of charset c)) in
    pick (is_braille c) (record { cell = c % 256; rule = 1; links = 0 }) others
