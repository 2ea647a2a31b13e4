-- From character to cell: rules 1 to 9.
use Rattle.std.specs.Prelude.{ℕ, ◌+◌, ◌%◌, Bool, List, [], ◌∷◌, eqb, Option, None}
use Rattle.basics.specs.Choice.{pick, if_some}
use Rattle.scalars.specs.Characters.{is_braille, is_private, local_of, base_of, stand_in_of}
use Rattle.definitions.specs.declared.Walk.{Walk}
use Rattle.definitions.specs.Definitions.{Table, explicit, walk}
use Rattle.rules.specs.declared.Answer.{Answer}

-- the explicit cell of a character that there may be
abbrev pub explicit_of : Table → Option ℕ → Option ℕ
explicit_of T other = if_some other None (λ c. explicit T c)

-- the explicit cell at the end of an alias walk that has at least one link
abbrev pub end_cell : Table → Walk → Option ℕ
end_cell T w = pick (eqb w.links 0) None (explicit T w.end)

-- rules 3 to 8 in their order: own cell, end of the alias walk, base character, ASCII stand-in, U+FFFD, `?`
unfoldable pub candidates : Table → ℕ → List (Option ℕ)
candidates T c =
    explicit T c
    ∷ end_cell T (walk T c)
    ∷ explicit_of T (base_of c)
    ∷ explicit_of T (stand_in_of c)
    ∷ explicit T 0xFFFD
    ∷ explicit T 0x3F
    ∷ []

-- the first cell of a list of candidates, the first of them under that rule; all eight dots where there is none
unfoldable pub choose : ℕ → List (Option ℕ) → ℕ → Answer
choose rule [] links = record { cell = 255; rule = rule; links = links }
choose rule (o ∷ os) links =
    let rest : Answer = choose (rule + 1) os links in
    if_some o rest (λ dots. record { cell = dots; rule = rule; links = links })

-- rules 3 to 9, for a character as it stands after rule 2
unfoldable pub rules_from3 : Table → ℕ → Answer
rules_from3 T c = choose 3 (candidates T c) (walk T c).links

-- rule 2 adds 16 to the number of the rule that answers
abbrev pub passed : Bool → Answer → Answer
passed two a = record { cell = a.cell; rule = a.rule + pick two 16 0; links = a.links }

-- rule 1, else rule 2, by a local character set, and the others
unfoldable pub lookup : ℕ → Table → ℕ → Answer
lookup charset T c =
    let others : Answer = passed (is_private c) (rules_from3 T (local_of charset c)) in
    pick (is_braille c) (record { cell = c % 256; rule = 1; links = 0 }) others
