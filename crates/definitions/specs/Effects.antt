-- What refuses a definition that is to take effect after others: 22, 11, 12, 13, in this order.
use Rattle.std.specs.Prelude.{ℕ, Bool, false, List, length, eqb, leb, Some, is_some, Result, Ok, Err}
use Rattle.basics.specs.Choice.{pick, if_some}
use Rattle.basics.specs.declared.Refusal.{Refusal}
use Rattle.basics.specs.declared.Refusal.TheVariants.{BrailleRow, AlreadyDefined, AliasLoop, TableFull}
use Rattle.scalars.specs.Characters.{is_braille}
use Rattle.definitions.specs.declared.Definition.{Definition}
use Rattle.definitions.specs.Definitions.{find, target_of, table, walk}

-- one character has at most one definition
abbrev pub is_defined : List Definition → ℕ → Bool
is_defined ds c = is_some (find ds c)

-- an alias of x that would make a walk return to x: the walk of its target comes to x, alias to itself included.
-- x has no definition yet, since 11 comes first, so a walk that comes to x ends there
abbrev pub closes_loop : List Definition → Definition → Bool
closes_loop ds d =
    if_some (target_of (Some d.meaning)) false (λ target. eqb (walk (table ds) target).end d.character)

abbrev pub definition_limit : ℕ
definition_limit = 1024

unfoldable pub verdict_of : List Definition → Definition → Result (Unit {0}) Refusal
verdict_of ds d =
    pick (is_braille d.character) (Err BrailleRow)
    (pick (is_defined ds d.character) (Err AlreadyDefined)
    (pick (closes_loop ds d) (Err AliasLoop)
    (pick (leb definition_limit (length ds)) (Err TableFull)
    (Ok tt))))
