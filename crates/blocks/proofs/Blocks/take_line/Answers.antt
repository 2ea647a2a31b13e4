use Rattle.std.proofs.Common.{refl, arith, rules}
use Rattle.blocks.proofs.Stacks.{room_told, changed_open, turned_none, turned_changed, closed_any, changed_as}
use Rattle.blocks.proofs.Blocks.take_line.Goals as goal

pub returns-in-Open : goal.returns-in-Open
returns-in-Open c =
    changed_as (changed_open _ _ _ (search rules) c.in-Open.first c.in-Open.second (room_told _ _ _ _ c.requires c.in-Open.is) refl refl) c.in-Open.is

pub returns-in-Some : goal.returns-in-Some
returns-in-Some c = changed_as (turned_changed _ _ _ (search rules) c.in-Some.top (omega (arith, c.in-Some.ensures)) refl refl) c.in-Else.is

pub returns-in_default : goal.returns-in_default
returns-in_default c =
    changed_as (turned_none _ _ _ (search rules) (omega (arith, c.in_default.ensures)) (omega (arith, c.in_default.ensures))) c.in-Else.is

pub returns-in-EndIf : goal.returns-in-EndIf
returns-in-EndIf c = changed_as (closed_any _ _ _ (search rules) refl c.saturating_sub-self.ensures) c.in-EndIf.is
