use Rattle.std.proofs.Common.{ap, refl, Ok}
use Rattle.std.proofs.lemmas.Result.{err_from_is_err_and}
use Rattle.reader.proofs.Reader.{some_room, read_whole, read_fault, read_further}
use Rattle.reader.proofs.Context.+read_from.Goals as goal

pub returns-in_err-reading : goal.returns-in_err-reading
returns-in_err-reading t c =
    let p = err_from_is_err_and c.from_residual.result c.from_residual.ensures.1 in
    rw (p.1, p.2) (read_fault _ _ _ _ _ c.in_err-reading.ensures.value)

pub returns-in-Whole : goal.returns-in-Whole
returns-in-Whole t c = read_whole _ _ _ _ _ (rw c.in-Whole.is at c.in_ok-reading.ensures.value)

pub returns-in_err-reading-in-Condition : goal.returns-in_err-reading-in-Condition
returns-in_err-reading-in-Condition t c =
    let p = err_from_is_err_and c.from_residual-in_err-reading-in-Condition.result c.from_residual-in_err-reading-in-Condition.ensures.1 in
    let room = some_room _ _ _ _ _ c.in_ok-reading.ensures.front_within (ap Ok c.in-Condition.is) in
    rw (p.1, p.2) (read_further _ _ _ _ _ _ _ _ (rw c.in-Condition.is at c.in_ok-reading.ensures.value) room c.in_err-reading-in-Condition.ensures refl)

pub returns-in_ok-reading-in-Condition : goal.returns-in_ok-reading-in-Condition
returns-in_ok-reading-in-Condition t c =
    let room = some_room _ _ _ _ _ c.in_ok-reading.ensures.front_within (ap Ok c.in-Condition.is) in
    read_further _ _ _ _ _ _ _ _ (rw c.in-Condition.is at c.in_ok-reading.ensures.value) room c.in_ok-reading-in-Condition.ensures (ap Ok c.if_holds.ensures)
