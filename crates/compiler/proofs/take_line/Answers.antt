use Rattle.std.proofs.lemmas.Result.{err_from_is_err_and}
use Rattle.compiler.proofs.Effects.{leaves_refused, leaves_skipped, had_room, leaves_changed, put_room, put_small, leaves_stored}
use Rattle.compiler.proofs.take_line.Goals as goal

pub returns-in_err-reading-clause-leaves : goal.returns-in_err-reading-clause-leaves
returns-in_err-reading-clause-leaves c =
    let p = err_from_is_err_and c.from_residual.result c.from_residual.ensures.1 in
    rw (p.1, p.2) (leaves_refused _ _ c.requires.written _ _ c.in_err-reading.ensures)

pub take_line-requires : goal.take_line-requires
take_line-requires c = had_room _ c.args.state.now c.requires.written _ (rw c.in-Block.is at c.in_ok-reading.ensures)

pub put-requires : goal.put-requires
put-requires c =
    let does = rw c.in-Define.is at c.in_ok-reading.ensures in
    (put_room _ c.args.state.now c.requires.written _ does, put_small _ c.args.state.now c.requires.written _ does)

pub returns-in-NoEffect-clause-leaves : goal.returns-in-NoEffect-clause-leaves
returns-in-NoEffect-clause-leaves c = leaves_skipped _ _ c.requires.written _ (rw c.in-NoEffect.is at c.in_ok-reading.ensures)

pub returns-in-Block-clause-leaves : goal.returns-in-Block-clause-leaves
returns-in-Block-clause-leaves c = leaves_changed _ _ c.requires.written _ (rw c.in-Block.is at c.in_ok-reading.ensures) c.take_line.ensures

pub returns-in-Define-clause-leaves : goal.returns-in-Define-clause-leaves
returns-in-Define-clause-leaves c = leaves_stored _ _ c.requires.written _ (rw c.in-Define.is at c.in_ok-reading.ensures) c.put.ensures
