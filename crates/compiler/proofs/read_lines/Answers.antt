use Rattle.std.proofs.Common.{rules}
use Rattle.compiler.proofs.Call.{come_first, come_on, come_refused, come_end}
use Rattle.compiler.proofs.read_lines.Goals as goal

pub loop-line-init : goal.loop-line-init
loop-line-init c =
    let all = c.lines_of-line-items.ensures in
    come_first _ _ _ _ (rw c.into_iter-line-iterator.ensures.into_iter_gives all) c.requires.empty c.requires.short (rw c.new.ensures)

pub returns-in-Err : goal.returns-in-Err
returns-in-Err c =
    come_refused _ _ _ c.loop-line.state _ c.loop-line.invariant _ _ c.in-Some.ensures.steps _ _ c.in-Err.ensures.leaves c.in-Err.ensures.same c.in_line.ensures c.clear.ensures

pub loop-line-preserved : goal.loop-line-preserved
loop-line-preserved c =
    come_on _ _ _ c.loop-line.state _ c.loop-line.invariant _ _ c.in-Some.ensures.steps _ _ c.in_default.ensures.leaves (search rules)

pub returns : goal.returns
returns c = come_end _ _ _ c.loop-line.state _ c.loop-line.invariant c.in-None.ensures.steps.0 c.close.ensures
