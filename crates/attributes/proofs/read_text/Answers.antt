use Rattle.std.proofs.Common.{sym, rules, arith, ap, length, inl}
use Rattle.lines.proofs.Texts.{walk_short, walk_refused, walk_on, lines_read, refused_as}
use Rattle.attributes.proofs.Compile.{long_text, come_first}
use Rattle.attributes.proofs.read_text.Goals as goal

pub returns-then-text-gt-TEXT_LIMIT : goal.returns-then-text-gt-TEXT_LIMIT
returns-then-text-gt-TEXT_LIMIT c = rw c.into.ensures (search long_text)

pub loop-i-init-derived : goal.loop-i-init-derived
loop-i-init-derived c =
    let walk = c.enumerate-i-items.ensures in
    ((tt, tt, inl (walk_short _ _ _ _ c.into_iter-i-iterator.ensures.into_iter_gives walk.source walk.count c.lines_of.ensures _ (search rules))), tt)

pub loop-i-init : goal.loop-i-init
loop-i-init c =
    let walk = c.enumerate-i-items.ensures in
    come_first _ c.new-states.ensures _ _ _ _ c.into_iter-i-iterator.ensures.into_iter_gives walk.source walk.count c.lines_of.ensures (search rules)

pub loop-i-preserved : goal.loop-i-preserved
loop-i-preserved c =
    let here = c.loop-i.invariant in
    let gives = c.in-Some.ensures.steps in (
      walk_on _ _ c.loop-i.i-iterator _ here.0 c.in-Some.line _ c.next.new.self gives _ c.after.ensures.states_value _ c.in-Ok.is,
      omega (arith, ap length gives.0, here.1, c.in-Ok.ensures.lines_bound),
    )

pub returns-in-Err : goal.returns-in-Err
returns-in-Err c =
    let read = walk_refused _ _ c.loop-i.i-iterator _ c.loop-i.invariant.0 c.in-Some.line _ c.next.new.self c.in-Some.ensures.steps in
    refused_as _ _ _ _ _ c.in_line.ensures (read _ c.after.ensures.states_value _ c.in-Err.is)

pub returns : goal.returns
returns c = sym (lines_read _ _ _ _ _ c.loop-i.invariant.0 c.in-None.ensures.steps.0.0)
