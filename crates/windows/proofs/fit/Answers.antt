use Rattle.windows.proofs.Lists.{next_window, no_window, fit_next, fit_no_more, fit_all}
use Rattle.windows.proofs.fit.Goals as goal

pub returns-in_default : goal.returns-in_default
returns-in_default g c = fit_no_more _ _ _ _ c.loop-w.invariant (next_window _ _ _ c.loop-w-test.true c.w-item.is c.window.ensures) c.in_default.ensures

pub loop-w-preserved : goal.loop-w-preserved
loop-w-preserved g c = fit_next _ _ _ _ c.loop-w.invariant (next_window _ _ _ c.loop-w-test.true c.w-item.is c.window.ensures) c.in-Some.ensures

pub returns : goal.returns
returns g c = search (fit_all, no_window)
