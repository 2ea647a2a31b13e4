use Rattle.std.proofs.Common.{rules}
use Rattle.windows.proofs.Lists.{next_window, no_window}
use Rattle.windows.proofs.Outputs.{in_page, in_output, filled_none, filled_more, filled_all}
use Rattle.windows.proofs.fill.Goals as goal

pub loop-w-init : goal.loop-w-init
loop-w-init g c = search filled_none

pub overflow_add-part : goal.overflow_add-part
overflow_add-part g c =
    let h = in_page _ _ _ _ c.loop-w.invariant.0 (next_window _ _ _ c.loop-w-test.true c.w-item.is c.window-w.ensures) in
    search rules

pub offset_bounds-page-w : goal.offset_bounds-page-w
offset_bounds-page-w g c =
    let h = in_page _ _ _ _ c.loop-w.invariant.0 (next_window _ _ _ c.loop-w-test.true c.w-item.is c.window-w.ensures) in
    search rules

pub slice_bounds-part-end : goal.slice_bounds-part-end
slice_bounds-part-end g c = search (in_page, next_window)

pub slice_bounds-fill-end : goal.slice_bounds-fill-end
slice_bounds-fill-end g c = search (in_output, next_window)

pub slice_bounds-fill-end-in-loop-w : goal.slice_bounds-fill-end-in-loop-w
slice_bounds-fill-end-in-loop-w g c = search (in_output, next_window)

pub loop-w-preserved : goal.loop-w-preserved
loop-w-preserved g c = (search (filled_more, next_window), search (filled_more, next_window))

pub returns-clause-cells : goal.returns-clause-cells
returns-clause-cells g c = search (filled_all, no_window)

pub returns-clause-rules : goal.returns-clause-rules
returns-clause-rules g c = search (filled_all, no_window)
