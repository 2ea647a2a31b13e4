use Rattle.std.proofs.Common.{rules}
use Rattle.ordered.proofs.Finds.{place_read}
use Rattle.by_order.proofs.seek.Goals as goal

pub offset_bounds-in_order-place : goal.offset_bounds-in_order-place
offset_bounds-in_order-place c =
    let at = place_read _ _ _ c.args.in_order.now.ordered _ c.halve-halved.result c.halve-halved.ensures _ c.in-Ok.is in
    search rules

pub bounds-in_order-place : goal.bounds-in_order-place
bounds-in_order-place c = place_read _ _ _ c.args.in_order.now.ordered _ c.halve-halved.result c.halve-halved.ensures _ c.in-Ok.is
