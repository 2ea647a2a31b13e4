use Rattle.std.proofs.Common.{arith}
use Rattle.typing.proofs.Calls.{scan_over}
use Rattle.typing.proofs.fill_entries.Goals as goal

pub returns : goal.returns
returns c = scan_over c.rows-row-items.result.now _ _ _ c.loop-row.invariant (omega arith)
