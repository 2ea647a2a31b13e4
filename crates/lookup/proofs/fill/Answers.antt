use Rattle.std.proofs.Common.{refl}
use Rattle.lookup.proofs.Buffers.{filled_more, filled_all}
use Rattle.lookup.proofs.Replies.{same_cell, same_rule}
use Rattle.lookup.proofs.fill.Goals as goal

pub loop-i-init : goal.loop-i-init
loop-i-init g c = (refl, refl)

pub loop-i-preserved : goal.loop-i-preserved
loop-i-preserved g c = (search (filled_more, same_cell), search (filled_more, same_rule))

pub returns-clause-cells : goal.returns-clause-cells
returns-clause-cells g c = search filled_all

pub returns-clause-rules : goal.returns-clause-rules
returns-clause-rules g c = search filled_all
