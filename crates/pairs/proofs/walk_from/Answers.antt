use Rattle.std.proofs.Common.{rules}
use Rattle.pairs.proofs.Walks.{walk_first, walk_on, walk_ends, walk_cut}
use Rattle.pairs.proofs.walk_from.Goals as goal
use Rattle.pairs.proofs.walk_from.Goals.{then-links-count+in_default, else-links-count}

pub loop-links-init : goal.loop-links-init
loop-links-init g c = (search rules, search walk_first)

pub loop-links-preserved : goal.loop-links-preserved
loop-links-preserved g c = (search rules, search walk_on)

pub returns-in-loop-links : goal.returns-in-loop-links
returns-in-loop-links g c = elim c.if-links-count.branch [ then-links-count+in_default w ↦ search walk_ends | else-links-count w ↦ search walk_cut ]
