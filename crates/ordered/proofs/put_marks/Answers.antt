use Rattle.ordered.proofs.Finds.{none_marked, one_marked}
use Rattle.ordered.proofs.put_marks.Goals as goal

pub loop-k-init : goal.loop-k-init
loop-k-init c = search none_marked

pub loop-k-preserved : goal.loop-k-preserved
loop-k-preserved c = search one_marked
