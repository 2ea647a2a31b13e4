use Rattle.pairs.proofs.Scan.{scan_here, scan_later, scan_none}
use Rattle.pairs.proofs.PairsFinder.find.Goals as goal

pub loop-row-init : goal.loop-row-init
loop-row-init c = rw c.rows-row-items.ensures.value

pub returns-then-row-character : goal.returns-then-row-character
returns-then-row-character c = search scan_here

pub loop-row-preserved : goal.loop-row-preserved
loop-row-preserved c = search scan_later

pub returns : goal.returns
returns c = search scan_none
