use Rattle.std.proofs.Common.{rules, arith}
use Rattle.listing.proofs.Lines.{next_fits, next_put, all_put}
use Rattle.listing.proofs.put_listing.Goals as goal

pub put_line-at-requires : goal.put_line-at-requires
put_line-at-requires c = search next_fits

pub loop-row-preserved : goal.loop-row-preserved
loop-row-preserved c =
    let inv = c.loop-row.invariant in
    let left = next_put c.rows-row-items.result.now c.loop-row.row-index _ _ _ inv.2 inv.1 (omega arith) c.meaning_of-meaning.ensures c.put_line-at.ensures in
    (search rules, left.0, left.1)

pub returns : goal.returns
returns c = search all_put
