use Rattle.std.proofs.Common.{rules}
use Rattle.listing.proofs.Lines.{sum_more, sum_all}
use Rattle.listing.proofs.listing_length.Goals as goal

pub loop-row-preserved : goal.loop-row-preserved
loop-row-preserved c = (search rules, search sum_more)

pub returns : goal.returns
returns c = search sum_all
