use Rattle.listing.proofs.Parts.{line_put}
use Rattle.listing.proofs.put_line.Goals as goal

pub returns : goal.returns
returns c = search line_put
