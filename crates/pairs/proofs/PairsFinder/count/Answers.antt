use Rattle.std.proofs.Common.{sym}
use Rattle.pairs.proofs.Scan.{definitions_length}
use Rattle.pairs.proofs.PairsFinder.count.Goals as goal

pub returns : goal.returns
returns c = sym (definitions_length _ _ c.args.self.now.fits)
