use Rattle.std.proofs.Common.{rules}
use Rattle.codes.proofs.WholeTables.{all_more}
use Rattle.codes.proofs.put_entries.Goals as goal

pub loop-i-preserved : goal.loop-i-preserved
loop-i-preserved c = (search rules, search rules, search all_more)
