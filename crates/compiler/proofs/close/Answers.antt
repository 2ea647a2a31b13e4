use Rattle.compiler.proofs.Call.{end_closed, end_open}
use Rattle.compiler.proofs.close.Goals as goal

pub returns-in-None : goal.returns-in-None
returns-in-None c = end_closed _ c.args.state.now _ c.innermost.ensures c.requires c.in-None.is

pub returns-in-Some : goal.returns-in-Some
returns-in-Some c = end_open _ c.args.state.now _ c.innermost.ensures _ c.in-Some.is c.clear.ensures
