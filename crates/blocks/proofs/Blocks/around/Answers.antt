use Rattle.std.proofs.Common.{sym}
use Rattle.blocks.specs.Internal.{unused}
use Rattle.blocks.proofs.Stacks.{stack_length, around_none, around_some}
use Rattle.blocks.proofs.Blocks.around.Goals as goal

pub returns-in-None : goal.returns-in-None
returns-in-None c = around_none _ _ (stack_length unused c.args.self.now.levels c.args.self.now.depth) (sym c.in-None.ensures)

pub returns-in-Some : goal.returns-in-Some
returns-in-Some c = around_some _ _ _ _ (stack_length unused c.args.self.now.levels c.args.self.now.depth) (sym c.in-Some.ensures) c.is_taken.ensures
