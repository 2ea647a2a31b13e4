use Rattle.std.proofs.Common.{◌∙◌, rules}
use Rattle.blocks.specs.Internal.{unused}
use Rattle.blocks.proofs.Stacks.{last_on_top}
use Rattle.blocks.proofs.Blocks.top.Goals as goal

pub returns : goal.returns
returns c = c.copied.ensures ∙ c.last.ensures.value ∙ last_on_top unused c.args.self.now.levels c.args.self.now.depth (search rules)
