use Rattle.ordered.proofs.Finds.{found_pair, found_later, found_none}
use Rattle.ordered.proofs.MarkedFinder.find.Goals as goal

pub returns-in_default : goal.returns-in_default
returns-in_default c =
    let m = c.args.self.now in
    found_none _ _ _ m.in_order.ordered _ c.halve.result c.halve.ensures _ m.limit m.within c.in_default.is

pub returns-then-self-k : goal.returns-then-self-k
returns-then-self-k c =
    let m = c.args.self.now in
    found_later _ _ _ m.in_order.ordered _ c.halve.result c.halve.ensures _ c.in-Ok.is m.limit m.within c.if-self-k.true

pub returns : goal.returns
returns c =
    let m = c.args.self.now in
    found_pair _ _ _ m.in_order.ordered _ c.halve.result c.halve.ensures _ c.in-Ok.is m.limit m.within c.if-self-k.false c.meaning_of.ensures
