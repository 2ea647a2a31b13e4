use Rattle.std.proofs.Common.{length, rules, arith, ap}
use Rattle.lines.proofs.Texts.{first_line, no_line}
use Rattle.lines.proofs.TextLinesIterator.next.Goals as goal

pub returns-then-is_empty-clause-steps : goal.returns-then-is_empty-clause-steps
returns-then-is_empty-clause-steps c = let none = no_line _ (search rules) in (none, none)

pub returns-clause-steps : goal.returns-clause-steps
returns-clause-steps c = first_line _ _ _ (search rules) c.line_end-end.ensures c.min.ensures

pub returns-clause-goes : goal.returns-clause-goes
returns-clause-goes c =
    let steps = first_line _ _ _ (search rules) c.line_end-end.ensures c.min.ensures in
    record { on = λ _. (tt, tt, omega (arith, ap length steps)); keeps = tt; rests = λ _. tt }
