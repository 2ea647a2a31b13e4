use Rattle.std.proofs.Common.{rules}
use Rattle.byte_tables.proofs.Compile.{dot_fault, dot_taken}
use Rattle.byte_tables.proofs.SoFar.take.Goals as goal

pub returns-in_err-self-in-Dot-clause-does : goal.returns-in_err-self-in-Dot-clause-does
returns-in_err-self-in-Dot-clause-does c =
    dot_fault _ _ _ _ _ c.without_cr.ensures c.read_table_line.ensures.value _ _ _ c.in_ok-read_table_line.was c.in-Dot.is
    c.with_dot.ensures.states_value _ _ _ c.in_err-self-in-Dot.was
    (search rules)

pub returns-in_ok-self-in-Dot-clause-does : goal.returns-in_ok-self-in-Dot-clause-does
returns-in_ok-self-in-Dot-clause-does c = search (dot_taken, c.in_ok-self-in-Dot.was, c.in_ok-read_table_line.was)
