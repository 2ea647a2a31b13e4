use Rattle.std.proofs.Common.{sym}
use Rattle.std.proofs.lemmas.Result.{err_from_is_err_and}
use Rattle.lookup.proofs.WholeWalks.{lent_links}
use Rattle.lookup.proofs.Replies.{look_refused, look_no_scalar, look_answered}
use Rattle.lookup.proofs.look_up.Goals as goal

pub returns-in_err-pairs-clause-answer : goal.returns-in_err-pairs-clause-answer
returns-in_err-pairs-clause-answer c =
    let p = err_from_is_err_and c.from_residual.result c.from_residual.ensures.1 in
    rw (p.1, p.2) (look_refused _ _ (sym c.in_err-pairs.ensures.definitions))

pub returns-then-not-is_scalar-clause-answer : goal.returns-then-not-is_scalar-clause-answer
returns-then-not-is_scalar-clause-answer c = rw c.into.ensures (look_no_scalar _ _ _ c.in_ok-pairs.ensures.definitions c.if-not-is_scalar.ensures)

pub returns-clause-answer : goal.returns-clause-answer
returns-clause-answer c =
    look_answered _ _ _ c.in_ok-pairs.ensures.definitions c.if-not-is_scalar.ensures c.charset_of.ensures (rw c.new-rules.ensures at c.answer_of.ensures)

pub returns-clause-links : goal.returns-clause-links
returns-clause-links c = lent_links _ _ (returns-clause-answer c)
