use Rattle.std.proofs.lemmas.Result.{err_from_is_err_and}
use Rattle.windows.proofs.Shows.{shows_no_table, shows_beyond, shows_short, shows_no_scalar, shows_filled}
use Rattle.windows.proofs.show_listed.Goals as goal

pub returns-in_err-pairs : goal.returns-in_err-pairs
returns-in_err-pairs g c =
    let p = err_from_is_err_and c.from_residual.result c.from_residual.ensures.1 in
    rw (p.1, p.2) (shows_no_table _ _ _ _ _ c.in_err-pairs.ensures.definitions)

pub returns-in-Some : goal.returns-in-Some
returns-in-Some g c = shows_beyond _ _ _ _ _ _ c.in_ok-pairs.ensures.definitions c.in-Some.ensures

pub returns-then-not-fit : goal.returns-then-not-fit
returns-then-not-fit g c =
    rw c.into.ensures (shows_short _ _ _ _ _ _ c.in_ok-pairs.ensures.definitions c.in_default.ensures (rw c.min.ensures at c.if-not-fit.ensures))

pub returns-in-Some-first_no_scalar : goal.returns-in-Some-first_no_scalar
returns-in-Some-first_no_scalar g c =
    shows_no_scalar _ _ _ _ _ _ c.in_ok-pairs.ensures.definitions c.in_default.ensures
    (rw c.min.ensures at c.if-not-fit.ensures) c.first_no_scalar.ensures c.in-Some-first_no_scalar.is

pub returns : goal.returns
returns g c =
    shows_filled _ _ _ _ _ _ c.in_ok-pairs.ensures.definitions c.in_default.ensures
    (rw c.min.ensures at c.if-not-fit.ensures) c.first_no_scalar.ensures c.in_default-first_no_scalar.is
    c.charset_of.ensures
    (rw c.new-by.ensures at c.fill.ensures.cells)
    (rw c.new-by.ensures at c.fill.ensures.rules)
