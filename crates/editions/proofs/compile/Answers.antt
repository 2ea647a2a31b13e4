use Rattle.std.proofs.Common.{rules, ap, ◌∙◌, Err}
use Rattle.editions.proofs.Editions.{Ensured, in_present, in_first, in_no_other}
use Rattle.editions.proofs.compile.Goals as goal

pub returns-in-2 : goal.returns-in-2
returns-in-2 c =
    let e : Ensured c.args.edition c.args.charset c.args.text.now c.args.words.now c.without_cells.result.answer c.compile.new.words
    c.without_cells.result.cells =
    in_present _ _ _ _ _ _
    (search rules) c.compile.ensures.answer c.compile.ensures.column c.compile.ensures.words c.without_cells.ensures.0 c.without_cells.ensures.1 in
    record { answer = e.answer_is; column = e.column; words = e.words; cells = e.cells_are }

pub returns-in-1 : goal.returns-in-1
returns-in-1 c =
    let e : Ensured c.args.edition c.args.charset c.args.text.now c.args.words.now c.compile_bytes.result.answer c.args.words.now c.compile_bytes.result.cells =
    in_first _ _ _ _ _ (search rules) (search rules) c.compile_bytes.ensures.answer c.compile_bytes.ensures.column c.compile_bytes.ensures.cells in
    record { answer = e.answer_is; column = e.column; words = e.words; cells = e.cells_are }

pub returns-in_default : goal.returns-in_default
returns-in_default c =
    let e : Ensured c.args.edition c.args.charset c.args.text.now c.args.words.now c.without_cells-in_default.result.answer c.args.words.now
    c.without_cells-in_default.result.cells =
    in_no_other _ _ _ _ _ (search rules) (search rules) (c.without_cells-in_default.ensures.0 ∙ ap Err c.into.ensures) c.without_cells-in_default.ensures.1 in
    record { answer = e.answer_is; column = e.column; words = e.words; cells = e.cells_are }
