use Rattle.std.proofs.Common.{◌+◌, ◌≤◌, length, sym, ◌∙◌, subst}
use Rattle.report.specs.Report.{Held}
use Rattle.report.proofs.Lines.{line_more}
use Rattle.report.proofs.Line.push_bytes.Goals as goal

pub returns-clause-grown : goal.returns-clause-grown
returns-clause-grown c text is =
    let line : Held = record { bytes = c.self.inside.bytes; length = c.self.inside.length } in
    let room : line.length + length c.args.more.now ≤ 64 =
    subst (λ (n : Held). n.length + length c.args.more.now ≤ 64) (sym c.self.view_is) c.requires
    in
    rw c.copy_from_slice.ensures.after (line_more line text c.args.more.now (c.self.view_is ∙ is) room)
