use Rattle.std.proofs.Common.{ℕ, List, rules, tests, refl, sym, eqb}
use Rattle.std.proofs.lemmas.Iterator.{YieldsList-from_slice}
use Rattle.std.proofs.lemmas.Iterator.Search.{find_from_yields_List}
use Rattle.scalars.specs.Characters.{character_by}
use Rattle.scalars.proofs.Rows.{read_first}
use Rattle.scalars.proofs.character_by.Goals as goal

pub returns : goal.returns
unfolding character_by
returns c =
    let found = find_from_yields_List (λ row. eqb row.0 c.args.byte) _ _ c.find.result c.find.ensures.ran (YieldsList-from_slice c.args.rows.now cc)
    (λ x b q k. search (rules, tests)) in
    read_first (λ (l : List (ℕ × ℕ)). character_by l c.args.byte) (λ row. eqb row.0 c.args.byte) (λ row. row.1) c.from.result (sym c.from.ensures)
    (λ x l. refl) (λ y. y.now) _ c.args.rows.now c.find.result c.map_or.result found c.map_or.ensures (λ x h. search rules)
