use Rattle.std.proofs.Common.{ℕ, List, Some, rules, tests, refl}
use Rattle.std.proofs.lemmas.Iterator.{YieldsList-from_slice}
use Rattle.std.proofs.lemmas.Iterator.Search.{find_from_yields_List}
use Rattle.scalars.specs.Characters.{between, stands_for}
use Rattle.scalars.proofs.Rows.{read_first, some_of}
use Rattle.scalars.proofs.stands_for.Goals as goal

pub returns : goal.returns
unfolding stands_for
returns c =
    let found = find_from_yields_List (λ row. between row.0 row.1 c.args.c) _ _ c.find.result c.find.ensures.ran
    (YieldsList-from_slice c.args.rows.now cc) (λ x b q k. search (rules, tests)) in
    read_first (λ (l : List (ℕ × ℕ × ℕ)). stands_for l c.args.c) (λ row. between row.0 row.1 c.args.c) (λ row. Some row.2) _ refl (λ x l. refl)
    (λ y. y.now) _ c.args.rows.now c.find.result c.map.result found c.map.ensures.cases (λ x h. some_of _ _ _ h (λ y q. search rules))
