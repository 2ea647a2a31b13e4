use Rattle.std.proofs.Common.{rules, not, ◌∙◌}
use Rattle.std.proofs.lemmas.Iterator.{YieldsList-from_slice}
use Rattle.std.proofs.lemmas.Iterator.Search.{position_from_yields_List}
use Rattle.std.proofs.lemmas.Iterator.Adapters.{position_from-zero}
use Rattle.scalars.specs.Characters.{is_scalar}
use Rattle.lookup.proofs.Replies.{first_place}
use Rattle.lookup.proofs.first_no_scalar.Goals as goal

pub returns : goal.returns
returns c =
    position_from_yields_List (λ x. not (is_scalar x)) _ _ c.position.result c.position.ensures.ran (YieldsList-from_slice _ c.iter.ensures.rest)
    (λ x b q k. search rules)
    ∙ (position_from-zero (λ x. not (is_scalar x)) c.args.characters.now ∙ first_place c.args.characters.now 0)
