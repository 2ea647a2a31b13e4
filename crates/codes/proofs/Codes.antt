-- The numbers of a search have room.
use Rattle.std.specs.Prelude.{ℕ, ◌≤◌, ◌≡◌, List, Option, None, Some, Result, Ok}
use Rattle.std.proofs.Common.{refl, arith}
use Rattle.basics.specs.declared.Refused.{Refused}
use Rattle.basics.specs.Refusals.{reply_of}
use Rattle.definitions.specs.Effects.{definition_limit}
use Rattle.by_order.specs.declared.Sought.{Sought}
use Rattle.by_order.specs.Calls.{search_reply}
use Rattle.by_order.proofs.Plain.{pair_small}
use Rattle.codes.specs.Codes.{pair_code}

-- r is what the call answered
module _ (ws os : List ℕ) (c : ℕ) {r : Result Sought Refused} {s : Sought} (p : reply_of r ≡ search_reply ws os c) (q : r ≡ Ok s) where
  pub pair_fits : pair_code s.pair ≤ definition_limit
  pair_fits = go s.pair refl
    where
      go : (pair : Option ℕ) → s.pair ≡ pair → pair_code pair ≤ definition_limit
      go (Some k) e = omega (arith, pair_small ws os c p q k e)
      go None e = omega arith
