-- What the code knows beyond the rules: what a page keeps for a character is what it shows.
use Rattle.std.specs.Prelude.{ℕ, ◌≡◌, List, map}
use Rattle.pairs.specs.Words.{charset_of, table_of}
use Rattle.rules.specs.Rules.{lookup}
use Rattle.rules.specs.declared.Answer.{Answer}
use Rattle.by_order.specs.declared.Shown.{Shown}

-- the plain lookup by the first n pairs of some words
abbrev pub plain : List ℕ → ℕ → ℕ → Answer
plain ws n c = lookup (charset_of ws) (table_of n ws) c

-- what a page shows for some characters by a lookup
abbrev pub cells_of : (ℕ → Answer) → List ℕ → List ℕ
cells_of look cs = map (λ (c : ℕ). (look c).cell) cs

abbrev pub rules_of : (ℕ → Answer) → List ℕ → List ℕ
rules_of look cs = map (λ (c : ℕ). (look c).rule) cs

-- and for one
abbrev pub shown_of : (ℕ → Answer) → ℕ → Shown
shown_of look c = record { character = c; cell = (look c).cell; rule = (look c).rule }

-- what is kept for some characters is what is shown for them
pub record Kept (look : ℕ → Answer) (seen cells rules : List ℕ) : Type 0 where
  pub cells_right : cells ≡ cells_of look seen
  pub rules_right : rules ≡ rules_of look seen
