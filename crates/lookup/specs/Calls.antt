-- What the lookup call and the page call answer and write. Order of refusals: 2, 15, 14.
use Rattle.std.specs.Prelude.{ℕ, ◌+◌, ◌≤◌, ◌≡◌, ◌||◌, List, [], ◌∷◌, map, length, ltb, Option, None, Some}
use Rattle.basics.specs.Choice.{pick}
use Rattle.basics.specs.Refusals.{Reply, answered, refused, and_then}
use Rattle.basics.specs.Buffers.{over}
use Rattle.scalars.specs.Characters.{is_scalar, is_braille, local_of}
use Rattle.definitions.specs.declared.Definition.{Definition}
use Rattle.definitions.specs.Definitions.{table, walk, aliases, WholeWalk}
use Rattle.pairs.specs.Words.{charset_of}
use Rattle.table.specs.Check.{lent_table}
use Rattle.rules.specs.Rules.{lookup}
use Rattle.rules.specs.declared.Answer.{Answer}

-- the lookup call
unfoldable pub lookup_reply : List ℕ → ℕ → Reply Answer
lookup_reply ws c =
    and_then (lent_table ws) (λ ds.
    pick (is_scalar c) (answered (lookup (charset_of ws) (table ds) c)) (refused 14 0))

-- "the links followed", as a lookup answers them: rule 1 follows none; else they are the whole walk of the character as
-- it stands after rule 2
pub record Followed (charset : ℕ) (ds : List Definition) (c links : ℕ) : Type 0 where
  pub walked : links ≡ pick (is_braille c) 0 (walk (table ds) (local_of charset c)).links
  pub whole : WholeWalk ds (local_of charset c)
  pub within : links ≤ aliases ds

-- what is promised of the links of an answer on the table that was lent
abbrev pub LentLinks : ℕ → Reply (List Definition) → ℕ → Reply Answer → Type 0
LentLinks charset (answered ds) c (answered a) = Followed charset ds c a.links
LentLinks charset (answered ds) c (refused number place) = Unit {0}
LentLinks charset (refused number place) c reply = Unit {0}

-- the first character that is no scalar value, the first of the list at i
unfoldable pub first_no_scalar : List ℕ → ℕ → Option ℕ
first_no_scalar [] i = None
first_no_scalar (c ∷ cs) i =
    let rest : Option ℕ = first_no_scalar cs (i + 1) in
    pick (is_scalar c) rest (Some i)

abbrev pub unless_at : {A : Type 0} → Option ℕ → A → Reply A
unless_at None a = answered a
unless_at (Some i) a = refused 14 i

-- the page call, for buffers of so many bytes: the lookup that fills them, or a refusal
unfoldable pub page_plan : List ℕ → List ℕ → ℕ → ℕ → Reply (ℕ → Answer)
page_plan ws cs cells rules =
    pick (ltb cells (length cs) || ltb rules (length cs)) (refused 2 0)
    (and_then (lent_table ws) (λ ds. unless_at (first_no_scalar cs 0) (lookup (charset_of ws) (table ds))))

-- its answer has no value
abbrev pub page_reply : Reply (ℕ → Answer) → Reply (Unit {0})
page_reply plan = and_then plan (λ look. answered tt)

-- the cell buffer and the rule buffer after the call, from what they held: a refusal writes nothing
abbrev pub page_cells : Reply (ℕ → Answer) → List ℕ → List ℕ → List ℕ
page_cells (answered look) cs old = over (map (λ (c : ℕ). (look c).cell) cs) old
page_cells (refused number place) cs old = old

abbrev pub page_rules : Reply (ℕ → Answer) → List ℕ → List ℕ → List ℕ
page_rules (answered look) cs old = over (map (λ (c : ℕ). (look c).rule) cs) old
page_rules (refused number place) cs old = old

-- what the call is to do by its plan: its answer, given as `given` says, and both buffers
pub record Pages {A : Type 0} (given : Reply (Unit {0}) → A) (plan : Reply (ℕ → Answer))
    (cs old-cells old-rules : List ℕ) (told : A) (new-cells new-rules : List ℕ)
    : Type 0 where
  pub answer : told ≡ given (page_reply plan)
  pub cells : new-cells ≡ page_cells plan cs old-cells
  pub rules : new-rules ≡ page_rules plan cs old-rules
