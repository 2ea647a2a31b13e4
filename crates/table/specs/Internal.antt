-- What the code knows beyond the rules: words that are a table so far, and what stands for a lent table.
use Rattle.std.specs.Prelude.{ℕ, ◌≤◌, ◌≡◌, List, ◌++◌, length, drop, Result, Ok, Err}
use Rattle.basics.specs.declared.Refused.{Refused}
use Rattle.basics.specs.Refusals.{Reply, answered, refused, number_of}
use Rattle.definitions.specs.declared.Definition.{Definition}
use Rattle.pairs.specs.declared.Pairs.{Pairs}
use Rattle.definitions.specs.Effects.{definition_limit}
use Rattle.pairs.specs.Words.{table_words, image_of, charset_of, definitions}

-- the words of a slice are the table of their first pairs, for the set that they hold
pub record Written (ws : List ℕ) (count : ℕ) : Type 0 where
  pub image : ws ≡ image_of (charset_of ws) (definitions count ws) ++ drop table_words ws
  pub room : count ≤ definition_limit
  pub long : table_words ≤ length ws

-- the definitions that pairs are
abbrev pub known : Pairs → List Definition
known p = definitions p.count p.words.now

-- the definitions of the table that a call answered, or the number and place of its refusal
abbrev pub lent_reply : Result Pairs Refused → Reply (List Definition)
lent_reply (Ok p) = answered (known p)
lent_reply (Err e) = refused (number_of e.refusal) e.place
