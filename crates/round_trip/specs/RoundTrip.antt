-- Compiling a listing gives the words that were listed: by edition 2, with the set of their table, in any slice that is
-- long enough.
use Rattle.std.specs.Prelude.{ℕ, ◌*◌, ◌≤◌, ◌≡◌, List, ◌++◌, length, take, drop}
use Rattle.basics.specs.Refusals.{answered}
use Rattle.definitions.specs.declared.Definition.{Definition}
use Rattle.pairs.specs.Words.{table_words, charset_of}
use Rattle.listing.specs.Listing.{listing}
use Rattle.editions.specs.Editions.{edition_reply, edition_words}

-- ws are lent words whose definitions are ds; no line of their listing has more than 28 bytes
pub record ListsBack (ws slice : List ℕ) (ds : List Definition) : Type 0 where
  pub short : length (listing ds) ≤ 28 * length ds
  pub count : edition_reply 2 (charset_of ws) (listing ds) (length slice) ≡ answered (length ds)
  pub words : edition_words 2 (charset_of ws) (listing ds) slice ≡ take table_words ws ++ drop table_words slice
