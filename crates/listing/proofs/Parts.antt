-- A line is put part by part.
use Rattle.std.specs.Prelude.{ℕ, ◌≡◌, List, [], ◌∷◌, ◌++◌}
use Rattle.definitions.specs.declared.Definition.{Definition}
use Rattle.writing.specs.Writing.{Put}
use Rattle.writing.proofs.Puts.{put_put}
use Rattle.listing.specs.Listing.{escaped, directive_word, operand_text, line_of}
use Rattle.listing.specs.Internal.{whole_line}

pub line_put : (d : Definition) {old word first second third new : List ℕ} {at a b e r : ℕ} → word ≡ directive_word d.meaning
    → Put old at word a first → Put first a (32 ∷ escaped d.character) b second → Put second b (32 ∷ operand_text d.meaning) e third
    → Put third e (10 ∷ []) r new → Put old at (whole_line d) r new
line_put d w p q s t =
    let front = directive_word d.meaning ++ (32 ∷ escaped d.character) in
    put_put (line_of d) (10 ∷ [])
    (put_put front (32 ∷ operand_text d.meaning) (put_put (directive_word d.meaning) (32 ∷ escaped d.character) (rw w at p) q) s) t
