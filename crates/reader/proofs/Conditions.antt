-- When a condition holds: `ifGlyph` by the end of the alias walk, `ifCell` by a scan of the definitions.
use Prim.Native.Nat.{ℕ, ◌+◌, ◌%◌, ◌≤◌, ◌<◌}
use mathlib.Core.Path.{◌≡◌, refl, sym, ◌∙◌}
use mathlib.Core.Bool.{Bool, true, false, ◌||◌}
use mathlib.Core.List.{List, [], ◌∷◌, map}
use native.Mathlib.Omega.{arith}
use lib.ListN.{length, get_or, drop}
use lib.Dec.{eqb}
use borrow.Author.Tests.{ne_eqb}
use Rattle.basics.specs.Choice.{pick}
use Rattle.std.specs.Prelude.{Option, None, Some, is_some}
use Rattle.basics.proofs.Tests.{by_test}
use Rattle.scalars.specs.Characters.{is_braille, is_private, local_of}
use Rattle.definitions.specs.declared.Meaning.{Meaning}
use Rattle.definitions.specs.declared.Definition.{Definition}
use Rattle.definitions.specs.Definitions.{table, types, typed_in}
use Rattle.pairs.specs.declared.Walked.{Walked}
use Rattle.pairs.specs.Words.{meaning_of, definition_row}
use Rattle.pairs.specs.Internal.{walk_with_cell}
use Rattle.pairs.proofs.Scan.{row_next, row_none}
use Rattle.rules.specs.declared.Answer.{Answer}
use Rattle.rules.specs.Rules.{choose, lookup}
use Rattle.rules.proofs.Choices.{Chosen, choose_chosen, by_walk}
use Rattle.reader.specs.Conditions.{has_glyph}

-- a rule number of 3 or 4, rule 2 passed or not
abbrev is_glyph_rule : ℕ → Bool
is_glyph_rule rule = eqb (rule % 16) 3 || eqb (rule % 16) 4

later_rule : (two : Bool) (a : Answer) {links : ℕ} → Chosen 5 4 links a → is_glyph_rule (a.rule + pick two 16 0) ≡ false
later_rule two a h =
    let p : (a.rule + pick two 16 0) % 16 ≡ a.rule = by_test (λ k. (a.rule + k) % 16 ≡ a.rule) two (λ e. omega arith) (λ e. omega arith) in
    rw (p, ne_eqb a.rule 3 (λ q. omega arith), ne_eqb a.rule 4 (λ q. omega arith))

-- the cells of rules 3 and 4 are the one of the walk's end, under 3 if the walk has no link, and another that is absent
glyph_rule : (two none : Bool) (end : Option ℕ) (a b c d : Option ℕ) (links : ℕ)
    → is_glyph_rule ((choose 3 (pick none end None ∷ pick none None end ∷ a ∷ b ∷ c ∷ d ∷ []) links).rule + pick two 16 0) ≡ is_some end
unfolding choose
glyph_rule true true (Some dots) a b c d links = refl
glyph_rule true false (Some dots) a b c d links = refl
glyph_rule false true (Some dots) a b c d links = refl
glyph_rule false false (Some dots) a b c d links = refl
glyph_rule two true None a b c d links = later_rule two _ (choose_chosen 5 (a ∷ b ∷ c ∷ d ∷ []) links)
glyph_rule two false None a b c d links = later_rule two _ (choose_chosen 5 (a ∷ b ∷ c ∷ d ∷ []) links)

-- so `ifGlyph` holds exactly where the end of the alias walk has a cell; none of it is asked in the braille row
module _ (charset : ℕ) (ds : List Definition) (c : ℕ) (braille : Bool) (e : braille ≡ is_braille c) where
  pub glyph_never : braille ≡ true → false ≡ has_glyph charset ds c
  unfolding has_glyph lookup
  glyph_never q = rw (← e, q)

  module _ (q : braille ≡ false) (l : ℕ) (local : l ≡ local_of charset c) (w : Walked) (from : w ≡ walk_with_cell (table ds) l) where
    pub glyph_end : (v : Bool) → v ≡ is_some w.cell → v ≡ has_glyph charset ds c
    unfolding has_glyph lookup
    glyph_end v h =
        h ∙ sym (rw (← e, q, ← local, by_walk (table ds) l w from) (glyph_rule (is_private c) (eqb w.links 0) w.cell _ _ _ _ w.links))

-- a scan that has come to row i; x is what it is to answer
module _ (x : Bool) (rows : List (List ℕ)) (i cell : ℕ) (inv : x ≡ is_some (typed_in (map definition_row (drop i rows)) cell)) where
  module _ (h : i < length rows) (m : Meaning) (p : m ≡ meaning_of (get_or (get_or rows i []) 1 0)) (t : Bool) (q : t ≡ types m cell) where
    pub cell_here : t ≡ true → true ≡ x
    unfolding typed_in
    cell_here r = sym (inv ∙ rw (row_next rows i h, ← p, ← q, r))

    pub cell_later : t ≡ false → x ≡ is_some (typed_in (map definition_row (drop (i + 1) rows)) cell)
    unfolding typed_in
    cell_later r = inv ∙ rw (row_next rows i h, ← p, ← q, r)

  pub cell_none : length rows ≤ i → false ≡ x
  unfolding typed_in
  cell_none h = sym (inv ∙ rw (row_none rows i h))
