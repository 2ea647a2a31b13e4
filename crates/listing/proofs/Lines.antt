-- How long a line is, and the lines of the rows from i on, as loops come to them.
use Prim.Native.Nat.{ℕ, ◌+◌, ◌≤◌, ◌<◌}
use mathlib.Core.Path.{◌≡◌, sym, ◌∙◌}
use mathlib.Core.List.{List, [], ◌∷◌, ◌++◌, map}
use native.Mathlib.Omega.{arith}
use lib.ListN.{length, get_or, drop, length-append}
use lib.Seq.{append_snoc, sets}
use Rattle.basics.specs.Buffers.{over}
use Rattle.definitions.specs.declared.Meaning.{Meaning}
use Rattle.definitions.specs.declared.Meaning.TheVariants.{Typed, Shown, Alias}
use Rattle.definitions.specs.declared.Definition.{Definition}
use Rattle.pairs.specs.Words.{meaning_of, definition_row}
use Rattle.pairs.proofs.Scan.{row_next, row_none}
use Rattle.writing.specs.Writing.{dots_text, Put}
use Rattle.writing.proofs.Puts.{put_on, fits_first, fits_then, put_front}
use Rattle.writing.proofs.Numerals.{digits_length}
use Rattle.listing.specs.Listing.{escaped, directive_word, line_of, listing}
use Rattle.listing.specs.Internal.{whole_line, line_length}

-- behind its word a line has a blank and the ten bytes of the character, a blank and the operand
pub front_length : (word : List ℕ) (c : ℕ) → length (word ++ (32 ∷ escaped c)) ≡ length word + 11
front_length word c = omega (arith, length-append word (32 ∷ escaped c), digits_length 8 c)

pub line_length_lem : (word o : List ℕ) (c : ℕ) → length ((word ++ (32 ∷ escaped c)) ++ (32 ∷ o)) ≡ length word + 12 + length o
line_length_lem word o c = omega (arith, length-append (word ++ (32 ∷ escaped c)) (32 ∷ o), front_length word c)

-- and its LF
whole_length : (d : Definition) → length (whole_line d) ≡ line_length d.meaning
whole_length d = length-append (line_of d) (10 ∷ []) ∙ go d.meaning
  where
    go : (m : Meaning) → length (line_of (record { character = d.character; meaning = m })) + 1 ≡ line_length m
    go (Typed n) = omega (arith, line_length_lem (directive_word (Typed n)) (dots_text n) d.character)
    go (Shown n) = omega (arith, line_length_lem (directive_word (Shown n)) (dots_text n) d.character)
    go (Alias t) = omega (arith, line_length_lem (directive_word (Alias t)) (escaped t) d.character, digits_length 8 t)

-- ---- loops over rows: the first line of those that are left, and the others

listing_cons : (d : Definition) (ds : List Definition) → listing (d ∷ ds) ≡ (line_of d ++ (10 ∷ [])) ++ listing ds
unfolding listing
listing_cons d ds = sym (append_snoc (line_of d) 10 (listing ds))

module _ (rows : List (List ℕ)) (i : ℕ) where
  abbrev left : List ℕ
  left = listing (map definition_row (drop i rows))

  -- behind row i
  abbrev others : List ℕ
  others = listing (map definition_row (drop (i + 1) rows))

  -- m is what row i says
  abbrev first : Meaning → Definition
  first m = record { character = get_or (get_or rows i []) 0 0; meaning = m }

  next_line : {m : Meaning} → i < length rows → m ≡ meaning_of (get_or (get_or rows i []) 1 0) → left ≡ whole_line (first m) ++ others
  next_line h e = rw (row_next rows i h, e) (listing_cons _ (map definition_row (drop (i + 1) rows)))

  no_line : length rows ≤ i → left ≡ []
  unfolding listing
  no_line h = rw (row_none rows i h)

  -- x is the length of all lines
  module _ (x sum : ℕ) (inv : x ≡ sum + length left) where
    pub sum_more : {m : Meaning} {k : ℕ} → i < length rows → m ≡ meaning_of (get_or (get_or rows i []) 1 0) → k ≡ line_length m
        → x ≡ sum + k + length others
    sum_more {m} h p q =
        let all = rw (next_line h p) at inv in
        omega (arith, all, length-append (whole_line (first m)) others, whole_length (first m))

    pub sum_all : length rows ≤ i → sum ≡ x
    sum_all h = let all = rw (no_line h) at inv in omega arith

  -- x is the buffer once all lines are put; those that are left have room
  module _ (x buffer : List ℕ) (at : ℕ) (inv : sets buffer at left ≡ x) (room : at + length left ≤ length buffer) {m : Meaning} (h : i < length rows)
      (e : m ≡ meaning_of (get_or (get_or rows i []) 1 0)) where
    pub next_fits : at + length (whole_line (first m)) ≤ length buffer
    next_fits = fits_first (whole_line (first m)) others at (length buffer) (rw (next_line h e) at room)

    pub next_put : {r : ℕ} {new : List ℕ} → Put buffer at (whole_line (first m)) r new
        → (r + length others ≤ length new) × (sets new r others ≡ x)
    next_put p =
        let line = whole_line (first m) in
        (fits_then line others p (rw (next_line h e) at room), put_on line others p ∙ rw (next_line h e) at inv)

-- behind the last line
pub all_put : (rows : List (List ℕ)) (all old : List ℕ) (i : ℕ) (buffer : List ℕ) (at : ℕ)
    → sets buffer at (left rows i) ≡ sets old 0 all → length all ≤ length old → length rows ≤ i → buffer ≡ over all old
all_put rows all old i buffer at inv room h = rw (no_line rows i h) at inv ∙ put_front all old room
