-- What the scan of the words fills.
use Rattle.std.specs.Prelude.{ℕ, ◌+◌, ◌≤◌, ◌<◌, ◌≡◌, true, false, List, [], Option, None, Some, is_some, length, get_or, set, map, drop}
use Rattle.std.proofs.Common.{refl}
use lib.Seq.{set-get_or}
use Rattle.definitions.specs.declared.Meaning.{Meaning}
use Rattle.definitions.specs.declared.Meaning.TheVariants.{Typed, Shown, Alias}
use Rattle.pairs.specs.Words.{meaning_of, definition_row}
use Rattle.pairs.proofs.Scan.{row_next, row_none}
use Rattle.typing.specs.Typing.{nothing, kept_in, with_meaning, filled_from}

-- a cell that nothing types yet
cell_free : (typed : Option ℕ) (c : ℕ) → is_some typed ≡ false → kept_in typed c ≡ Some c
cell_free None c h = refl
cell_free (Some earlier) c h = cc

-- a cell that has its character
cell_kept : (typed : Option ℕ) (c : ℕ) → is_some typed ≡ true → kept_in typed c ≡ typed
cell_kept None c h = cc
cell_kept (Some earlier) c h = refl

-- the entries es stand before row i; x is what all rows fill
module _ (rows : List (List ℕ)) (i : ℕ) (es x : List (Option ℕ)) (inv : filled_from (map definition_row (drop i rows)) es ≡ x) where
  pub scan_over : length rows ≤ i → es ≡ x
  unfolding filled_from
  scan_over h = rw (row_none rows i h) at inv

  module _ (h : i < length rows) (m : Meaning) (p : m ≡ meaning_of (get_or (get_or rows i []) 1 0)) where
    -- what row i makes of the entries
    row_on : filled_from (map definition_row (drop (i + 1) rows)) (with_meaning es (get_or (get_or rows i []) 0 0) m) ≡ x
    unfolding filled_from
    row_on = rw p (rw (row_next rows i h) at inv)

    pub scan_shown : (dots : ℕ) → m ≡ Shown dots → filled_from (map definition_row (drop (i + 1) rows)) es ≡ x
    scan_shown dots q = rw q at row_on

    pub scan_alias : (target : ℕ) → m ≡ Alias target → filled_from (map definition_row (drop (i + 1) rows)) es ≡ x
    scan_alias target q = rw q at row_on

    pub scan_typed : (dots : ℕ) → m ≡ Typed dots → is_some (get_or es dots nothing) ≡ false
        → filled_from (map definition_row (drop (i + 1) rows)) (set es dots (Some (get_or (get_or rows i []) 0 0))) ≡ x
    scan_typed dots q free = rw (q, cell_free (get_or es dots nothing) _ free) at row_on

    pub scan_again : (dots : ℕ) → m ≡ Typed dots → is_some (get_or es dots nothing) ≡ true
        → filled_from (map definition_row (drop (i + 1) rows)) es ≡ x
    scan_again dots q kept = rw (q, cell_kept (get_or es dots nothing) _ kept, set-get_or es dots nothing) at row_on

pub ruleset scanned = (scan_over, scan_shown, scan_alias, scan_typed, scan_again)
