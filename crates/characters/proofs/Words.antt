-- Words that have no number: a backslash alone, and an escape of digits with no radix.
use Rattle.std.proofs.Common.{◌≡◌, ℕ, ◌≤◌, ◌<◌, List, length, get_or, drop, arith, drop-cons, sym, eq-eqb, le-ltb}
use lib.ListN.{get_or-eq_default}
use Rattle.characters.specs.Characters.{no_number, backslash, short_of, radix_of, word_number}
use Rattle.characters.proofs.Digits.{no_radix}

module _ (w : List ℕ) (escape : get_or w 0 0 ≡ backslash) where
  pub number_cut : length w < 2 → 1 ≤ length w → no_number ≡ word_number w
  unfolding word_number short_of
  number_cut most least = let n : length w ≡ 1 = omega arith in rw (eq-eqb _ _ escape, n, get_or-eq_default w 0 {n = 1} (omega arith))

  pub number_none : 3 ≤ length w → 0 ≡ radix_of (get_or w 1 0) (length w) → no_number ≡ word_number w
  unfolding word_number
  number_none least e = rw (eq-eqb _ _ escape, le-ltb (length w) 3 least, ← e, drop-cons w 2 0) (sym (no_radix (get_or w 2 0) (drop 3 w) 0))
