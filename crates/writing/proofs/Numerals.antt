-- The digits of a number and the dots of a cell, as loops come to them.
use Prim.Native.Nat.{ℕ, zero, suc, ◌+◌, ◌-◌, ◌*◌, ◌/◌, ◌%◌, ◌^◌, ◌≤◌, ◌<◌}
use mathlib.Core.Path.{◌≡◌, refl, sym, ◌∙◌}
use mathlib.Core.Bool.{Bool, true, ◌&&◌}
use mathlib.Core.List.{List, [], ◌∷◌, ◌++◌, append-nil, map}
use native.Mathlib.Nat.{add-zero, div-one}
use native.Mathlib.Numerals.{add-one}
use native.Mathlib.Omega.{arith}
use lib.Count.{ones_in, ones}
use lib.Dec.{eqb, leb}
use lib.ListN.{length, take, get_or, set, length-append}
use Rattle.std.specs.List.{range_with_len}
use Rattle.std.proofs.lemmas.Nat.{shr-shr}
use Rattle.std.proofs.lemmas.List.FromFn.{fill_by_all}
use lib.Seq.{append_snoc, take-set-le, take-suc-set}
use borrow.Author.Tests.{eqb-true, eqb-false, eq-eqb, ne_eqb, leb-true}
use Rattle.basics.specs.Choice.{pick}
use Rattle.basics.proofs.Tests.{by_cases, both, all_below, below}
use Rattle.writing.specs.Writing.{hex_digit, hex_digits, raised_from, dots_text}

pub digits_length : (k n : ℕ) → length (hex_digits k n) ≡ k
unfolding hex_digits
digits_length zero n = refl
digits_length (suc k) n = omega (arith, length-append (hex_digits k (n / 16)) (hex_digit (n % 16) ∷ []), digits_length k (n / 16))

-- the eight hex digits of n, each by its place
abbrev pub nth_digit : ℕ → ℕ → ℕ
nth_digit n k = hex_digit (n / 2 ^ (28 - 4 * k) % 16)

digits_written : (n : ℕ) → map (nth_digit n) (range_with_len 0 8) ≡ hex_digits 8 n
unfolding hex_digits
digits_written n = simp (shr-shr n 4 4, shr-shr n 8 4, shr-shr n 12 4, shr-shr n 16 4, shr-shr n 20 4, shr-shr n 24 4, div-one n)

pub digits_all : (ds : List ℕ) (n : ℕ) → length ds ≡ 8 → ((k : ℕ) → k < 8 → get_or ds k 0 ≡ nth_digit n k) → ds ≡ hex_digits 8 n
digits_all ds n size each = fill_by_all (nth_digit n) ds 8 0 size each ∙ digits_written n

-- dots from the first on: x is the digits of all that are raised, those before a digit found and counted
module _ (x ds : List ℕ) (count digit cell : ℕ) (inv : take count ds ++ raised_from (57 - digit) digit cell ≡ x) where
  pub raised_more : digit < 57 → count + 49 ≤ digit → length ds ≡ 8
      → take (count + cell % 2) (set ds count digit) ++ raised_from (57 - (digit + 1)) (digit + 1) (cell / 2) ≡ x
  unfolding raised_from
  raised_more h l size =
      let left : 57 - digit ≡ suc (57 - (digit + 1)) = omega arith in
      let all = rw left at inv in
      by_cases (eqb (cell % 2) 1)
      (λ e. rw (eqb-true (cell % 2) 1 e, add-one count, take-suc-set ds count digit (omega arith)) (append_snoc (take count ds) digit _ ∙ rw e at all))
      (λ e. let none : cell % 2 ≡ 0 = omega (arith, eqb-false (cell % 2) 1 e) in
      rw (none, add-zero count, take-set-le count ds count digit (omega arith)) (rw e at all))

  pub raised_all : 57 ≤ digit → take count ds ≡ x
  unfolding raised_from
  raised_all l =
      let none : 57 - digit ≡ 0 = omega arith in
      sym (append-nil (take count ds)) ∙ rw none at inv

-- how many digits dots take: one test, computed for all cells
abbrev is_counted : ℕ → Bool
is_counted n = eqb (pick (eqb n 0) 1 (ones n)) (length (dots_text n)) && leb (length (dots_text n)) 8

all_counted : all_below 256 is_counted ≡ true
unfolding dots_text raised_from ones ones_in
all_counted = refl

module _ (n : ℕ) (h : n < 256) where
  counted : (pick (eqb n 0) 1 (ones n) ≡ length (dots_text n)) × (length (dots_text n) ≤ 8)
  counted =
      let e = both (eqb (pick (eqb n 0) 1 (ones n)) (length (dots_text n))) _ (below 256 is_counted all_counted n h) in
      (eqb-true (pick (eqb n 0) 1 (ones n)) (length (dots_text n)) e.0, leb-true (length (dots_text n)) 8 e.1)

  pub dots_few : length (dots_text n) ≤ 8
  dots_few = counted.1

  pub no_dots_counted : n ≡ 0 → 1 ≡ length (dots_text n)
  no_dots_counted e = rw (eq-eqb n 0 e) at counted.0

  pub dots_counted : (n ≡ 0 → ⊥) → ones n ≡ length (dots_text n)
  dots_counted e = rw (ne_eqb n 0 e) at counted.0

  pub ones_few : (n ≡ 0 → ⊥) → ones n ≤ 8
  ones_few e = omega (arith, dots_counted e, dots_few)

pub ruleset counted_dots = (no_dots_counted, dots_counted, ones_few)
