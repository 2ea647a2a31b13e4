-- Digits as the library reads them, and the number that they are once there is none.
use Rattle.std.proofs.Common.{◌≡◌, ℕ, ◌+◌, ◌*◌, ◌<◌, ◌≤◌, List, [], ◌∷◌, length, get_or, drop, eqb, ltb, arith, add-one, drop-cons}
use Rattle.std.proofs.Common.{drop_of_length-le, refl, sym, ap, lt_of_lt_of_le, ◌∙◌, lt-ltb, le-ltb, eqb-true, leb-true, leb-false, ltb-true, leb}
use Rattle.std.proofs.Common.{Option, unwrap_or}
use Rattle.std.specs.Bool.{then_some}
use Rattle.std.specs.Char.{digit_value}
use mathlib.Core.Bool.{and-false}
use Rattle.basics.specs.Choice.{pick}
use Rattle.basics.proofs.Tests.{below, by_cases, either}
use Rattle.characters.specs.declared.Base.{Base}
use Rattle.characters.specs.declared.Base.TheVariants.{Octal, Hexadecimal}
use Rattle.characters.specs.Internal.{radix}
use Rattle.characters.specs.Characters.{no_number, digit_of, with_digit, digits_from}

lt_of_not : {a b : ℕ} → (a < b → ⊥) → b ≤ a
lt_of_not h = omega arith

hex_digit : (b : ℕ) → b < 256 → digit_of b ≡ pick (ltb (digit_value b) 16) (digit_value b) 16
unfolding digit_of
hex_digit b small = eqb-true (digit_of b) _ (below 256 (λ b. eqb (digit_of b) (pick (ltb (digit_value b) 16) (digit_value b) 16)) refl b small)

within : (m : ℕ) → unwrap_or (then_some (leb m 0x10FFFF) m) no_number ≡ pick (ltb m no_number) m no_number
within m =
    by_cases (leb m 0x10FFFF)
    (λ e. let h = leb-true m 0x10FFFF e in rw (e, lt-ltb m no_number (omega arith)))
    (λ e. let h = leb-false m 0x10FFFF e in rw (e, le-ltb m no_number (omega arith)))

most : (base : Base) → radix base ≤ 16
most Octal = omega arith
most Hexadecimal = omega arith

module _ (base : Base) (n b : ℕ) (small : b < 256) where
  digit_here : digit_value b < radix base → digit_of b ≡ digit_value b
  digit_here low = hex_digit b small ∙ rw (lt-ltb (digit_value b) 16 (lt_of_lt_of_le low (most base)))

  too_high : (digit_value b < radix base → ⊥) → radix base ≤ digit_of b
  too_high high = rw (hex_digit b small) (either (λ x. radix base ≤ x) (ltb (digit_value b) 16) (lt_of_not high) (most base))

  pub no_digit : (digit_value b < radix base → ⊥) → with_digit (radix base) n (digit_of b) ≡ no_number
  unfolding with_digit
  no_digit high = rw (le-ltb (digit_of b) (radix base) (too_high high))

  pub digit_next : (d : ℕ) (r : Option ℕ) → digit_value b < radix base → d ≡ digit_value b
      → r ≡ then_some (leb (n * radix base + d) 0x10FFFF) (n * radix base + d)
      → unwrap_or r no_number ≡ with_digit (radix base) n (digit_of b)
  unfolding with_digit
  digit_next d r low e q =
      let digit : digit_of b ≡ d = digit_here low ∙ sym e in
      let less : d < radix base = rw (← e) at low in
      rw (q, digit, lt-ltb d (radix base) less) (within (n * radix base + d))

-- once there is no number, there is none from there on
stays_none : (radix d : ℕ) → with_digit radix no_number d ≡ no_number
unfolding with_digit
stays_none radix d =
    by_cases (ltb d radix)
    (λ e. let h = ltb-true d radix e in rw (le-ltb (no_number * radix + d) no_number (omega arith), and-false))
    (λ e. rw e)

none_on : (radix : ℕ) (l : List ℕ) → digits_from radix l no_number ≡ no_number
unfolding digits_from
none_on radix [] = refl
none_on radix (b ∷ l) = rw (stays_none radix (digit_of b)) (none_on radix l)

-- and nothing is a digit to the base 0
no_base : (n d : ℕ) → with_digit 0 n d ≡ no_number
unfolding with_digit
no_base n d = rw (le-ltb d 0 (omega arith))

pub no_radix : (b : ℕ) (l : List ℕ) (n : ℕ) → digits_from 0 (b ∷ l) n ≡ no_number
unfolding digits_from
no_radix b l n = ap (digits_from 0 l) (no_base n (digit_of b)) ∙ none_on 0 l

-- the digits from i on, behind the number n before them; x is what they are with it
module _ (radix : ℕ) (l : List ℕ) (i n : ℕ) {x : ℕ} (inv : digits_from radix (drop i l) n ≡ x) where
  pub digits_on : (m : ℕ) → i < length l → m ≡ with_digit radix n (digit_of (get_or l i 0)) → digits_from radix (drop (i + 1) l) m ≡ x
  unfolding digits_from
  digits_on m h e = rw (e, add-one i) (rw (drop-cons l i 0) at inv)

  pub digits_over : i < length l → no_number ≡ with_digit radix n (digit_of (get_or l i 0)) → no_number ≡ x
  digits_over h e = sym (none_on radix (drop (i + 1) l)) ∙ digits_on no_number h e

  pub digits_end : length l ≤ i → n ≡ x
  unfolding digits_from
  digits_end h = rw (drop_of_length-le l h) at inv
