-- Whether a dot is raised, and the sum of the weights, dot by dot.
use Rattle.std.proofs.Common.{◌≡◌, refl, sym, ◌∙◌, ℕ, ◌+◌, ◌*◌, ◌/◌, ◌%◌, ◌^◌, ◌≤◌, ◌<◌, Bool, true, false, not, List, length, drop, get_or, eqb}
use Rattle.std.proofs.Common.{arith, add-one}
use native.Mathlib.Nat.{add-zero, two-pow-succ, pow-le-pow_right, mod-eq_of_lt}
use lib.ListN.{drop_of_length-le}
use lib.Seq.{drop-cons}
use lib.Bits.{bit_and}
use Rattle.std.proofs.lemmas.Nat.Bits.{and_pow}
use Rattle.std.proofs.lemmas.Nat.{pow_pos}
use Rattle.basics.specs.Choice.{pick}
use Rattle.basics.proofs.Tests.{by_cases, by_test}
use borrow.Author.Tests.{eqb-true, eqb-false, eq-eqb, ne_eqb}
use Rattle.attributes.specs.Cells.{bit_of, is_on, is_raised, cell_from}
use Rattle.attributes.specs.Compile.{is_named}
use Rattle.attributes.specs.declared.Attribute.{Attribute}
use Rattle.attributes.specs.declared.Attribute.TheVariants as A
use Rattle.attributes.specs.declared.State.{State}
use Rattle.attributes.specs.declared.State.TheVariants.{Unnamed, On, Off, Always, Never}

-- one bit of a byte
bit_at_on : (byte k : ℕ) → not (eqb (bit_and byte (2 ^ k)) 0) ≡ eqb (byte / 2 ^ k % 2) 1
bit_at_on byte k = rw (and_pow byte k)
    (by_cases (eqb (byte / 2 ^ k % 2) 1)
    (λ e. let one = eqb-true (byte / 2 ^ k % 2) 1 e in rw (one, ne_eqb (1 * 2 ^ k) 0 (λ z. absurd (omega (arith, pow_pos k)))))
    (λ e. let none : byte / 2 ^ k % 2 ≡ 0 = omega (arith, eqb-false (byte / 2 ^ k % 2) 1 e) in rw (e, none, eq-eqb (0 * 2 ^ k) 0 (omega arith))))

pub bit_on : (name : Attribute) (byte : ℕ) → not (eqb (bit_and byte (bit_of name)) 0) ≡ is_on name byte
bit_on A.FgBlue byte = bit_at_on byte 0
bit_on A.FgGreen byte = bit_at_on byte 1
bit_on A.FgRed byte = bit_at_on byte 2
bit_on A.FgBright byte = bit_at_on byte 3
bit_on A.BgBlue byte = bit_at_on byte 4
bit_on A.BgGreen byte = bit_at_on byte 5
bit_on A.BgRed byte = bit_at_on byte 6
bit_on A.Blink byte = bit_at_on byte 7

-- the default counts only for a dot without a line: where one has a line, both kinds of table raise it alike
pub raised_by_state : (unnamed other : Bool) (state : State) (byte : ℕ) → is_named state ≡ true → is_raised unnamed state byte ≡ is_raised other state byte
raised_by_state unnamed other Unnamed byte e = cc
raised_by_state unnamed other (On name) byte e = refl
raised_by_state unnamed other (Off name) byte e = refl
raised_by_state unnamed other Always byte e = refl
raised_by_state unnamed other Never byte e = refl

weight_small : (i : ℕ) → i < 8 → 2 ^ i ≤ 128
weight_small i h = let p : i ≤ 7 = omega arith in pow-le-pow_right (omega arith) p

-- a shift that loses no bit
pub shifted : (i : ℕ) → i < 8 → (1 * 2 ^ i) % 256 ≡ 2 ^ i
shifted i h =
    let fits : 1 * 2 ^ i < 256 = omega (arith, weight_small i h) in
    mod-eq_of_lt fits ∙ omega arith

-- cell is the sum of the weights of the dots below i, x that of all
pub record Summed (x : ℕ) (unnamed : Bool) (places : List State) (byte cell i : ℕ) : Type 0 where
  pub within : i ≤ 8
  pub small : cell < 2 ^ i
  pub left : x ≡ cell + cell_from unnamed (drop i places) byte i

module _ (x : ℕ) (unnamed : Bool) (places : List State) (byte cell i : ℕ) (size : length places ≡ 8) (here : Summed x unnamed places byte cell i) where
  pub weight_fits : i < 8 → cell + 2 ^ i < 256
  weight_fits h = omega (arith, here.small, weight_small i h)

  sum_on : (new : ℕ) → i < 8 → new ≡ pick (is_raised unnamed (get_or places i Unnamed) byte) (cell + 2 ^ i) cell → Summed x unnamed places byte new (i + 1)
  unfolding cell_from
  sum_on new h e =
      let raised : Bool = is_raised unnamed (get_or places i Unnamed) byte in
      let k : i < length places = omega arith in
      let more : x ≡ cell + (pick raised (2 ^ i) 0 + cell_from unnamed (drop (i + 1) places) byte (i + 1)) =
      here.left ∙ rw (drop-cons places i Unnamed, add-one i) in
      let double : 2 ^ (i + 1) ≡ 2 ^ i + 2 ^ i = rw (add-one i, two-pow-succ i) (omega arith) in
      rw e
      (by_test (λ (n : ℕ). Summed x unnamed places byte n (i + 1)) raised
      (λ q. record { within = omega arith; small = omega arith; left = omega (arith, rw q at more) })
      (λ q. record { within = omega arith; small = omega arith; left = omega (arith, rw q at more) }))

  -- r is whether the next dot is raised
  module _ (r : Bool) (h : i < 8) (e : r ≡ is_raised unnamed (get_or places i Unnamed) byte) where
    pub sum_raised : (new : ℕ) → r ≡ true → new ≡ cell + (1 * 2 ^ i) % 256 → Summed x unnamed places byte new (i + 1)
    sum_raised new q p = sum_on new h (rw (← e, q, p, shifted i h))

    pub sum_down : (new : ℕ) → r ≡ false → new ≡ cell → Summed x unnamed places byte new (i + 1)
    sum_down new q p = sum_on new h (rw (← e, q, p))

  pub sum_over : 8 ≤ i → cell ≡ x
  unfolding cell_from
  sum_over h =
      let over : length places ≤ i = omega arith in
      sym (here.left ∙ rw (drop_of_length-le places over, add-zero cell))
