-- Room for a dot that is not up, and the operands byte by byte.
use Rattle.std.proofs.Common.{◌≡◌, refl, ap, ℕ, suc, ◌+◌, ◌-◌, ◌*◌, ◌/◌, ◌%◌, ◌^◌, ◌<◌, ◌≤◌, List, Option, None, Some, length, drop, get_or}
use Rattle.std.proofs.Common.{drop-cons, add-one, arith}
use Rattle.std.proofs.Math.ListN.{drop_of_length-le}
use lib.Dec.{eqb}
use borrow.Author.Tests.{eqb-true, eq-eqb, ne_eqb, le-leb, lt-leb}
use Rattle.basics.specs.Choice.{pick, if_some}
use Rattle.basics.proofs.Tests.{below}
use Rattle.lines.specs.Words.{is_blank}
use Rattle.dots.specs.Dots.{raise_by, raise, read, ends_at, digits_at, inside_at, raise_inside}
use native.Mathlib.Nat.{div-lt_iff_lt-mul, add-div_right, pow-suc}
use lib.Pow.{pow_pos, pow-add}

-- below an even number of its weight
room_below : (cell weight m : ℕ) → 0 < weight → cell < m * 2 * weight → cell / weight % 2 ≡ 0 → cell + weight < m * 2 * weight
room_below cell weight m pos small e =
    let q : cell / weight < m * 2 = (div-lt_iff_lt-mul pos).1 small in
    (div-lt_iff_lt-mul pos).0 (rw add-div_right (omega arith))

-- in a cell of eight dots
pub room : (cell k : ℕ) → cell < 256 → k < 8 → cell / 2 ^ k % 2 ≡ 0 → cell + 2 ^ k < 256
room cell k small l e =
    let up : suc (7 - k) + k ≡ 8 = omega arith in
    let whole : 2 ^ (7 - k) * 2 * 2 ^ k ≡ 256 = rw (← pow-suc, ← pow-add, up) in
    rw whole at (room_below cell (2 ^ k) (2 ^ (7 - k)) (pow_pos k) (rw whole small) e)

-- a bit of a byte, as the code shifts it there
shifted : (k : ℕ) → k < 8 → 1 * 2 ^ k % 256 ≡ 2 ^ k
shifted k l = eqb-true _ _ (below 8 (λ k. eqb (1 * 2 ^ k % 256) (2 ^ k)) refl k l)

module _ (cell b : ℕ) (low : 49 ≤ b) (high : b ≤ 56) where
  bit : 1 * 2 ^ (b - 49) % 256 ≡ 2 ^ (b - 49)
  bit = shifted (b - 49) (omega arith)

  pub raise_room : cell < 256 → cell / (1 * 2 ^ (b - 49) % 256) % 2 ≡ 0 → cell + 1 * 2 ^ (b - 49) % 256 < 256
  raise_room small e = rw bit (room cell (b - 49) small (omega arith) (rw bit at e))

  pub raise_up : cell / (1 * 2 ^ (b - 49) % 256) % 2 ≡ 0 → Some (cell + 1 * 2 ^ (b - 49) % 256) ≡ raise cell b
  unfolding raise raise_by
  raise_up e = rw (bit, le-leb _ _ low, le-leb _ _ high, eq-eqb _ _ (rw bit at e))

  pub raise_not : (cell / (1 * 2 ^ (b - 49) % 256) % 2 ≡ 0 → ⊥) → None ≡ raise cell b
  unfolding raise raise_by
  raise_not e = rw (le-leb _ _ low, le-leb _ _ high, ne_eqb _ _ (rw bit at e))

pub raise_below : (cell b : ℕ) → b < 49 → None ≡ raise cell b
unfolding raise
raise_below cell b h = rw (lt-leb _ _ h)

pub raise_above : (cell b : ℕ) → 56 < b → None ≡ raise cell b
unfolding raise
raise_above cell b h = rw (le-leb 49 b (omega arith), lt-leb _ _ h)

pub ruleset raised = (raise_room, raise_up, raise_not, raise_below, raise_above)

-- ---- the operands by position

module _ (line : List ℕ) (i cell : ℕ) where
  pub ends_more : i < length line → ends_at (drop i line) i cell ≡ pick (is_blank (get_or line i 0)) (read cell i) None
  unfolding ends_at
  ends_more h = rw (drop-cons line i 0)

  pub ends_over : length line ≤ i → ends_at (drop i line) i cell ≡ read cell i
  unfolding ends_at
  ends_over h = rw (drop_of_length-le line h)

  pub digits_more : i < length line
      → digits_at (drop i line) i cell ≡ pick (is_blank (get_or line i 0)) (read cell i)
      (if_some (raise cell (get_or line i 0)) None (λ n. digits_at (drop (i + 1) line) (i + 1) n))
  unfolding digits_at
  digits_more h = rw (drop-cons line i 0, add-one i)

  pub digits_over : length line ≤ i → digits_at (drop i line) i cell ≡ read cell i
  unfolding digits_at
  digits_over h = rw (drop_of_length-le line h)

  pub inside_more : i < length line
      → inside_at (drop i line) i cell ≡ pick (eqb (get_or line i 0) 41) (ends_at (drop (i + 1) line) (i + 1) cell)
      (if_some (raise_inside cell (get_or line i 0)) None (λ n. inside_at (drop (i + 1) line) (i + 1) n))
  unfolding inside_at
  inside_more h = rw (drop-cons line i 0, add-one i)

  pub inside_over : length line ≤ i → inside_at (drop i line) i cell ≡ None
  unfolding inside_at
  inside_over h = rw (drop_of_length-le line h)

pub ruleset ends_by = (ends_more, ends_over)

pub ruleset digits_by = (digits_more, digits_over)

pub ruleset inside_by = (inside_more, inside_over, eq-eqb, ne_eqb)
