-- How a line grows, and the digits of a number.
use Rattle.std.proofs.Common.{◌≡◌, ℕ, zero, suc, ◌+◌, ◌-◌, ◌*◌, ◌/◌, ◌%◌, ◌^◌, ◌<◌, ◌≤◌, Bool, true, false, List, [], ◌∷◌, ◌++◌, length, take, drop}
use Rattle.std.proofs.Common.{replicate, refl, ap, arith, append_assoc, length-append}
use Rattle.std.proofs.lemmas.List.{take_at, drop_at, drop-replicate}
use borrow.Rule.Slice.PartMut.{put_mid}
use borrow.Author.Tests.{lt-ltb, le-ltb, leb-true, leb-false}
use native.Mathlib.Nat.{mod-eq_of_lt, pow-suc, one-le-pow, pow-le-pow_right}
use native.Mathlib.Numerals.{unary_clauses}
use lib.Dec.{leb}
use Rattle.io.specs.Digits.{last_digits, IsDigitCount}
use Rattle.report.specs.Report.{Held, line_of, decimal_within, decimal}

-- a text put over the zeros behind another
over_zeros :
    (text more : List ℕ) (room left : ℕ) → left ≡ room - length more
    → put_mid (length text) (length text + length more - length text) (text ++ replicate room 0) more ≡ (text ++ more) ++ replicate left 0
over_zeros text more room left is =
    let width : length text + length more - length text ≡ length more = omega arith in
    let behind : drop (length text) (text ++ replicate room 0) ≡ replicate room 0 = drop_at text _ _ refl in
    let front : take (length text) (text ++ replicate room 0) ≡ text = take_at text _ _ refl in
    rw (width, behind, front, drop-replicate {X = ℕ}, is, append_assoc)

-- a text put behind that of a line
pub line_more :
    (line : Held) (text more : List ℕ) → line ≡ line_of text → line.length + length more ≤ 64
    → ◌≡◌ {A = Held}
    record { bytes = put_mid line.length (line.length + length more - line.length) line.bytes more; length = line.length + length more }
    (line_of (text ++ more))
line_more line text more is room =
    let left : 64 - length (text ++ more) ≡ 64 - length text - length more = simp length-append (omega arith) in
    rw (is, over_zeros text more (64 - length text) (64 - length (text ++ more)) left, length-append text more)

-- ---- numbers

-- the fewest digits that hold a number are those of its decimal form
digits_within : (k room n : ℕ) → k ≤ room → IsDigitCount 10 1 n k → last_digits 10 k n ≡ decimal_within room n
unfolding decimal_within
digits_within zero room n h f = absurd (omega (arith, f.0))
digits_within (suc k) zero n h f = absurd (omega arith)
digits_within (suc zero) (suc room) n h f =
    let small : n < 10 = f.1 in
    rw (lt-ltb n 10 small, mod-eq_of_lt small, lt-ltb n 10 small)
digits_within (suc (suc k)) (suc room) n h f =
    let more : 10 ^ k * 10 ≤ n = simp unary_clauses at (f.2 (omega arith)) in
    let size : 10 ^ suc (suc k) ≡ 10 ^ suc k * 10 = pow-suc 10 (suc k) in
    let some : 1 ≤ 10 ^ k = one-le-pow k 10 (omega arith) in
    let last : n % 10 < 10 = omega arith in
    let front = digits_within (suc k) room (n / 10) (omega arith) (omega arith, omega (arith, f.1), λ g. simp unary_clauses (omega arith)) in
    rw (le-ltb n 10 (omega arith), lt-ltb (n % 10) 10 last) (ap (λ (d : List ℕ). d ++ ((48 + n % 10) ∷ [])) front)

-- 20 of them hold any number of 64 bits
pub digits_few : (n k : ℕ) → n < 2 ^ 64 → IsDigitCount 10 1 n k → k ≤ 20
digits_few n k small f = go (leb k 20) refl
  where
    go : (b : Bool) → leb k 20 ≡ b → k ≤ 20
    go true p = leb-true k 20 p
    go false p =
        let more : 20 < k = leb-false k 20 p in
        let up : 20 ≤ k - 1 = omega arith in
        let large : 10 ^ 20 ≤ 10 ^ (k - 1) = pow-le-pow_right {n = 10} (omega arith) up in
        absurd (omega (arith, f.2 (omega arith)))

-- and are its decimal form
pub digits_decimal : (n k : ℕ) → n < 2 ^ 64 → IsDigitCount 10 1 n k → last_digits 10 k n ≡ decimal n
digits_decimal n k small f = digits_within k 20 n (digits_few n k small f) f
