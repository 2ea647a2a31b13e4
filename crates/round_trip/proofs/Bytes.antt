-- The bytes of a listing: what they let a line and a word be.
use Rattle.std.proofs.Common.{◌≡◌, ℕ, zero, suc, ◌+◌, ◌/◌, ◌%◌, ◌<◌, Bool, true, not, ◌&&◌, List, [], ◌∷◌, ◌++◌, length, Ok}
use Rattle.std.proofs.Common.{refl, sym, ap, ◌∙◌, arith}
use Rattle.std.specs.List.{list_all}
use Rattle.std.proofs.lemmas.List.Folds.{list_all-append}
use native.Mathlib.Nat.{add-zero}
use lib.Dec.{ltb, leb}
use borrow.Author.Tests.{lt-ltb, ne_eqb, ltb-true, leb-true, not-true}
use Rattle.basics.proofs.Tests.{both, all_below, below}
use Rattle.utf8.specs.Utf8.{after_first, utf8_from}
use Rattle.utf8.specs.declared.Utf8State.TheVariants.{Between}
use Rattle.lines.specs.Lines.{lines_of, without_cr}
use Rattle.lines.specs.Words.{is_blank, first_from}
use Rattle.writing.specs.Writing.{hex_digit, hex_digits}
use Rattle.writing.proofs.Numerals.{digits_length}

-- what holds of each hex digit holds of those of a number
every_digit : (test : ℕ → Bool) → all_below 16 (λ d. test (hex_digit d)) ≡ true → (k n : ℕ) → list_all test (hex_digits k n) ≡ true
unfolding hex_digits
every_digit test e zero n = refl
every_digit test e (suc k) n =
    rw (list_all-append, every_digit test e k (n / 16), below 16 (λ d. test (hex_digit d)) e (n % 16) (omega arith))

-- ---- a line of ASCII without control bytes

abbrev pub is_plain : ℕ → Bool
is_plain b = leb 32 b && ltb b 128

abbrev pub Plain : List ℕ → Type 0
Plain bs = list_all is_plain bs ≡ true

plain_byte : (b : ℕ) (bs : List ℕ) → Plain (b ∷ bs) → ((31 < b) × (b < 128)) × Plain bs
plain_byte b bs p =
    let e = both (is_plain b) (list_all is_plain bs) p in
    let f = both (leb 32 b) (ltb b 128) e.0 in
    ((leb-true 32 b f.0, ltb-true b 128 f.1), e.1)

pub plain_lines : (l t : List ℕ) → Plain l → lines_of (l ++ (10 ∷ t)) ≡ l ∷ lines_of t
unfolding lines_of
plain_lines [] t p = refl
plain_lines (b ∷ l) t p = let e = plain_byte b l p in rw (ne_eqb b 10 (λ q. omega arith), plain_lines l t e.1)

pub plain_cr : (l : List ℕ) → Plain l → without_cr l ≡ l
unfolding without_cr
plain_cr [] p = refl
plain_cr (b ∷ []) p = let e = plain_byte b [] p in rw (ne_eqb b 13 (λ q. omega arith))
plain_cr (b ∷ c ∷ r) p = ap (λ (x : List ℕ). b ∷ x) (plain_cr (c ∷ r) (plain_byte b (c ∷ r) p).1)

pub plain_utf8 : (l : List ℕ) (i : ℕ) → Plain l → utf8_from l i Between ≡ Ok tt
unfolding utf8_from after_first
plain_utf8 [] i p = refl
plain_utf8 (b ∷ l) i p = let e = plain_byte b l p in rw (lt-ltb b 128 e.0.1) (plain_utf8 l (i + 1) e.1)

pub digits_plain : (c : ℕ) → Plain (hex_digits 8 c)
unfolding hex_digit
digits_plain c = every_digit is_plain refl 8 c

-- ---- a word: without whitespace, it ends where the bytes behind it begin

abbrev is_dark : ℕ → Bool
is_dark b = not (is_blank b)

word_end : (w r : List ℕ) (i : ℕ) → list_all is_dark w ≡ true → ((j : ℕ) → first_from true r j ≡ j) → first_from true (w ++ r) i ≡ i + length w
unfolding first_from
word_end [] r i d e = e i ∙ sym (add-zero i)
word_end (b ∷ w) r i d e =
    let f = both (is_dark b) (list_all is_dark w) d in
    rw (not-true (is_blank b) f.0) (word_end w r (i + 1) f.1 e ∙ omega arith)

pub digits_end : (c : ℕ) (r : List ℕ) (i : ℕ) → ((j : ℕ) → first_from true r j ≡ j) → first_from true (hex_digits 8 c ++ r) i ≡ i + 8
unfolding hex_digit is_blank
digits_end c r i e = rw (digits_length 8 c) at (word_end (hex_digits 8 c) r i (every_digit is_dark refl 8 c) e)
