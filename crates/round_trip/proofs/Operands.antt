-- Listed characters and dots are read back.
use Rattle.std.proofs.Common.{◌≡◌, ℕ, zero, suc, ◌+◌, ◌-◌, ◌*◌, ◌/◌, ◌%◌, ◌<◌, Bool, true, false, not, ◌&&◌, List, [], ◌∷◌, ◌++◌, length, drop}
use Rattle.std.proofs.Common.{Some, Result, Ok, Err, refl, sym, arith}
use Rattle.std.specs.List.{list_all}
use lib.Dec.{eqb}
use lib.Seq.{take-append_seam, drop-append_seam, drop-append-add}
use borrow.Author.Tests.{eqb-true, lt-ltb, not-true}
use Rattle.basics.specs.Ascii.{ascii}
use Rattle.basics.proofs.Tests.{both, all_below, below}
use Rattle.scalars.specs.Characters.{is_scalar, is_private, is_operand, local_of}
use Rattle.lines.specs.declared.LineFault.{LineFault}
use Rattle.lines.specs.declared.Parsed.{Parsed}
use Rattle.lines.specs.declared.Word.{Word}
use Rattle.lines.specs.Words.{is_blank, first_from, first_at, word_at, bytes_of}
use Rattle.characters.specs.declared.OperandKind.TheVariants.{Character}
use Rattle.characters.specs.Characters.{no_number, digit_of, with_digit, digits_from, radix_of, word_number, character_of, operand_of}
use Rattle.dots.specs.Dots.{raise_by, raise, raise_inside, ends_at, digits_at, inside_at, cell_at, dots_at}
use Rattle.operands.specs.Operands.{operand_word, character_at, dots_operand_at}
use Rattle.operands.proofs.Operands.{word_there}
use Rattle.table.proofs.Readback.{operand_below}
use Rattle.writing.specs.Writing.{hex_digit, hex_digits, raised_from, dots_text}
use Rattle.writing.proofs.Numerals.{digits_length}
use Rattle.listing.specs.Listing.{escaped}
use Rattle.round_trip.proofs.Bytes.{is_plain, Plain, digits_end}

-- ---- a character

-- one test, computed for all digits
all_digits : all_below 16 (λ d. eqb (digit_of (hex_digit d)) d) ≡ true
unfolding digit_of hex_digit
all_digits = refl

digits_snoc : (xs : List ℕ) (d n : ℕ) → digits_from 16 (xs ++ (d ∷ [])) n ≡ with_digit 16 (digits_from 16 xs n) (digit_of d)
unfolding digits_from
digits_snoc [] d n = refl
digits_snoc (x ∷ xs) d n = digits_snoc xs d (with_digit 16 n (digit_of x))

-- a number of k digits at most
abbrev Fits : ℕ → ℕ → Type 0
Fits zero n = n ≡ 0
Fits (suc k) n = Fits k (n / 16)

digits_back : (k n : ℕ) → Fits k n → n < no_number → digits_from 16 (hex_digits k n) 0 ≡ n
unfolding hex_digits digits_from with_digit
digits_back zero n f l = sym f
digits_back (suc k) n f l =
    let small : n % 16 < 16 = omega arith in
    let digit = eqb-true (digit_of (hex_digit (n % 16))) (n % 16) (below 16 (λ d. eqb (digit_of (hex_digit d)) d) all_digits (n % 16) small) in
    let whole : n / 16 * 16 + n % 16 ≡ n = omega arith in
    rw (
      digits_snoc (hex_digits k (n / 16)) (hex_digit (n % 16)) 0,
      digits_back k (n / 16) f (omega arith),
      digit,
      lt-ltb (n % 16) 16 small,
      whole,
      lt-ltb n no_number l,
    )

number_back : (c : ℕ) → c < no_number → word_number (escaped c) ≡ c
unfolding word_number radix_of
number_back c h = rw (digits_length 8 c) (digits_back 8 c (omega arith) h)

-- in every set, since none of the private row is listed
operand_back : (charset c : ℕ) → is_operand c ≡ true → operand_of charset (escaped c) ≡ Some c
unfolding operand_of character_of local_of
operand_back charset c h =
    let e = both (is_scalar c) (not (is_private c)) h in
    rw (number_back c (operand_below c h), e.0, not-true (is_private c) e.1)

-- bytes that end a word before them
abbrev Ends : List ℕ → Type 0
Ends r = (i : ℕ) → first_from true r i ≡ i

pub ends_nil : Ends []
unfolding first_from
ends_nil i = refl

pub ends_blank : (r : List ℕ) → Ends (32 ∷ r)
unfolding first_from is_blank
ends_blank r i = refl

-- what was read is this, and ends there
abbrev pub parsed : ℕ → ℕ → Result (Parsed ℕ) LineFault
parsed value after = Ok (record { value = value; after = after })

-- a character behind p and a blank
module _ (p r : List ℕ) (c : ℕ) (ends : Ends r) where
  abbrev line : List ℕ
  line = p ++ (32 ∷ (escaped c ++ r))

  abbrev word : Word
  word = record { start = length p + 1; end = length p + 11 }

  from_word_lem : drop (length p + 1) line ≡ escaped c ++ r
  from_word_lem = drop-append-add p (32 ∷ (escaped c ++ r)) 1

  word_behind : word ≡ word_at line (length p)
  unfolding word_at first_at first_from is_blank
  word_behind =
      let end : length p + 1 + 1 + 1 + 8 ≡ length p + 11 = omega arith in
      rw (drop-append_seam p (32 ∷ (escaped c ++ r)), from_word_lem, digits_end c r (length p + 1 + 1 + 1) ends, end)

  word_bytes : bytes_of line word ≡ escaped c
  word_bytes =
      let n : length p + 11 - (length p + 1) ≡ length (escaped c) = omega (arith, digits_length 8 c) in
      rw (n, from_word_lem) (take-append_seam (escaped c) r)

  pub character_behind : (charset : ℕ) → is_operand c ≡ true → character_at charset Character line (length p) ≡ parsed c (length p + 11)
  unfolding character_at
  character_behind charset h = rw (word_there line (length p) word word_behind (λ q. omega arith), word_bytes, operand_back charset c h)

-- ---- dots: one test, computed for all cells, whatever the character before them

abbrev is_parsed : Result (Parsed ℕ) LineFault → ℕ → ℕ → Bool
is_parsed (Err fault) cell after = false
is_parsed (Ok p) cell after = eqb p.value cell && eqb p.after after

is_parsed_lem : (r : Result (Parsed ℕ) LineFault) (cell after : ℕ) → is_parsed r cell after ≡ true → r ≡ parsed cell after
is_parsed_lem (Err fault) cell after e = cc
is_parsed_lem (Ok p) cell after e =
    let same = both (eqb p.value cell) (eqb p.after after) e in
    rw (← eqb-true p.value cell same.0, ← eqb-true p.after after same.1)

module _ (c : ℕ) (word : List ℕ) where
  abbrev dots_behind : ℕ → Result (Parsed ℕ) LineFault
  dots_behind n = dots_operand_at ((word ++ (32 ∷ escaped c)) ++ (32 ∷ dots_text n)) (length word + 11)

  abbrev is_listed : ℕ → Bool
  is_listed n = list_all is_plain (dots_text n) && is_parsed (dots_behind n) n (length word + 12 + length (dots_text n))

  module _ (all : all_below 256 is_listed ≡ true) (n : ℕ) (h : n < 256) where
    listed : Plain (dots_text n) × (is_parsed (dots_behind n) n (length word + 12 + length (dots_text n)) ≡ true)
    listed = both (list_all is_plain (dots_text n)) _ (below 256 is_listed all n h)

    pub dots_plain : Plain (dots_text n)
    dots_plain = listed.0

    pub dots_behind_lem : dots_behind n ≡ parsed n (length word + 12 + length (dots_text n))
    dots_behind_lem = is_parsed_lem (dots_behind n) n (length word + 12 + length (dots_text n)) listed.1

pub all_listed : (c : ℕ) → (all_below 256 (is_listed c (ascii "char")) ≡ true) × (all_below 256 (is_listed c (ascii "glyph")) ≡ true)
unfolding hex_digits dots_text raised_from operand_word dots_operand_at word_at first_at first_from is_blank dots_at cell_at ends_at digits_at
    inside_at raise raise_inside raise_by
all_listed c = (refl, refl)
