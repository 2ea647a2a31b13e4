-- The character operand and the byte operand: a whole word to a character, and to a byte of a local character set.
-- Number 0x110000 stands for none, and is no scalar value.
use Rattle.std.specs.Prelude.{ℕ, ◌+◌, ◌-◌, ◌*◌, ◌%◌, Bool, ◌&&◌, ◌||◌, ltb, leb, eqb}
use Rattle.std.specs.Prelude.{List, [], ◌∷◌, length, get_or, drop, Option, None, Some}
use Rattle.basics.specs.Choice.{pick, if_some}
use Rattle.scalars.specs.Characters.{is_scalar, as_byte, local_character, local_byte, local_of}
use Rattle.characters.specs.declared.OperandKind.{OperandKind}
use Rattle.characters.specs.declared.OperandKind.TheVariants.{Character, Byte}

abbrev pub no_number : ℕ
no_number = 0x110000

abbrev pub backslash : ℕ
backslash = 92

-- the value of a hex digit in either case; 16 where it is none
unfoldable pub digit_of : ℕ → ℕ
digit_of b =
    pick (ltb b 48) 16
    (pick (ltb b 58) (b - 48)
    (pick (ltb b 65) 16
    (pick (ltb b 71) (b - 55)
    (pick (ltb b 97) 16
    (pick (ltb b 103) (b - 87)
    16)))))

-- a number with one digit more; none from there on where that is no digit of the base, or the number is no character's
unfoldable pub with_digit : ℕ → ℕ → ℕ → ℕ
with_digit base n d = pick (ltb d base && ltb (n * base + d) no_number) (n * base + d) no_number

unfoldable pub digits_from : ℕ → List ℕ → ℕ → ℕ
digits_from base [] n = n
digits_from base (b ∷ bs) n = digits_from base bs (with_digit base n (digit_of b))

-- the character of a word that is one character: its UTF-8 form has one byte, two, three or four
unfoldable pub plain_of : List ℕ → ℕ
plain_of w =
    pick (eqb (length w) 1) (get_or w 0 0)
    (pick (eqb (length w) 2 && leb 0xC0 (get_or w 0 0)) (get_or w 0 0 % 32 * 64 + get_or w 1 0 % 64)
    (pick (eqb (length w) 3 && leb 0xE0 (get_or w 0 0))
    (get_or w 0 0 % 16 * 4096 + get_or w 1 0 % 64 * 64 + get_or w 2 0 % 64)
    (pick (eqb (length w) 4 && leb 0xF0 (get_or w 0 0))
    (get_or w 0 0 % 8 * 262144 + get_or w 1 0 % 64 * 4096 + get_or w 2 0 % 64 * 64 + get_or w 3 0 % 64)
    no_number)))

-- \b \t \n \v \f \r \s \# \\, by the byte after the backslash
unfoldable pub short_of : ℕ → ℕ
short_of b =
    pick (eqb b 98) 8
    (pick (eqb b 116) 9
    (pick (eqb b 110) 10
    (pick (eqb b 118) 11
    (pick (eqb b 102) 12
    (pick (eqb b 114) 13
    (pick (eqb b 115) 32
    (pick (eqb b 35) 35
    (pick (eqb b backslash) backslash
    no_number))))))))

-- \o with three octal digits, \x or \X with two hex digits, \u with four, \U with eight:
-- the base, by the byte after the backslash and the length of the whole word; 0, in which nothing is a digit, for
-- any other
unfoldable pub radix_of : ℕ → ℕ → ℕ
radix_of b n =
    pick (eqb b 111 && eqb n 5) 8
    (pick ((eqb b 120 || eqb b 88) && eqb n 4) 16
    (pick (eqb b 117 && eqb n 6) 16
    (pick (eqb b 85 && eqb n 10) 16
    0)))

-- the number of a whole word
unfoldable pub word_number : List ℕ → ℕ
word_number w =
    let digits : ℕ = digits_from (radix_of (get_or w 1 0) (length w)) (drop 2 w) 0 in
    pick (eqb (get_or w 0 0) backslash)
    (pick (ltb (length w) 3) (short_of (get_or w 1 0)) digits)
    (plain_of w)

-- the character of a whole word: it must be a Unicode scalar value
unfoldable pub character_of : List ℕ → Option ℕ
character_of w = pick (is_scalar (word_number w)) (Some (word_number w)) None

-- a character operand stands for that character, one of the private row for its local character
unfoldable pub operand_of : ℕ → List ℕ → Option ℕ
operand_of charset w = if_some (character_of w) None (λ c. Some (local_of charset c))

abbrev pub is_escape : List ℕ → Bool
is_escape w = eqb (get_or w 0 0) backslash

-- one by \u or \U
abbrev pub is_unicode_escape : List ℕ → Bool
is_unicode_escape w = is_escape w && (eqb (get_or w 1 0) 117 || eqb (get_or w 1 0) 85)

-- the byte of a whole word: an escape is that byte in every set, a character written as itself the byte that the set
-- has for it
unfoldable pub byte_of : ℕ → List ℕ → Option ℕ
byte_of charset w = if_some (character_of w) None (λ n. pick (is_escape w) (as_byte n) (local_byte charset n))

-- a byte operand stands for the character that the set has for its byte; \u and \U may not stand in it
unfoldable pub byte_character_of : ℕ → List ℕ → Option ℕ
byte_character_of charset w =
    pick (is_unicode_escape w) None
    (if_some (byte_of charset w) None (λ byte. Some (local_character charset byte)))

-- an operand of either kind
abbrev pub word_value : OperandKind → ℕ → List ℕ → Option ℕ
word_value Character charset w = operand_of charset w
word_value Byte charset w = byte_character_of charset w
