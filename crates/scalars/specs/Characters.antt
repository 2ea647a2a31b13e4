-- Scalar values, the two rows that rules 1 and 2 are about, the local character sets, base characters, ASCII stand-ins.
use Rattle.std.specs.Prelude.{ℕ, ◌%◌, Bool, not, ◌&&◌, ◌||◌, List, [], ◌∷◌, Option, None, Some, ltb, leb, eqb}
use Rattle.basics.specs.Choice.{pick}

-- a Unicode scalar value: at most U+10FFFF, and no surrogate
abbrev pub is_scalar : ℕ → Bool
is_scalar c = ltb c 0xD800 || (leb 0xE000 c && ltb c 0x110000)

abbrev pub between : ℕ → ℕ → ℕ → Bool
between first last c = leb first c && leb c last

-- the row of rule 1
abbrev pub is_braille : ℕ → Bool
is_braille c = between 0x2800 0x28FF c

-- the row of rule 2
abbrev pub is_private : ℕ → Bool
is_private c = between 0xF000 0xF0FF c

-- what an operand can stand for, and a table hold: a scalar value, but none of the row of rule 2, which is replaced
-- when read
abbrev pub is_operand : ℕ → Bool
is_operand c = is_scalar c && not (is_private c)

-- the local character sets: 1 is ISO 8859-1, 2 is ISO 8859-15
unfoldable pub is_charset : ℕ → Bool
is_charset charset = eqb charset 1 || eqb charset 2

-- where a set differs from ISO 8859-1, in which byte n is character n: rows of a byte and its character
abbrev pub differences : ℕ → List (ℕ × ℕ)
differences charset =
    pick (eqb charset 2)
    ((0xA4, 0x20AC)
    ∷ (0xA6, 0x160)
    ∷ (0xA8, 0x161)
    ∷ (0xB4, 0x17D)
    ∷ (0xB8, 0x17E)
    ∷ (0xBC, 0x152)
    ∷ (0xBD, 0x153)
    ∷ (0xBE, 0x178)
    ∷ [])
    []

-- a number as a byte: it is at most 255
abbrev pub as_byte : ℕ → Option ℕ
as_byte n = pick (leb n 255) (Some n) None

-- the character of a byte: that of its row, else the one of its number
unfoldable pub character_by : List (ℕ × ℕ) → ℕ → ℕ
character_by [] byte = byte
character_by ((b, c) ∷ rows) byte =
    let rest : ℕ = character_by rows byte in
    pick (eqb b byte) c rest

-- the byte of a character: that of its row, else its number, but none where a row gives that byte to another character
unfoldable pub byte_by : List (ℕ × ℕ) → ℕ → Option ℕ
byte_by [] character = as_byte character
byte_by ((b, c) ∷ rows) character =
    let rest : Option ℕ = byte_by rows character in
    pick (eqb c character) (Some b)
    (pick (eqb b character) None
    rest)

-- the character that a set has for a byte, and the byte, if any, that it has for a character
abbrev pub local_character : ℕ → ℕ → ℕ
local_character charset byte = character_by (differences charset) byte

abbrev pub local_byte : ℕ → ℕ → Option ℕ
local_byte charset c = byte_by (differences charset) c

-- rule 2: the character whose place a character of the private row gives up
unfoldable pub local_of : ℕ → ℕ → ℕ
local_of charset c = pick (is_private c) (local_character charset (c % 256)) c

-- what stands for c by a list of rows: the first character, the last, and what stands for them
unfoldable pub stands_for : List (ℕ × ℕ × ℕ) → ℕ → Option ℕ
stands_for [] c = None
stands_for ((first, last, other) ∷ rows) c =
    let rest : Option ℕ = stands_for rows c in
    pick (between first last c) (Some other) rest

-- the base characters, first character of the canonical decomposition, as document 01 lists them
abbrev pub bases : List (ℕ × ℕ × ℕ)
bases =
    (0xC0, 0xC5, 0x41)
    ∷ (0xC7, 0xC7, 0x43)
    ∷ (0xC8, 0xCB, 0x45)
    ∷ (0xCC, 0xCF, 0x49)
    ∷ (0xD1, 0xD1, 0x4E)
    ∷ (0xD2, 0xD6, 0x4F)
    ∷ (0xD9, 0xDC, 0x55)
    ∷ (0xDD, 0xDD, 0x59)
    ∷ (0xE0, 0xE5, 0x61)
    ∷ (0xE7, 0xE7, 0x63)
    ∷ (0xE8, 0xEB, 0x65)
    ∷ (0xEC, 0xEF, 0x69)
    ∷ (0xF1, 0xF1, 0x6E)
    ∷ (0xF2, 0xF6, 0x6F)
    ∷ (0xF9, 0xFC, 0x75)
    ∷ (0xFD, 0xFD, 0x79)
    ∷ (0xFF, 0xFF, 0x79)
    ∷ []

-- the ASCII stand-ins: blank, A, x, O, s, a, o, hyphens, single and double quotes
abbrev pub stand_ins : List (ℕ × ℕ × ℕ)
stand_ins =
    (0xA0, 0xA0, 0x20)
    ∷ (0xC6, 0xC6, 0x41)
    ∷ (0xD7, 0xD7, 0x78)
    ∷ (0xD8, 0xD8, 0x4F)
    ∷ (0xDF, 0xDF, 0x73)
    ∷ (0xE6, 0xE6, 0x61)
    ∷ (0xF8, 0xF8, 0x6F)
    ∷ (0x2010, 0x2014, 0x2D)
    ∷ (0x2018, 0x2019, 0x27)
    ∷ (0x201C, 0x201D, 0x22)
    ∷ []

-- rule 5's character
abbrev pub base_of : ℕ → Option ℕ
base_of c = stands_for bases c

-- rule 6's character
abbrev pub stand_in_of : ℕ → Option ℕ
stand_in_of c = stands_for stand_ins c
