-- "Each line must be UTF-8": shortest form, no surrogates, at most U+10FFFF. Bytes are read one at a time.
use Rattle.std.specs.Prelude.{ℕ, ◌+◌, ◌-◌, ◌&&◌, List, [], ◌∷◌, ltb, leb, eqb, Result, Ok, Err}
use Rattle.basics.specs.Choice.{pick}
use Rattle.utf8.specs.declared.Utf8State.{Utf8State}
use Rattle.utf8.specs.declared.Utf8State.TheVariants.{Between, Inside, Broken}
use Rattle.utf8.specs.declared.BadSequence.{BadSequence}

-- after a first byte b at i. E0 and F0 bar what a shorter form could say, ED the surrogates, F4 what lies over U+10FFFF
unfoldable pub after_first : ℕ → ℕ → Utf8State
after_first b i =
    pick (ltb b 0x80) Between
    (pick (ltb b 0xC2) (Broken i)
    (pick (ltb b 0xE0) (Inside 1 0x80 0xBF i)
    (pick (eqb b 0xE0) (Inside 2 0xA0 0xBF i)
    (pick (eqb b 0xED) (Inside 2 0x80 0x9F i)
    (pick (ltb b 0xF0) (Inside 2 0x80 0xBF i)
    (pick (eqb b 0xF0) (Inside 3 0x90 0xBF i)
    (pick (ltb b 0xF4) (Inside 3 0x80 0xBF i)
    (pick (eqb b 0xF4) (Inside 3 0x80 0x8F i)
    (Broken i)))))))))

-- after a further byte of a character
unfoldable pub after_further : ℕ → ℕ → ℕ → ℕ → ℕ → Utf8State
after_further left low high start b =
    pick (leb low b && leb b high) (pick (leb left 1) Between (Inside (left - 1) 0x80 0xBF start)) (Broken start)

-- after a byte b at i
abbrev pub after_byte : Utf8State → ℕ → ℕ → Utf8State
after_byte Between b i = after_first b i
after_byte (Inside left low high start) b i = after_further left low high start b
after_byte (Broken start) b i = Broken start

-- at the end of the line, where a cut sequence is bad too
abbrev pub at_end : Utf8State → Result Unit BadSequence
at_end Between = Ok tt
at_end (Inside left low high start) = Err (record { start = start })
at_end (Broken start) = Err (record { start = start })

-- the bytes that are left, the first of them at i
unfoldable pub utf8_from : List ℕ → ℕ → Utf8State → Result Unit BadSequence
utf8_from [] i p = at_end p
utf8_from (b ∷ bs) i p = utf8_from bs (i + 1) (after_byte p b i)

abbrev pub utf8 : List ℕ → Result Unit BadSequence
utf8 line = utf8_from line 0 Between
