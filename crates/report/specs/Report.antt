-- What the program writes: `accepted N`, or `refused N line L`, and one LF after.
use Rattle.std.specs.Prelude.{ℕ, zero, suc, ◌+◌, ◌-◌, ◌/◌, ◌%◌, List, [], ◌∷◌, ◌++◌, length, replicate, ltb}
use Rattle.basics.specs.Ascii.{ascii}
use Rattle.basics.specs.Choice.{pick}
use Rattle.basics.specs.Refusals.{Reply, answered, refused}

-- a number in decimal, of at most so many digits
unfoldable pub decimal_within : ℕ → ℕ → List ℕ
decimal_within zero n = []
decimal_within (suc room) n =
    let front : List ℕ = decimal_within room (n / 10) in
    pick (ltb n 10) ((48 + n) ∷ []) (front ++ ((48 + n % 10) ∷ []))

-- 20 digits hold any number of 64 bits
abbrev pub decimal : ℕ → List ℕ
decimal n = decimal_within 20 n

abbrev pub report_of : Reply ℕ → List ℕ
report_of (answered count) = ascii "accepted " ++ (decimal count ++ ascii "\n")
report_of (refused number line) =
    ascii "refused " ++ (decimal number ++ (ascii " line " ++ (decimal line ++ ascii "\n")))

-- what a line holds: 64 bytes, and how many of them are its text
pub record Held : Type 0 where
  pub bytes : List ℕ
  pub length : ℕ

-- a line of 64 bytes: a text in front, zeros behind it
abbrev pub line_of : List ℕ → Held
line_of text = record { bytes = text ++ replicate (64 - length text) 0; length = length text }
