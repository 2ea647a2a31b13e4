-- Numbers and cells as text, and what a text put at a place of a buffer leaves.
use Rattle.std.specs.Prelude.{ℕ, zero, suc, ◌+◌, ◌/◌, ◌%◌, ◌≡◌, List, [], ◌∷◌, ◌++◌, length, ltb, eqb}
use Rattle.std.proofs.lemmas.List.Edits.{sets}
use Rattle.basics.specs.Choice.{pick}

-- a hex digit, in lower case: `0` is byte 48, and ten is `a`, byte 97
unfoldable pub hex_digit : ℕ → ℕ
hex_digit d = pick (ltb d 10) (48 + d) (87 + d)

-- the last k hex digits of a number
unfoldable pub hex_digits : ℕ → ℕ → List ℕ
hex_digits zero n = []
hex_digits (suc k) n = hex_digits k (n / 16) ++ hex_digit (n % 16) ∷ []

-- of the dots that are left of a cell, k at most, those that are raised; the first of them has the digit given
unfoldable pub raised_from : ℕ → ℕ → ℕ → List ℕ
raised_from zero digit cell = []
raised_from (suc k) digit cell =
    let rest : List ℕ = raised_from k (digit + 1) (cell / 2) in
    pick (eqb (cell % 2) 1) (digit ∷ rest) rest

-- the dots of a cell, rising; `0` where none is raised
unfoldable pub dots_text : ℕ → List ℕ
dots_text cell = pick (eqb cell 0) (48 ∷ []) (raised_from 8 49 cell)

-- a call puts a text into a buffer, from a place on, and answers the place behind it
pub record Put (old : List ℕ) (at : ℕ) (text : List ℕ) (r : ℕ) (new : List ℕ) : Type 0 where
  pub bytes : new ≡ sets old at text
  pub after : r ≡ at + length text
