-- What the code knows beyond the rules: the bits of numbers, which tell of all of them at once.
use Rattle.std.specs.Prelude.{ℕ, List, [], ◌∷◌}
use Rattle.std.specs.Int.Bits.{bit_or}

-- the bits that a number and those of a list have between them
unfoldable pub bits_with : List ℕ → ℕ → ℕ
bits_with [] bits = bits
bits_with (n ∷ ns) bits = bits_with ns (bit_or bits n)

abbrev pub bits_of : List ℕ → ℕ
bits_of ns = bits_with ns 0
