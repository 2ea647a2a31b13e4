-- What the code knows beyond the rules: that digits have one of two bases.
use Rattle.std.specs.Prelude.{ℕ}
use Rattle.characters.specs.declared.Base.{Base}
use Rattle.characters.specs.declared.Base.TheVariants.{Octal, Hexadecimal}

abbrev pub radix : Base → ℕ
radix Octal = 8
radix Hexadecimal = 16
