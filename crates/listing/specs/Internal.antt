-- What the code knows beyond the rules: a line with its end, and how long it is.
use Rattle.std.specs.Prelude.{ℕ, ◌+◌, List, [], ◌∷◌, ◌++◌, length}
use Rattle.definitions.specs.declared.Definition.{Definition}
use Rattle.definitions.specs.declared.Meaning.{Meaning}
use Rattle.definitions.specs.declared.Meaning.TheVariants.{Typed, Shown, Alias}
use Rattle.writing.specs.Writing.{dots_text}
use Rattle.listing.specs.Listing.{line_of}

-- with its LF
abbrev pub whole_line : Definition → List ℕ
whole_line d = line_of d ++ (10 ∷ [])

abbrev pub line_length : Meaning → ℕ
line_length (Typed dots) = 17 + length (dots_text dots)
line_length (Shown dots) = 18 + length (dots_text dots)
line_length (Alias target) = 28
