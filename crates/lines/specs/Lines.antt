-- The lines of a text.
use Rattle.std.specs.Prelude.{ℕ, Bool, List, [], ◌∷◌, eqb}
use Rattle.basics.specs.Choice.{pick}

abbrev pub LF : ℕ
LF = 10

abbrev pub CR : ℕ
CR = 13

-- one byte more at the front of the first line
abbrev pub with_byte : ℕ → List (List ℕ) → List (List ℕ)
with_byte b [] = (b ∷ []) ∷ []
with_byte b (l ∷ ls) = (b ∷ l) ∷ ls

-- a line ends at LF; the last may lack one
unfoldable pub lines_of : List ℕ → List (List ℕ)
lines_of [] = []
lines_of (b ∷ bs) = pick (eqb b LF) ([] ∷ lines_of bs) (with_byte b (lines_of bs))

-- one CR at its end belongs to the line's end
unfoldable pub without_cr : List ℕ → List ℕ
without_cr [] = []
without_cr (b ∷ []) = pick (eqb b CR) [] (b ∷ [])
without_cr (b ∷ c ∷ r) = b ∷ without_cr (c ∷ r)

-- the last byte, or the given one of an empty list
abbrev pub last_or : ℕ → List ℕ → ℕ
last_or d [] = d
last_or d (b ∷ bs) = last_or b bs

-- a text that is empty or ends in LF
abbrev pub is_ended : List ℕ → Bool
is_ended text = eqb (last_or LF text) LF
