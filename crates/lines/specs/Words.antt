-- The words of a line: whitespace, the next word, its spelling, comments.
use Rattle.std.specs.Prelude.{ℕ, ◌+◌, ◌-◌, Bool, true, false, ◌||◌, List, [], ◌∷◌, get_or, take, drop, eqb}
use Rattle.std.specs.Bool.{beq}
use Rattle.basics.specs.Choice.{pick}
use Rattle.lines.specs.declared.Word.{Word}

-- whitespace is blank and tab
unfoldable pub is_blank : ℕ → Bool
is_blank b = eqb b 32 || eqb b 9

-- of the bytes that are left, the first of them at i: where the first is that is whitespace (or is none), or the end
unfoldable pub first_from : Bool → List ℕ → ℕ → ℕ
first_from blank [] i = i
first_from blank (b ∷ bs) i =
    let rest : ℕ = first_from blank bs (i + 1) in
    pick (beq (is_blank b) blank) i rest

unfoldable pub first_at : Bool → List ℕ → ℕ → ℕ
first_at blank line at = first_from blank (drop at line) at

-- the next word from a position on: it ends at whitespace or the line's end
unfoldable pub word_at : List ℕ → ℕ → Word
word_at line at =
    let start : ℕ = first_at false line at in
    record { start = start; end = first_at true line start }

abbrev pub bytes_of : List ℕ → Word → List ℕ
bytes_of line w = take (w.end - w.start) (drop w.start line)

abbrev pub is_missing : Word → Bool
is_missing w = eqb w.start w.end

-- directive words and names match exactly, case included
unfoldable pub same_bytes : List ℕ → List ℕ → Bool
same_bytes [] [] = true
same_bytes [] (y ∷ ys) = false
same_bytes (x ∷ xs) [] = false
same_bytes (x ∷ xs) (y ∷ ys) =
    let rest : Bool = same_bytes xs ys in
    pick (eqb x y) rest false

-- from a position on: nothing, or a word that begins with `#`
unfoldable pub is_over : List ℕ → ℕ → Bool
is_over line at =
    let w : Word = word_at line at in
    is_missing w || eqb (get_or line w.start 0) 35
