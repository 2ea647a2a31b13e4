-- The dots operand and the cell operand, from the position of their first byte on.
use Rattle.std.specs.Prelude.{ℕ, ◌+◌, ◌-◌, ◌/◌, ◌%◌, ◌^◌, ◌&&◌, List, [], ◌∷◌, get_or, drop, eqb, leb}
use Rattle.std.specs.Prelude.{Option, None, Some}
use Rattle.basics.specs.Choice.{pick, if_some}
use Rattle.lines.specs.Words.{is_blank}
use Rattle.lines.specs.declared.Parsed.{Parsed}

-- a cell with the dot of that weight raised, unless it is up
unfoldable pub raise_by : ℕ → ℕ → Option ℕ
raise_by cell weight = pick (eqb (cell / weight % 2) 0) (Some (cell + weight)) None

-- digits 1 to 8, none twice: dot d adds 2^(d-1), and the digit 1 is byte 49
unfoldable pub raise : ℕ → ℕ → Option ℕ
raise cell b = pick (leb 49 b && leb b 56) (raise_by cell (2 ^ (b - 49))) None

-- one byte in parentheses: whitespace may stand between
unfoldable pub raise_inside : ℕ → ℕ → Option ℕ
raise_inside cell b = pick (is_blank b) (Some cell) (raise cell b)

-- a cell and the position after it
abbrev pub read : ℕ → ℕ → Option (Parsed ℕ)
read cell after = Some (record { value = cell; after = after })

-- the operand ends at i, the bytes from there on given: whitespace or the line's end follows
unfoldable pub ends_at : List ℕ → ℕ → ℕ → Option (Parsed ℕ)
ends_at [] i cell = read cell i
ends_at (b ∷ bs) i cell = pick (is_blank b) (read cell i) None

-- digits up to whitespace or the line's end
unfoldable pub digits_at : List ℕ → ℕ → ℕ → Option (Parsed ℕ)
digits_at [] i cell = read cell i
digits_at (b ∷ bs) i cell =
    let rest : Option (Parsed ℕ) = if_some (raise cell b) None (λ n. digits_at bs (i + 1) n) in
    pick (is_blank b) (read cell i) rest

-- digits and whitespace up to the closing parenthesis
unfoldable pub inside_at : List ℕ → ℕ → ℕ → Option (Parsed ℕ)
inside_at [] i cell = None
inside_at (b ∷ bs) i cell =
    let rest : Option (Parsed ℕ) = if_some (raise_inside cell b) None (λ n. inside_at bs (i + 1) n) in
    pick (eqb b 41) (ends_at bs (i + 1) cell) rest

-- `0`, or digits: the cell operand
unfoldable pub cell_at : List ℕ → ℕ → Option (Parsed ℕ)
cell_at line at =
    let zero : Option (Parsed ℕ) = ends_at (drop (at + 1) line) (at + 1) 0 in
    let digits : Option (Parsed ℕ) = digits_at (drop at line) at 0 in
    pick (eqb (get_or line at 0) 48) zero digits

-- the same, or in parentheses: the dots operand
unfoldable pub dots_at : List ℕ → ℕ → Option (Parsed ℕ)
dots_at line at =
    let inside : Option (Parsed ℕ) = inside_at (drop (at + 1) line) (at + 1) 0 in
    let bare : Option (Parsed ℕ) = cell_at line at in
    pick (eqb (get_or line at 0) 40) inside bare
