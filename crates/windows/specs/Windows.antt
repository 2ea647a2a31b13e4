-- What a page call for many windows answers and writes.
-- Order of refusals: 2 for the table, 15, 19, 2 for the outputs, 14.
use Rattle.std.specs.Prelude.{ℕ, ◌+◌, Bool, ◌&&◌, List, [], ◌∷◌, ◌++◌, length, take, drop, leb}
use Rattle.basics.specs.Choice.{pick}
use Rattle.basics.specs.Refusals.{Reply, answered, refused, and_then}
use Rattle.definitions.specs.Definitions.{table}
use Rattle.pairs.specs.Words.{charset_of}
use Rattle.table.specs.Check.{lent_table}
use Rattle.rules.specs.declared.Answer.{Answer}
use Rattle.rules.specs.Rules.{lookup}
use Rattle.lookup.specs.Calls.{first_no_scalar, unless_at, Pages}
use Rattle.windows.specs.declared.Window.{Window}

-- the window's part of the page
abbrev pub part_of : List ℕ → Window → List ℕ
part_of page w = take w.width (drop w.start page)

-- the parts of all windows, one after another
unfoldable pub parts_of : List ℕ → List Window → List ℕ
parts_of page [] = []
parts_of page (w ∷ ws) = part_of page w ++ parts_of page ws

-- all widths together
unfoldable pub widths : List Window → ℕ
widths [] = 0
widths (w ∷ ws) = w.width + widths ws

-- a window within a page of n characters: its start plus its width is not beyond n
abbrev pub is_within : ℕ → Window → Bool
is_within n w = leb (w.start + w.width) n

-- 19 at the number of the first window that is not, the first of the list being number i
unfoldable pub all_within : ℕ → List Window → ℕ → Reply (Unit {0})
all_within n [] i = answered tt
all_within n (w ∷ ws) i =
    let rest : Reply (Unit {0}) = all_within n ws (i + 1) in
    pick (is_within n w) rest (refused 19 i)

-- two outputs that hold so many bytes
abbrev pub both_hold : ℕ → ℕ → ℕ → Bool
both_hold n cells rules = leb n cells && leb n rules

-- the call, for outputs of so many bytes: the lookup that fills them, or a refusal
unfoldable pub windows_plan : List Window → List ℕ → List ℕ → ℕ → ℕ → Reply (ℕ → Answer)
windows_plan ws words page cells rules =
    and_then (lent_table words) (λ ds.
    and_then (all_within (length page) ws 0) (λ u.
    pick (both_hold (widths ws) cells rules)
    (unless_at (first_no_scalar page 0) (lookup (charset_of words) (table ds)))
    (refused 2 0)))

-- what the call is to do: as a page call does by its plan, of the windows' parts one after another
abbrev pub PagesWindows : {A : Type 0} → (Reply (Unit {0}) → A) → List Window → List ℕ → List ℕ → List ℕ → List ℕ
    → A → List ℕ → List ℕ → Type 0
PagesWindows given ws words page cells rules =
    Pages given (windows_plan ws words page (length cells) (length rules)) (parts_of page ws) cells rules

-- two numbers a window, its start and its width; a last number without a second one is no window
unfoldable pub windows_of : List ℕ → List Window
windows_of [] = []
windows_of (start ∷ []) = []
windows_of (start ∷ width ∷ numbers) = record { start = start; width = width } ∷ windows_of numbers
