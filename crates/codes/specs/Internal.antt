-- What the code knows beyond the answers: numbers that have room.
use Rattle.std.specs.Prelude.{ℕ, ◌^◌, ◌<◌, ◌≡◌, List, length, get_or, Option}
use Rattle.typing.specs.Typing.{nothing}
use Rattle.codes.specs.Codes.{cell_count, entry_code}

-- there are 256 entries, and what each of them types is a number of 32 bits
pub record EntriesFit (es : List (Option ℕ)) : Type 0 where
  pub size : length es ≡ cell_count
  pub each : (cell : ℕ) → cell < cell_count → entry_code (get_or es cell nothing) < 2 ^ 32
