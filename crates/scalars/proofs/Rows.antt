-- What a look through rows goes by, by a loop or by a call that finds the first that passes.
use Rattle.std.proofs.Common.{◌≡◌, ℕ, ◌+◌, ◌<◌, ◌≤◌, Bool, List, [], ◌∷◌, Option, None, Some, MatchOption, IsSomeAnd, length, get_or, drop, find}
use Rattle.std.proofs.Common.{option_map, add-one, drop-cons, drop_of_length-le, ap, sym, ◌∙◌}
use Rattle.basics.specs.Choice.{pick, if_some}
use Rattle.basics.proofs.Tests.{by_cases}

-- f is taken of the rows from i on, and x is what the loop is to answer
module _ {X A : Type 0} (f : List X → A) (l : List X) (i : ℕ) (d : X) {x v : A} (inv : f (drop i l) ≡ x) where
  pub next_row : i < length l → v ≡ f (get_or l i d ∷ drop (i + 1) l) → v ≡ x
  next_row h e = e ∙ ap f (rw (drop-cons l i d, add-one i)) ∙ inv

  pub rows_over : length l ≤ i → v ≡ f [] → v ≡ x
  rows_over h e = e ∙ ap f (rw (drop_of_length-le l h)) ∙ inv

-- f is taken of rows, by the first that passes: hit reads that row, and miss stands where none passes
module _ {X Z : Type 0} (f : List X → Z) (test : X → Bool) (hit : X → Z) (miss : Z) (none : f [] ≡ miss)
    (step : (x : X) (l : List X) → f (x ∷ l) ≡ pick (test x) (hit x) (f l)) where
  by_first : (rows : List X) → f rows ≡ if_some (find test rows) miss hit
  by_first [] = none
  by_first (x ∷ rows) = by_cases (test x) (λ e. rw (step x rows, e)) (λ e. rw (step x rows, e) (by_first rows))

  -- r is the row that a call found, by reference, and z what another call made of it
  pub read_first : {A : Type 0} (look : A → X) (P : A → Type 0) (rows : List X) (r : Option A) (z : Z) → option_map look r ≡ find test rows
      → MatchOption r (z ≡ miss) P
      → ((x : A) → P x → z ≡ hit (look x)) → z ≡ f rows
  read_first look P rows None z e h reads = h ∙ ap (λ (m : Option X). if_some m miss hit) e ∙ sym (by_first rows)
  read_first look P rows (Some x) z e h reads = reads x h ∙ ap (λ (m : Option X). if_some m miss hit) e ∙ sym (by_first rows)

-- what is made of a value that is there
pub some_of : {Y : Type 0} (P : Y → Type 0) (y : Y) (r : Option Y) → IsSomeAnd r P → ((z : Y) → P z → z ≡ y) → r ≡ Some y
some_of P y None h reads = absurd h
some_of P y (Some z) h reads = ap Some (reads z h)
