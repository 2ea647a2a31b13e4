-- What `position` answers of the end of a slice, as the number of elements before the first that passes.
use Rattle.std.proofs.Common.{◌≡◌, ℕ, ◌+◌, ◌-◌, ◌≤◌, List, Bool, Option, length, take, drop, not, arith}
use Rattle.std.specs.List.{position, position_or_len}
use Rattle.std.specs.Option.{unwrap_or}
use Rattle.std.proofs.Math.Seq.{take-length}
use Rattle.std.proofs.lemmas.List.{length-drop}
use Rattle.std.proofs.lemmas.List.Sums.{prefix_len-le-length}
use borrow.Author.Tests.{ltb-false}
use lib.Dec.{ltb}
use Rattle.basics.proofs.Tests.{by_cases}

-- `&line[from..]`
abbrev pub end_of : {X : Type 0} → List X → ℕ → List X
end_of line from = take (length line - from) (drop from line)

pub end_of_lem : {X : Type 0} (line : List X) (from : ℕ) → end_of line from ≡ drop from line
end_of_lem line from = rw (← length-drop from line) (take-length (drop from line))

-- r is what a call answered: the place of the first that passes, or the length where none does
module _ {X : Type 0} (test : X → Bool) where
  pub first_place : (xs : List X) (r : Option ℕ) → r ≡ position test xs → unwrap_or r (length xs) ≡ position_or_len test xs
  first_place xs r e =
      by_cases (ltb (position_or_len test xs) (length xs))
      (λ q. rw (e, q))
      (λ q. rw (e, q) (omega (arith, ltb-false (position_or_len test xs) (length xs) q, prefix_len-le-length (λ x. not (test x)) xs)))

  -- n is that place, counted in the end of a slice: here counted from the slice's front
  module _ (line : List X) (from n : ℕ) (r : Option ℕ) (is : n ≡ unwrap_or r (length (end_of line from))) (e : r ≡ position test (end_of line from)) where
    pub first_from : from + n ≡ from + position_or_len test (drop from line)
    first_from = rw (is, first_place (end_of line from) r e, end_of_lem line from)

    pub first_within : from ≤ length line → from + n ≤ length line
    first_within h = rw first_from (omega (arith, length-drop from line, prefix_len-le-length (λ x. not (test x)) (drop from line)))
