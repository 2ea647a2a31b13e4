-- Where words begin and end, as the first byte that passes a test; and the spelling of words, as equal lists.
use Rattle.std.proofs.Common.{◌≡◌, refl, sym, ◌∙◌, ℕ, ◌+◌, ◌≤◌, true, false, not, List, [], ◌∷◌, Option, length, drop, arith}
use Rattle.std.specs.List.{position, position_or_len}
use Rattle.std.specs.Option.{unwrap_or}
use Rattle.std.specs.Cmp.Lexicographic.{pointwise}
use Rattle.std.proofs.Math.Nat.{add-zero}
use lib.Dec.{eqb}
use Rattle.basics.proofs.Tests.{by_cases}
use Rattle.utf8.proofs.Positions.{end_of, first_from, first_within}
use Rattle.lines.specs.Words as W
use Rattle.lines.specs.Words.{is_blank, first_at, word_at, same_bytes}
use Rattle.lines.specs.Internal.{FirstAt, NextWord}

space_end : (bs : List ℕ) (i : ℕ) → W.first_from false bs i ≡ i + position_or_len (λ b. not (is_blank b)) bs
unfolding W.first_from
space_end [] i = sym (add-zero i)
space_end (b ∷ bs) i =
    by_cases (is_blank b)
    (λ q. rw q (omega (arith, space_end bs (i + 1))))
    (λ q. rw q (sym (add-zero i)))

word_end : (bs : List ℕ) (i : ℕ) → W.first_from true bs i ≡ i + position_or_len is_blank bs
unfolding W.first_from
word_end [] i = sym (add-zero i)
word_end (b ∷ bs) i =
    by_cases (is_blank b)
    (λ q. rw q (sym (add-zero i)))
    (λ q. rw q (omega (arith, word_end bs (i + 1))))

-- n is what `position` answers of the line from `at` on, or how many bytes there are
module _ (line : List ℕ) (at n : ℕ) (r : Option ℕ) (h : at ≤ length line) (is : n ≡ unwrap_or r (length (end_of line at))) where
  pub word_first : r ≡ position (λ b. not (is_blank b)) (end_of line at) → FirstAt false line at (at + n)
  unfolding first_at
  word_first e = record {
    is = first_from (λ b. not (is_blank b)) line at n r is e ∙ sym (space_end (drop at line) at);
    from = omega arith;
    within = first_within (λ b. not (is_blank b)) line at n r is e h;
  }

  pub blank_first : r ≡ position is_blank (end_of line at) → FirstAt true line at (at + n)
  unfolding first_at
  blank_first e = record {
    is = first_from is_blank line at n r is e ∙ sym (word_end (drop at line) at);
    from = omega arith;
    within = first_within is_blank line at n r is e h;
  }

pub word_found : (line : List ℕ) (at start end : ℕ) → FirstAt false line at start → FirstAt true line start end
    → NextWord line at (record { start = start; end = end })
unfolding word_at
word_found line at start end s e = record { is = rw (← s.is, ← e.is); from = s.from; order = e.from; within = e.within }

-- `==` of two slices
pub same_lem : (xs ys : List ℕ) → pointwise eqb xs ys ≡ same_bytes xs ys
unfolding same_bytes
same_lem [] [] = refl
same_lem [] (y ∷ ys) = refl
same_lem (x ∷ xs) [] = refl
same_lem (x ∷ xs) (y ∷ ys) = by_cases (eqb x y) (λ q. rw q (same_lem xs ys)) (λ q. rw q)
