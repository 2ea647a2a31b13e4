-- Where a line ends, as the first LF, and the CR at a line's end by position.
use Rattle.std.proofs.Common.{◌≡◌, refl, sym, ap, ◌∙◌, ℕ, suc, ◌+◌, ◌-◌, ◌≤◌, ◌<◌, List, [], ◌∷◌, Option, length, take, drop, get_or, arith}
use Rattle.std.specs.List.{position, position_or_len}
use Rattle.std.specs.Option.{unwrap_or}
use borrow.Author.Tests.{eq-eqb, ne_eqb}
use lib.Dec.{eqb}
use Rattle.basics.proofs.Tests.{by_cases}
use Rattle.utf8.proofs.Positions.{end_of, first_from, first_within}
use Rattle.lines.specs.Lines.{LF, CR, without_cr}
use Rattle.lines.specs.Internal.{to_lf, LineEnd}
use Rattle.lines.specs.Texts.{column_of}

to_lf_lem : (bs : List ℕ) → to_lf bs ≡ position_or_len (λ b. eqb b LF) bs
unfolding to_lf
to_lf_lem [] = refl
to_lf_lem (b ∷ bs) = by_cases (eqb b LF) (λ q. rw q) (λ q. rw q (omega (arith, to_lf_lem bs)))

-- n is what `position` answers of the text from `at` on, or how many bytes there are
pub lf_first : (text : List ℕ) (at n : ℕ) (r : Option ℕ) → at ≤ length text → n ≡ unwrap_or r (length (end_of text at))
    → r ≡ position (λ b. eqb b LF) (end_of text at) → LineEnd text at (at + n)
lf_first text at n r h is e = record {
  is = first_from (λ b. eqb b LF) text at n r is e ∙ ap (λ k. at + k) (sym (to_lf_lem (drop at text)));
  from = omega arith;
  within = first_within (λ b. eqb b LF) text at n r is e h;
}

-- the last byte is the rest's last byte
last_on : (r : List ℕ) → suc (suc (length r)) - 1 ≡ suc (suc (length r) - 1)
last_on r = omega arith

pub cr_last : (line : List ℕ) → get_or line (length line - 1) 0 ≡ CR → take (length line - 1) line ≡ without_cr line
unfolding without_cr
cr_last [] q = refl
cr_last (b ∷ []) q = rw (eq-eqb _ _ q)
cr_last (b ∷ c ∷ r) q = rw (last_on r) (ap (λ (l : List ℕ). b ∷ l) (cr_last (c ∷ r) (rw (last_on r) at q)))

pub cr_none : (line : List ℕ) → (get_or line (length line - 1) 0 ≡ CR → ⊥) → line ≡ without_cr line
unfolding without_cr
cr_none [] q = refl
cr_none (b ∷ []) q = rw (ne_eqb _ _ q)
cr_none (b ∷ c ∷ r) q = ap (λ (l : List ℕ). b ∷ l) (cr_none (c ∷ r) (rw (last_on r) at q))

pub cr_short : (line : List ℕ) → length line < 1 → line ≡ without_cr line
unfolding without_cr
cr_short [] h = refl
cr_short (b ∷ bs) h = absurd (omega arith)

pub ruleset cr_cases = (cr_last, cr_none, cr_short)

-- the column that is counted in a line without its CR, as `column_of` promises it
pub column_at : (line front : List ℕ) (left : ℕ) {r : ℕ} → front ≡ without_cr line → r ≡ length front - left + 1 → r ≡ column_of (without_cr line) left
column_at line front left e h = rw (← e) h
