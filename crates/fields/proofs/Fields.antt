-- Where a mark stands, and what is left of a field without its blanks.
use Rattle.std.proofs.Common.{◌≡◌, refl, ℕ, ◌-◌, ◌≤◌, Bool, true, false, cond, List, length, take, drop, reverse, ltb, ap, sym, ◌∙◌, true≢false}
use Rattle.std.proofs.Common.{unwrap_or, Option, None, Some, is_some}
use Rattle.std.specs.Prelude.{◌==◌}
use Rattle.std.specs.List.{position_or_len, prefix_len}
use Rattle.std.proofs.lemmas.List.{take_rest}
use Rattle.std.proofs.lemmas.List.Folds.{length-prefix_len}
use borrow.Author.Tests.{ltb-false}
use Rattle.lines.specs.Words.{is_blank}
use Rattle.fields.specs.Fields.{mark_place, end_trimmed, trimmed}

module _ (mark : ℕ) (line : List ℕ) where
  -- how many bytes stand before the mark, or all
  abbrev before : ℕ
  before = position_or_len (λ b. b == mark) line

  pub mark_at : (end : ℕ) → mark_place mark line ≡ Some end → before ≡ end
  mark_at end = go (ltb before (length line))
    where
      go : (b : Bool) → cond b (Some before) None ≡ Some end → before ≡ end
      go true e = ap (λ (o : Option ℕ). unwrap_or o end) e
      go false e = absurd (true≢false (ap is_some (sym e)))

  pub mark_none : mark_place mark line ≡ None → length line ≤ before
  mark_none = go (ltb before (length line)) refl
    where
      go : (b : Bool) → ltb before (length line) ≡ b → cond b (Some before) None ≡ None → length line ≤ before
      go true t e = absurd (true≢false (ap is_some e))
      go false t e = ltb-false before (length line) t

pub trimmed_kept :
    (field front : List ℕ) (behind before : ℕ)
    → behind ≡ length (take (prefix_len is_blank (reverse field)) (reverse field))
    → before ≡ length (take (prefix_len is_blank front) front) → front ≡ take (length field - behind) field
    → take (length front - before) (drop before front) ≡ trimmed field
trimmed_kept field front behind before b f is =
    let end : front ≡ end_trimmed field =
    is ∙ ap (λ n. take (length field - n) field) (b ∙ length-prefix_len is_blank (reverse field))
    in
    take_rest front before ∙ ap (λ n. drop n front) (f ∙ length-prefix_len is_blank front) ∙ ap (λ l. drop (prefix_len is_blank l) l) end
