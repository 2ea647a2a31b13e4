-- Answers that are kept: what they begin with, what is found for a character, and one more of them.
use Rattle.std.proofs.Common.{ℕ, zero, suc, ◌≡◌, refl, sym, ap, List, ◌∷◌, map, set, replicate}
use Rattle.std.proofs.lemmas.List.{map-set}
use Rattle.rules.specs.declared.Answer.{Answer}
use Rattle.by_order.specs.declared.Shown.{Shown}
use Rattle.by_order.specs.Internal.{shown_of, Kept}

map_replicate : (f : ℕ → ℕ) (n x : ℕ) → map f (replicate n x) ≡ replicate n (f x)
map_replicate f zero x = refl
map_replicate f (suc n) x = ap (λ (r : List ℕ). f x ∷ r) (map_replicate f n x)

module _ (look : ℕ → Answer) where
  -- the parts of what is shown for a character
  module _ {s : Shown} {c : ℕ} (e : s ≡ shown_of look c) where
    pub shown_cell : s.cell ≡ (look c).cell
    shown_cell = rw e

    pub shown_rule : s.rule ≡ (look c).rule
    shown_rule = rw e

    pub kept_first : (n : ℕ) → Kept look (replicate n c) (replicate n s.cell) (replicate n s.rule)
    kept_first n = record {
      cells_right = rw shown_cell (sym (map_replicate (λ (x : ℕ). (look x).cell) n c));
      rules_right = rw shown_rule (sym (map_replicate (λ (x : ℕ). (look x).rule) n c));
    }

  module _ {seen cells rules : List ℕ} (kept : Kept look seen cells rules) (slot : ℕ) where
    pub kept_more : {s : Shown} {c : ℕ} → s ≡ shown_of look c → Kept look (set seen slot c) (set cells slot s.cell) (set rules slot s.rule)
    kept_more {s} {c} e = record {
      cells_right = rw (shown_cell e, kept.cells_right) (sym (map-set (λ (x : ℕ). (look x).cell) seen slot c));
      rules_right = rw (shown_rule e, kept.rules_right) (sym (map-set (λ (x : ℕ). (look x).rule) seen slot c));
    }
