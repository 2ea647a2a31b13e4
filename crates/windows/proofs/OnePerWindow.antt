-- An accepted call for many windows equals one page call per window in list order.
use Prim.Native.Nat.{ℕ, zero, suc, ◌+◌, ◌≤◌}
use mathlib.Core.Path.{◌≡◌, refl, sym, ap, ◌∙◌}
use mathlib.Core.Bool.{true}
use mathlib.Core.List.{List, [], ◌∷◌, ◌++◌, map, map-append}
use native.Mathlib.Omega.{arith}
use lib.ListN.{length, take, drop, length-map, length-drop}
use lib.Seq.{length-take-le}
use borrow.Author.Tests.{le-ltb}
use Rattle.basics.proofs.Tests.{by_cases}
use Rattle.basics.specs.Refusals.{Reply, answered, refused}
use Rattle.basics.specs.Buffers.{over}
use Rattle.scalars.specs.Characters.{is_scalar}
use Rattle.definitions.specs.declared.Definition.{Definition}
use Rattle.definitions.specs.Definitions.{table}
use Rattle.pairs.specs.Words.{charset_of}
use Rattle.table.specs.Check.{lent_table}
use Rattle.std.specs.Prelude.{Option, None, Some}
use Rattle.rules.specs.declared.Answer.{Answer}
use Rattle.rules.specs.Rules.{lookup}
use Rattle.lookup.specs.Calls.{first_no_scalar, page_plan, page_reply, page_cells, page_rules}
use Rattle.windows.specs.declared.Window.{Window}
use Rattle.windows.specs.Windows.{part_of, parts_of, widths, all_within, both_hold, windows_plan}
use Rattle.windows.specs.OnePerWindow.{Call, called, page_call, followed_by, one_per_window, EqualsOnePerWindow}
use Rattle.windows.proofs.Outputs.{part_length, over_more, over_whole}
use Rattle.windows.proofs.Lists.{each_holds, within_rest}

-- ---- a part of a page of scalar values is one

scalar_first : (c : ℕ) (cs : List ℕ) (i : ℕ) → first_no_scalar (c ∷ cs) i ≡ None → (is_scalar c ≡ true) × (first_no_scalar cs (i + 1) ≡ None)
unfolding first_no_scalar
scalar_first c cs i o = by_cases (is_scalar c) (λ e. (e, rw e at o)) (λ e. let p : Some i ≡ None = rw e at o in cc)

taken : (k : ℕ) (cs : List ℕ) (i j : ℕ) → first_no_scalar cs i ≡ None → first_no_scalar (take k cs) j ≡ None
unfolding first_no_scalar
taken zero cs i j o = refl
taken (suc k) [] i j o = refl
taken (suc k) (c ∷ cs) i j o =
    let f = scalar_first c cs i o in
    rw f.0 (taken k cs (i + 1) (j + 1) f.1)

-- the first k of what follows the first s
part_scalars : (s k : ℕ) (cs : List ℕ) (i : ℕ) → first_no_scalar cs i ≡ None → first_no_scalar (take k (drop s cs)) 0 ≡ None
part_scalars zero k cs i o = taken k cs i 0 o
part_scalars (suc s) k [] i o = taken k [] i 0 o
part_scalars (suc s) k (c ∷ cs) i o = part_scalars s k cs (i + 1) (scalar_first c cs i o).1

-- ---- page calls one after another

-- what is known of an accepted call
module _ (words page : List ℕ) (ds : List Definition) (sound : lent_table words ≡ answered ds) (scalars : first_no_scalar page 0 ≡ None) where
  abbrev cell_of : ℕ → ℕ
  cell_of c = (lookup (charset_of words) (table ds) c).cell

  abbrev rule_of : ℕ → ℕ
  rule_of c = (lookup (charset_of words) (table ds) c).rule

  planned : (part : List ℕ) (cells rules : ℕ) → length part ≤ cells → length part ≤ rules → first_no_scalar part 0 ≡ None
      → page_plan words part cells rules ≡ answered (lookup (charset_of words) (table ds))
  unfolding page_plan
  planned part cells rules h g e = rw (le-ltb cells (length part) h, le-ltb rules (length part) g, sound, e)

  -- a page call on a part of the page, with outputs that are as long
  accepted : (w : Window) (cells rules : List ℕ) → w.start + w.width ≤ length page → w.width ≤ length cells → w.width ≤ length rules
      → page_call words (part_of page w) (take w.width cells) (take w.width rules) ≡ called (answered tt) (map cell_of (part_of page w))
      (map rule_of (part_of page w))
  accepted w cells rules within h g =
      let part = part_of page w in
      let long : length part ≡ w.width = part_length page w within in
      let long-cells : length (take w.width cells) ≡ w.width = length-take-le w.width cells h in
      let long-rules : length (take w.width rules) ≡ w.width = length-take-le w.width rules g in
      let filled-cells : over (map cell_of part) (take w.width cells) ≡ map cell_of part =
      over_whole (map cell_of part) (take w.width cells) (omega (arith, long, long-cells, length-map part cell_of)) in
      let filled-rules : over (map rule_of part) (take w.width rules) ≡ map rule_of part =
      over_whole (map rule_of part) (take w.width rules) (omega (arith, long, long-rules, length-map part rule_of)) in
      rw (
        planned part (length (take w.width cells)) (length (take w.width rules)) (omega (arith, long, long-cells)) (omega (arith, long, long-rules))
            (part_scalars w.start w.width page 0 scalars),
        filled-cells,
        filled-rules,
      )

  -- the bytes of one part, then those of the others
  next_over : (f : ℕ → ℕ) (k : ℕ) (part others old : List ℕ) → length part ≡ k
      → map f part ++ over (map f others) (drop k old) ≡ over (map f (part ++ others)) old
  next_over f k part others old e =
      let long : k ≡ length (map f part) = sym (length-map part f ∙ e) in
      rw (map-append f part others, over_more (map f part) (map f others) old, long)

  one_by_one : (ws : List Window) (i : ℕ) (cells rules : List ℕ) → all_within (length page) ws i ≡ answered tt → widths ws ≤ length cells
      → widths ws ≤ length rules
      → one_per_window ws words page cells rules ≡ called (answered tt) (over (map cell_of (parts_of page ws)) cells)
      (over (map rule_of (parts_of page ws)) rules)
  unfolding one_per_window widths parts_of
  one_by_one [] i cells rules o h g = refl
  one_by_one (w ∷ ws) i cells rules o h g =
      let within = within_rest (length page) w ws i o in
      let long : length (part_of page w) ≡ w.width = part_length page w within.0 in
      let first = called (answered tt) (map cell_of (part_of page w)) (map rule_of (part_of page w)) in
      ap (λ (x : Call). followed_by x (one_per_window ws words page (drop w.width cells) (drop w.width rules)))
      (accepted w cells rules within.0 (omega arith) (omega arith))
      ∙ ap (λ (x : Call). followed_by first x)
      (one_by_one ws (i + 1) (drop w.width cells) (drop w.width rules) within.1 (simp length-drop (omega arith)) (simp length-drop (omega arith)))
      ∙ rw (next_over cell_of w.width (part_of page w) (parts_of page ws) cells long, next_over rule_of w.width (part_of page w) (parts_of page ws) rules long)

-- ---- the plan of an accepted call

module _ (ws : List Window) (words page cells rules : List ℕ) where
  abbrev plan : Reply (ℕ → Answer)
  plan = windows_plan ws words page (length cells) (length rules)

  -- by its plan, the call is one page call per window
  abbrev Equal : Type 0
  Equal =
      called (page_reply plan) (page_cells plan (parts_of page ws) cells) (page_rules plan (parts_of page ws) rules)
      ≡ one_per_window ws words page cells rules

  not_accepted : {number place : ℕ} → plan ≡ refused number place → page_reply plan ≡ answered tt → Equal
  not_accepted {number} {place} e o = let p : refused number place ≡ answered tt = rw e at o in cc

  by_scalars : (ds : List Definition) (s : Option ℕ) → lent_table words ≡ answered ds → all_within (length page) ws 0 ≡ answered tt
      → both_hold (widths ws) (length cells) (length rules) ≡ true
      → first_no_scalar page 0 ≡ s → page_reply plan ≡ answered tt → Equal
  unfolding windows_plan
  by_scalars ds None sound within roomy scalars o =
      let holds = each_holds (widths ws) (length cells) (length rules) roomy in
      rw (sound, within, roomy, scalars) (sym (one_by_one words page ds sound scalars ws 0 cells rules within holds.0 holds.1))
  by_scalars ds (Some i) sound within roomy scalars o = not_accepted {number = 14} {place = i} (rw (sound, within, roomy, scalars)) o

  by_windows : (ds : List Definition) (r : Reply (Unit {0})) → lent_table words ≡ answered ds → all_within (length page) ws 0 ≡ r
      → page_reply plan ≡ answered tt → Equal
  unfolding windows_plan
  by_windows ds (answered u) sound within o =
      by_cases (both_hold (widths ws) (length cells) (length rules))
      (λ roomy. by_scalars ds (first_no_scalar page 0) sound within roomy refl o)
      (λ roomy. not_accepted {number = 2} {place = 0} (rw (sound, within, roomy)) o)
  by_windows ds (refused number place) sound beyond o = not_accepted {number = number} {place = place} (rw (sound, beyond)) o

  by_table : (r : Reply (List Definition)) → lent_table words ≡ r → page_reply plan ≡ answered tt → Equal
  unfolding windows_plan
  by_table (answered ds) sound o = by_windows ds (all_within (length page) ws 0) sound refl o
  by_table (refused number place) e o = not_accepted {number = number} {place = place} (rw e) o

pub equals_one_per_window : EqualsOnePerWindow
equals_one_per_window ws words page cells rules new-cells new-rules call =
    rw (call.answer, call.cells, call.rules) (by_table ws words page cells rules (lent_table words) refl (sym call.answer))
