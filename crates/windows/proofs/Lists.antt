-- Lists of windows, window by window.
use Prim.Native.Nat.{ℕ, suc, ◌+◌, ◌-◌, ◌/◌, ◌≤◌, ◌<◌}
use mathlib.Core.Path.{◌≡◌, refl, sym, ap, ◌∙◌}
use mathlib.Core.Bool.{true, false, not}
use mathlib.Core.List.{List, [], ◌∷◌, map}
use native.Mathlib.Omega.{arith}
use native.Mathlib.Numerals.{add-one}
use lib.Dec.{leb}
use lib.ListN.{length, get_or, drop, get_or-map, length-map, drop_of_length-le}
use lib.Seq.{drop-cons}
use borrow.Author.Tests.{le-leb, lt-leb, leb-true}
use Rattle.std.specs.List.{position_from}
use Rattle.std.specs.Simd.{first_chunks}
use Rattle.std.proofs.Common.{min}
use Rattle.std.proofs.lemmas.Bool.Decides.{nat_tests}
use Rattle.basics.specs.Choice.{if_some}
use Rattle.basics.proofs.Tests.{by_cases}
use Rattle.basics.specs.Refusals.{answered, refused}
use Rattle.windows.specs.declared.Window.{Window}
use Rattle.windows.specs.Windows.{widths, is_within, all_within, both_hold, windows_of}
use Rattle.windows.specs.Internal.{pair_window}

-- what a loop over xs has before it: the window at number i, and those behind it
pub next_window : {A : Type 0} (window : A → Window) (xs : List A) (i : ℕ) {x : A} {w : Window} → i < length xs → x ≡ get_or xs i x → w ≡ window x
    → drop i (map window xs) ≡ w ∷ drop (i + 1) (map window xs)
next_window window xs i {x} h p e =
    let g : i < length (map window xs) = omega (arith, length-map xs window) in
    let here : get_or (map window xs) i (window x) ≡ window x = get_or-map window xs i x ∙ ap window (sym p) in
    rw (add-one i, e, drop-cons (map window xs) i (window x) g, here)

pub no_window : {A : Type 0} (window : A → Window) (xs : List A) (i : ℕ) → length xs ≤ i → drop i (map window xs) ≡ []
no_window window xs i h = drop_of_length-le (map window xs) {i = i} (omega (arith, length-map xs window))

-- ---- within the page

-- the windows behind one that is within the page
pub within_rest : (n : ℕ) (w : Window) (ws : List Window) (i : ℕ) → all_within n (w ∷ ws) i ≡ answered tt
    → (w.start + w.width ≤ n) × (all_within n ws (i + 1) ≡ answered tt)
unfolding all_within
within_rest n w ws i o =
    by_cases (is_within n w)
    (λ e. (leb-true (w.start + w.width) n e, rw e at o))
    (λ e. let p : refused 19 i ≡ answered tt = rw e at o in cc)

-- the first window beyond the page, as std finds it
pub first_beyond : {A : Type 0} (window : A → Window) (page : ℕ) (xs : List A) (i : ℕ)
    → if_some (position_from (λ x. not (is_within page (window x))) i xs) (answered tt) (λ k. refused 19 k) ≡ all_within page (map window xs) i
unfolding all_within
first_beyond window page [] i = refl
first_beyond window page (x ∷ xs) i =
    by_cases (is_within page (window x))
    (λ e. rw e (first_beyond window page xs (i + 1)))
    (λ e. rw e)

-- ---- their widths

-- two outputs that hold so many bytes, and the lesser of their lengths
pub hold_least : (n cells rules : ℕ) → leb n (min cells rules) ≡ both_hold n cells rules
hold_least n cells rules = grind (arith, nat_tests)

-- a sum that is not formed
leb_rest : (a b n : ℕ) → a ≤ n → leb b (n - a) ≡ leb (a + b) n
leb_rest a b n h = grind (arith, nat_tests)

pub each_holds : (n cells rules : ℕ) → both_hold n cells rules ≡ true → (n ≤ cells) × (n ≤ rules)
each_holds n cells rules e = grind (arith, nat_tests)

module _ (ws : List Window) (room i left : ℕ) (inv : leb (widths ws) room ≡ leb (widths (drop i ws)) left) where
  pub fit_next : {w : Window} {rest : ℕ} → drop i ws ≡ w ∷ drop (i + 1) ws → (w.width ≤ left) × (rest ≡ left - w.width)
      → leb (widths ws) room ≡ leb (widths (drop (i + 1) ws)) rest
  unfolding widths
  fit_next {w} next e = inv ∙ rw (next, e.1) (sym (leb_rest w.width (widths (drop (i + 1) ws)) left e.0))

  pub fit_no_more : {w : Window} → drop i ws ≡ w ∷ drop (i + 1) ws → (w.width ≤ left → ⊥) → false ≡ leb (widths ws) room
  unfolding widths
  fit_no_more {w} next e = sym (inv ∙ rw next (lt-leb (w.width + widths (drop (i + 1) ws)) left (omega arith)))

  pub fit_all : drop i ws ≡ [] → true ≡ leb (widths ws) room
  unfolding widths
  fit_all none = sym (inv ∙ rw none (le-leb 0 left (omega arith)))

-- ---- two numbers a window

pub numbers_pairs : (numbers : List ℕ) → map pair_window (first_chunks 2 (length numbers / 2) numbers) ≡ windows_of numbers
unfolding windows_of
numbers_pairs [] = refl
numbers_pairs (start ∷ []) = refl
numbers_pairs (start ∷ width ∷ numbers) =
    let e : suc (suc (length numbers)) / 2 ≡ suc (length numbers / 2) = omega arith in
    rw e (ap (λ (ws : List Window). record { start = start; width = width } ∷ ws) (numbers_pairs numbers))
