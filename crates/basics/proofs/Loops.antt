-- What a loop goes by that reads a list by position: `f` is taken of the elements from i on, of i and of the loop's state s; or of the elements
-- from the pair i on.
use Prim.Native.Nat.{ℕ, suc, ◌+◌, ◌*◌, ◌/◌, ◌≤◌, ◌<◌}
use mathlib.Core.Path.{◌≡◌, sym, ap, ◌∙◌}
use mathlib.Core.List.{List, [], ◌∷◌}
use native.Mathlib.Numerals.{add-one}
use native.Mathlib.Omega.{arith}
use lib.ListN.{length, drop, get_or, length-drop, drop_of_length-le}
use lib.Seq.{drop-cons}

module _ {S A : Type 0} (f : List ℕ → ℕ → S → A) (l : List ℕ) (i : ℕ) (s : S) {v : A} where
  pub at_element : i < length l → v ≡ f (get_or l i 0 ∷ drop (i + 1) l) i s → v ≡ f (drop i l) i s
  at_element h e = e ∙ rw (drop-cons l i 0, add-one i)

  pub at_end_lem : length l ≤ i → v ≡ f [] i s → v ≡ f (drop i l) i s
  at_end_lem h e = e ∙ rw (drop_of_length-le l h)

  -- x is what the loop is to answer
  module _ {x : A} (inv : f (drop i l) i s ≡ x) where
    pub next_element : i < length l → v ≡ f (get_or l i 0 ∷ drop (i + 1) l) i s → v ≡ x
    next_element h e = at_element h e ∙ inv

    pub no_element : length l ≤ i → v ≡ f [] i s → v ≡ x
    no_element h e = at_end_lem h e ∙ inv

-- ---- two elements at a time

pub two_more : (l : List ℕ) (j : ℕ) → j + 1 < length l → drop j l ≡ get_or l j 0 ∷ get_or l (j + 1) 0 ∷ drop (j + 2) l
two_more l j h =
    let p : j < length l = omega arith in
    let q : suc j < length l = omega arith in
    let a : j + 1 ≡ suc j = omega arith in
    let b : j + 2 ≡ suc (suc j) = omega arith in
    rw (a, b, drop-cons l j 0 p, drop-cons l (suc j) 0 q)

module _ {A : Type 0} (f : List ℕ → A) (l : List ℕ) (i : ℕ) {x : A} (inv : f (drop (2 * i) l) ≡ x) {v : A} where
  pub next_pair : i < length l / 2 → v ≡ f (get_or l (2 * i) 0 ∷ get_or l (2 * i + 1) 0 ∷ drop (2 * (i + 1)) l) → v ≡ x
  next_pair h e =
      let a : 2 * (i + 1) ≡ 2 * i + 2 = omega arith in
      e ∙ rw a (ap f (sym (two_more l (2 * i) (omega arith)))) ∙ inv

  -- what is left has no whole pair
  pub no_pair : length l / 2 ≤ i → ((rest : List ℕ) → length rest < 2 → v ≡ f rest) → v ≡ x
  no_pair h e = e (drop (2 * i) l) (simp length-drop (omega arith)) ∙ inv
