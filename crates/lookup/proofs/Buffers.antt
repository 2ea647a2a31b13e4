-- A lent buffer that is filled from the front, an element for each element of a list.
use Prim.Native.Nat.{ℕ, suc, ◌+◌, ◌≤◌, ◌<◌}
use mathlib.Core.Path.{◌≡◌, sym, ◌∙◌}
use mathlib.Core.List.{List, [], ◌∷◌, ◌++◌, map, map-append, append_assoc}
use native.Mathlib.Omega.{arith}
use native.Mathlib.Numerals.{add-one}
use lib.ListN.{length, get_or, take, drop, set, length-map}
use lib.Seq.{drop-cons, take-suc, take_all, set_at, length-take-le}
use Rattle.basics.specs.Buffers.{over}

-- a buffer whose first i elements are filled
abbrev pub filled_to : {A : Type 0} → (A → ℕ) → List A → ℕ → List ℕ → List ℕ
filled_to f l i old = map f (take i l) ++ drop i old

module _ {A : Type 0} (f : A → ℕ) (l : List A) (old : List ℕ) (i : ℕ) where
  pub filled_more : (d : A) {new : List ℕ} {v : ℕ} → i < length l → length l ≤ length old → new ≡ filled_to f l i old → v ≡ f (get_or l i d)
      → set new i v ≡ filled_to f l (i + 1) old
  filled_more d h k e p =
      let g : i < length old = omega arith in
      let front : length (map f (take i l)) ≡ i = length-map (take i l) f ∙ length-take-le i l (omega arith) in
      rw (e, p, add-one i, drop-cons old i 0 g, take-suc l i d h, map-append f (take i l) (get_or l i d ∷ []))
      (set_at (map f (take i l)) (get_or old i 0) (drop (suc i) old) (f (get_or l i d)) i front
      ∙ sym (append_assoc (map f (take i l)) (f (get_or l i d) ∷ []) (drop (suc i) old)))

  pub filled_all : {new : List ℕ} → i ≤ length l → length l ≤ i → new ≡ filled_to f l i old → new ≡ over (map f l) old
  filled_all h g e =
      let p : i ≡ length l = omega arith in
      e ∙ rw (p, take_all (length l) l (omega arith), length-map l f)
