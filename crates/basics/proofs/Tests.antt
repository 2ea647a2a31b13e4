-- What turns the facts of branches, calls and matches into the equations that a definition goes by, and what holds of a choice.
use Prim.Native.Nat.{ℕ, zero, suc, ◌<◌}
use mathlib.Core.Path.{◌≡◌, refl, sym, ◌∙◌}
use mathlib.Core.Bool.{Bool, true, false, ◌&&◌}
use mathlib.Core.List.{List, map}
use native.Mathlib.Omega.{arith}
use lib.Dec.{eqb}
use lib.ListN.{length, length-map}
use borrow.Author.Tests.{lt-ltb, le-ltb, le-leb, lt-leb, eq-eqb, ne_eqb, eqb-true, eqb-false}
use Rattle.basics.specs.Choice.{pick, if_some, if_ok}
use Rattle.std.specs.Prelude.{Option, None, Some, Result, Ok, Err}

pub ruleset tests = (lt-ltb, le-ltb, le-leb, lt-leb, eq-eqb, ne_eqb)

-- what a call ensures of its result, and what is known of that result: so much is known of the definition
pub told {ℓ} : {A : Type ℓ} {r x v : A} → r ≡ x → r ≡ v → x ≡ v
told p q = sym p ∙ q

-- r is what a call answered of a test
module _ {A : Type 0} (r t : Bool) (a b v : A) (e : r ≡ t) where
  pub chosen_first : r ≡ true → v ≡ a → v ≡ pick t a b
  chosen_first q h = rw (← e, q) h

  pub chosen_other : r ≡ false → v ≡ b → v ≡ pick t a b
  chosen_other q h = rw (← e, q) h

pub ruleset chosen = (chosen_first, chosen_other)

-- r is what a call answered of a value that there may be
module _ {A B : Type 0} (r m : Option A) (none : B) (some : A → B) (v : B) (e : r ≡ m) where
  pub value_none : r ≡ None → v ≡ none → v ≡ if_some m none some
  value_none q h = rw (← e, q) h

  pub value_some : (a : A) → r ≡ Some a → v ≡ some a → v ≡ if_some m none some
  value_some a q h = rw (← e, q) h

pub ruleset on_value = (value_none, value_some)

-- r is what a call answered that may fail
module _ {A B E : Type 0} (r m : Result A E) (more : A → Result B E) (v : Result B E) (e : r ≡ m) where
  pub result_ok : (a : A) → r ≡ Ok a → v ≡ more a → v ≡ if_ok m more
  result_ok a q h = rw (← e, q) h

  pub result_err : (f : E) → r ≡ Err f → v ≡ Err f → v ≡ if_ok m more
  result_err f q h = rw (← e, q) h

pub ruleset on_result = (result_ok, result_err)

-- x is the case k, and f goes by the case
pub as_told : {A B : Type 0} (f : A → B) {x k : A} {v : B} → x ≡ k → v ≡ f k → v ≡ f x
as_told f q h = rw q h

-- a test holds or not
pub by_cases : {A : Type 0} (b : Bool) → (b ≡ true → A) → (b ≡ false → A) → A
by_cases true p q = p refl
by_cases false p q = q refl

-- what holds of either choice, each by its test, holds of the choice
pub by_test : {A : Type 0} (P : A → Type 0) (b : Bool) {x y : A} → (b ≡ true → P x) → (b ≡ false → P y) → P (pick b x y)
by_test P b p q = by_cases b (λ e. rw e (p e)) (λ e. rw e (q e))

-- and so does what holds of both
pub either : {A : Type 0} (P : A → Type 0) (b : Bool) {x y : A} → P x → P y → P (pick b x y)
either P b p q = by_test P b (λ e. p) (λ e. q)

-- a choice between two that are the same
pub same_twice : {A : Type 0} (b : Bool) (a : A) → pick b a a ≡ a
same_twice b a = either (λ x. x ≡ a) b refl refl

-- r is what a call answered of the first of two tests
module _ (r s t v : Bool) (e : r ≡ s) where
  pub and_holds : r ≡ true → v ≡ t → v ≡ (s && t)
  and_holds q h = rw (← e, q) h

  pub and_fails : r ≡ false → v ≡ false → v ≡ (s && t)
  and_fails q h = rw (← e, q) h

pub ruleset on_both = (and_holds, and_fails)

-- both halves of a test that holds
pub both : (s t : Bool) → (s && t) ≡ true → (s ≡ true) × (t ≡ true)
both true t q = (refl, q)
both false t q = (cc, cc)

-- a test of all numbers below one: where it computes to true, it holds of each
abbrev pub all_below : ℕ → (ℕ → Bool) → Bool
all_below zero f = true
all_below (suc m) f = f m && all_below m f

pub below : (m : ℕ) (f : ℕ → Bool) → all_below m f ≡ true → (n : ℕ) → n < m → f n ≡ true
below zero f e n h = absurd (omega arith)
below (suc m) f e n h =
    by_cases (eqb n m)
    (λ p. rw (eqb-true n m p) (both (f m) (all_below m f) e).0)
    (λ p. below m f (both (f m) (all_below m f) e).1 n (omega (arith, eqb-false n m p)))

-- the length of an array of structs that is a field
pub length_field : (X Y : Type 0) (f : X → Y) (l : List X) (n : ℕ) → length (map f l) ≡ n → length l ≡ n
length_field X Y f l n e = sym (length-map l f) ∙ e
