-- The UTF-8 forms by their bytes: `encoded` writes a form of each scalar value, and every form is what `encoded` writes.
use Prim.Native.Nat.{ℕ, ◌+◌, ◌-◌, ◌*◌, ◌/◌, ◌%◌, ◌≤◌, ◌<◌}
use mathlib.Core.Path.{◌≡◌, refl, sym}
use mathlib.Core.Logic.{◌≢◌}
use mathlib.Core.Bool.{true}
use mathlib.Core.List.{List, [], ◌∷◌}
use native.Mathlib.Omega.{arith}
use lib.ListN.{length}
use lib.Dec.{ltb, leb, eqb}
use borrow.Author.Tests.{ltb-true, ltb-false, leb-true, eqb-true, eqb-false, lt-ltb, le-ltb, le-leb}
use Rattle.basics.specs.Choice.{pick}
use Rattle.basics.proofs.Tests.{by_cases, by_test, both}
use Rattle.scalars.specs.Characters.{is_scalar}
use Rattle.encoding.specs.Encoding.{encoded, IsForm}

-- a case by whether a number is below another
pub by_bound : {P : Type 0} (a b : ℕ) → (a < b → P) → (b ≤ a → P) → P
by_bound a b below from = by_cases (ltb a b) (λ e. below (ltb-true a b e)) (λ e. from (ltb-false a b e))

-- what holds of either choice between two by such a case, or by whether a number is another, holds of the choice
module _ {A : Type 0} (P : A → Type 0) (a b : ℕ) {x y : A} where
  pub if_below : (a < b → P x) → (b ≤ a → P y) → P (pick (ltb a b) x y)
  if_below below from = by_test P (ltb a b) (λ e. below (ltb-true a b e)) (λ e. from (ltb-false a b e))

  pub if_same : (a ≡ b → P x) → (a ≢ b → P y) → P (pick (eqb a b) x y)
  if_same same other = by_test P (eqb a b) (λ e. same (eqb-true a b e)) (λ e. other (eqb-false a b e))

-- a scalar value by bounds; the surrogates, U+D800 to U+DFFF, are what gives 27 by 2,048
pub record Bounds (c : ℕ) : Type 0 where
  pub no_surrogate : c / 2048 ≢ 27
  pub no_higher : c < 0x110000

scalar_bounds : (c : ℕ) → is_scalar c ≡ true → Bounds c
scalar_bounds c h =
    by_bound c 0xD800
    (λ l. omega arith)
    (λ l.
    let e = both (leb 0xE000 c) (ltb c 0x110000) (rw (le-ltb c 0xD800 l) at h) in
    omega (arith, leb-true 0xE000 c e.0, ltb-true c 0x110000 e.1))

bounds_scalar : (c : ℕ) → Bounds c → is_scalar c ≡ true
bounds_scalar c s =
    by_bound c 0xD800
    (λ h. rw (lt-ltb c 0xD800 h))
    (λ h. rw (le-ltb c 0xD800 h, le-leb 0xE000 c (omega arith), lt-ltb c 0x110000 s.no_higher))

-- a byte after the first
pub record Further (y : ℕ) : Type 0 where
  pub from : 0x80 ≤ y
  pub to : y ≤ 0xBF

-- the second byte of three: no shorter form could say the character, and it is no surrogate
pub record SecondOfThree (b y : ℕ) : Type 0 where
  pub further : Further y
  pub shortest : 32 ≤ (b - 0xE0) * 64 + (y - 0x80)
  pub no_surrogate : ((b - 0xE0) * 64 + (y - 0x80)) / 32 ≢ 27

-- the second byte of four: no shorter form could say the character, and it is at most U+10FFFF
pub record SecondOfFour (b y : ℕ) : Type 0 where
  pub further : Further y
  pub shortest : 16 ≤ (b - 0xF0) * 64 + (y - 0x80)
  pub no_higher : (b - 0xF0) * 64 + (y - 0x80) < 0x110

-- the bytes of c
pub record One (c b : ℕ) : Type 0 where
  pub is : c ≡ b
  pub below : b < 0x80

pub record Two (c b y : ℕ) : Type 0 where
  pub is : c ≡ (b - 0xC0) * 64 + (y - 0x80)
  pub from : 0xC2 ≤ b
  pub below : b < 0xE0
  pub second : Further y

pub record Three (c b y z : ℕ) : Type 0 where
  pub is : c ≡ (b - 0xE0) * 4096 + (y - 0x80) * 64 + (z - 0x80)
  pub from : 0xE0 ≤ b
  pub below : b < 0xF0
  pub second : SecondOfThree b y
  pub third : Further z

pub record Four (c b y z w : ℕ) : Type 0 where
  pub is : c ≡ (b - 0xF0) * 262144 + (y - 0x80) * 4096 + (z - 0x80) * 64 + (w - 0x80)
  pub from : 0xF0 ≤ b
  pub below : b < 0xF5
  pub second : SecondOfFour b y
  pub third : Further z
  pub fourth : Further w

pub data Form (c : ℕ) : List ℕ → Type 0 where
  one : {b : ℕ} → One c b → Form c (b ∷ [])
  two : {b y : ℕ} → Two c b y → Form c (b ∷ y ∷ [])
  three : {b y z : ℕ} → Three c b y z → Form c (b ∷ y ∷ z ∷ [])
  four : {b y z w : ℕ} → Four c b y z w → Form c (b ∷ y ∷ z ∷ w ∷ [])

-- what is written for a character is a form of it
bounds_form : (c : ℕ) → Bounds c → Form c (encoded c)
unfolding encoded
bounds_form c s =
    if_below (Form c) c _ (λ h. one (record { is = refl; below = h }))
    (λ h. if_below (Form c) c _ (λ k. two (omega arith))
    (λ k. if_below (Form c) c _ (λ l. three (omega arith))
    (λ l.
    let d : c / 4096 ≡ c / 262144 * 64 + c / 4096 % 64 = omega arith in
    let e : c / 64 ≡ c / 4096 * 64 + c / 64 % 64 = omega arith in
    four (omega arith))))

form_bounds : {c : ℕ} {f : List ℕ} → Form c f → Bounds c
form_bounds (one r) = omega arith
form_bounds (two r) = omega arith
form_bounds (three r) = omega arith
form_bounds (four r) = omega arith

pub form_length : {c : ℕ} {f : List ℕ} → Form c f → 0 < length f
form_length (one r) = omega arith
form_length (two r) = omega arith
form_length (three r) = omega arith
form_length (four r) = omega arith

-- a form is what is written for its character
form_encoded : {c : ℕ} {f : List ℕ} → Form c f → encoded c ≡ f
unfolding encoded
form_encoded {c} (one {b} r) = rw (lt-ltb c 0x80 (omega arith), r.is)
form_encoded {c} (two {b} {y} r) =
    let p : 0xC0 + c / 64 ≡ b = omega arith in
    let q : 0x80 + c % 64 ≡ y = omega arith in
    rw (le-ltb c 0x80 (omega arith), lt-ltb c 0x800 (omega arith), p, q)
form_encoded {c} (three {b} {y} {z} r) =
    let o : 0xE0 + c / 4096 ≡ b = omega arith in
    let p : 0x80 + c / 64 % 64 ≡ y = omega arith in
    let q : 0x80 + c % 64 ≡ z = omega arith in
    rw (le-ltb c 0x80 (omega arith), le-ltb c 0x800 (omega arith), lt-ltb c 0x10000 (omega arith), o, p, q)
form_encoded {c} (four {b} {y} {z} {w} r) =
    let n : 0xF0 + c / 262144 ≡ b = omega arith in
    let o : 0x80 + c / 4096 % 64 ≡ y = omega arith in
    let p : 0x80 + c / 64 % 64 ≡ z = omega arith in
    let q : 0x80 + c % 64 ≡ w = omega arith in
    rw (le-ltb c 0x80 (omega arith), le-ltb c 0x800 (omega arith), le-ltb c 0x10000 (omega arith), n, o, p, q)

-- so bytes are of that shape exactly if they are what is written for a scalar value
pub encoded_form : (c : ℕ) → is_scalar c ≡ true → Form c (encoded c)
encoded_form c h = bounds_form c (scalar_bounds c h)

pub form_of : {c : ℕ} {f : List ℕ} → IsForm c f → Form c f
form_of {c} h = rw h.form (encoded_form c h.scalar)

pub form_is : {c : ℕ} {f : List ℕ} → Form c f → IsForm c f
form_is {c} h = record { scalar = bounds_scalar c (form_bounds h); form = sym (form_encoded h) }
