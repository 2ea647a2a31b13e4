-- How `utf8` reads: a form and then what comes after it, at its place; or bytes that begin with no form, at which it stops.
use Prim.Native.Nat.{ℕ, zero, suc, ◌+◌, ◌-◌, ◌*◌, ◌≤◌, ◌<◌}
use mathlib.Core.Path.{◌≡◌, refl, ap, ◌∙◌}
use mathlib.Core.Bool.{false, ◌&&◌}
use mathlib.Core.List.{List, [], ◌∷◌, ◌++◌}
use native.Mathlib.Omega.{arith}
use lib.ListN.{length}
use lib.Dec.{leb}
use borrow.Author.Tests.{lt-ltb, le-ltb, le-leb, lt-leb, ne_eqb}
use Rattle.utf8.specs.Utf8.{after_first, after_further, utf8_from}
use Rattle.utf8.specs.declared.Utf8State.{Utf8State}
use Rattle.utf8.specs.declared.Utf8State.TheVariants.{Between, Inside, Broken}
use Rattle.utf8.specs.declared.BadSequence.{BadSequence}
use Rattle.std.specs.Prelude.{Result, Ok, Err}
use Rattle.encoding.proofs.Forms.{by_bound, if_below, if_same, SecondOfThree, SecondOfFour, Form, one, two, three, four}

-- what is answered of a line: it is good, or where it breaks
abbrev pub good : Result Unit BadSequence
good = Ok tt

abbrev pub bad_at : ℕ → Result Unit BadSequence
bad_at p = Err (record { start = p })

-- ---- the first byte

-- the limits of the second byte are those of a form
record Limits (low high : ℕ) (Second : ℕ → Type 0) : Type 0 where
  second : (y : ℕ) → low ≤ y → y ≤ high → Second y
  from : (y : ℕ) → Second y → low ≤ y
  to : (y : ℕ) → Second y → y ≤ high

-- after a first byte at i so many are left, the next within such limits
record Lead (i left : ℕ) (Second : ℕ → Type 0) (s : Utf8State) : Type 0 where
  low : ℕ
  high : ℕ
  is : s ≡ Inside left low high i
  limits : Limits low high Second

leads : {i left low high : ℕ} {Second : ℕ → Type 0} → Limits low high Second → Lead i left Second (Inside left low high i)
leads {low = low} {high} l = record { low = low; high = high; is = refl; limits = l }

module _ (b i : ℕ) where
  pub after_alone : b < 0x80 → after_first b i ≡ Between
  unfolding after_first
  after_alone h = rw (lt-ltb b 0x80)

  after_stray : 0x80 ≤ b → b < 0xC2 → after_first b i ≡ Broken i
  unfolding after_first
  after_stray h k = rw (le-ltb b 0x80, lt-ltb b 0xC2)

  after_two : 0xC2 ≤ b → b < 0xE0 → after_first b i ≡ Inside 1 0x80 0xBF i
  unfolding after_first
  after_two h k = rw (le-ltb b 0x80 (omega arith), le-ltb b 0xC2, lt-ltb b 0xE0)

  after_three : 0xE0 ≤ b → b < 0xF0 → Lead i 2 (λ y. SecondOfThree b y) (after_first b i)
  unfolding after_first
  after_three h k =
      let Leads = Lead i 2 (λ y. SecondOfThree b y) in
      rw (le-ltb b 0x80 (omega arith), le-ltb b 0xC2 (omega arith), le-ltb b 0xE0, lt-ltb b 0xF0)
      (if_same Leads b _ (λ l. leads (omega arith))
      (λ l. if_same Leads b _ (λ m. leads (omega arith))
      (λ m. leads (omega arith))))

  after_four : 0xF0 ≤ b → b < 0xF5 → Lead i 3 (λ y. SecondOfFour b y) (after_first b i)
  unfolding after_first
  after_four h k =
      let Leads = Lead i 3 (λ y. SecondOfFour b y) in
      rw (
        le-ltb b 0x80 (omega arith),
        le-ltb b 0xC2 (omega arith),
        le-ltb b 0xE0 (omega arith),
        ne_eqb b 0xE0 (omega arith),
        ne_eqb b 0xED (omega arith),
        le-ltb b 0xF0,
      )
      (if_same Leads b _ (λ l. leads (omega arith))
      (λ l. if_below Leads b _ (λ m. leads (omega arith))
      (λ m. if_same Leads b _ (λ n. leads (omega arith))
      (λ n. absurd (omega arith)))))

  after_over : 0xF5 ≤ b → after_first b i ≡ Broken i
  unfolding after_first
  after_over h =
      let l : 0xF0 ≤ b = omega arith in
      rw (
        le-ltb b 0x80 (omega arith),
        le-ltb b 0xC2 (omega arith),
        le-ltb b 0xE0 (omega arith),
        ne_eqb b 0xE0 (omega arith),
        ne_eqb b 0xED (omega arith),
        le-ltb b 0xF0,
        ne_eqb b 0xF0 (omega arith),
        le-ltb b 0xF4 (omega arith),
        ne_eqb b 0xF4 (omega arith),
      )

pub first_byte : (b i : ℕ) (bs : List ℕ) {p : Utf8State} → after_first b i ≡ p → utf8_from (b ∷ bs) i Between ≡ utf8_from bs (i + 1) p
unfolding utf8_from
first_byte b i bs e = ap (λ p. utf8_from bs (i + 1) p) e

-- ---- further bytes

pub stays_broken : (bs : List ℕ) (j start : ℕ) → utf8_from bs j (Broken start) ≡ bad_at start
unfolding utf8_from
stays_broken [] j start = refl
stays_broken (b ∷ bs) j start = stays_broken bs (j + 1) start

module _ (low high start y : ℕ) (bs : List ℕ) (j : ℕ) where
  further_last : low ≤ y → y ≤ high → utf8_from (y ∷ bs) j (Inside 1 low high start) ≡ utf8_from bs (j + 1) Between
  unfolding utf8_from after_further
  further_last h k = rw (le-leb low y, le-leb y high)

  further_more : (left : ℕ) → low ≤ y → y ≤ high
      → utf8_from (y ∷ bs) j (Inside (suc (suc left)) low high start) ≡ utf8_from bs (j + 1) (Inside (suc left) 0x80 0xBF start)
  unfolding utf8_from after_further
  further_more left h k =
      let e : suc (suc left) - 1 ≡ suc left = omega arith in
      rw (le-leb low y, le-leb y high, lt-leb (suc (suc left)) 1 (omega arith), e)

  pub further_bad : (left : ℕ) → (leb low y && leb y high) ≡ false → utf8_from (y ∷ bs) j (Inside left low high start) ≡ bad_at start
  unfolding utf8_from after_further
  further_bad left e = rw (utf8_from, e) (stays_broken bs (j + 1) start)

-- the bytes that a sequence under way takes
data Furthers : ℕ → ℕ → ℕ → List ℕ → Type 0 where
  last : {low high y : ℕ} → low ≤ y → y ≤ high → Furthers 1 low high (y ∷ [])
  more : {left low high y : ℕ} {ys : List ℕ} → low ≤ y → y ≤ high → Furthers (suc left) 0x80 0xBF ys → Furthers (suc (suc left)) low high (y ∷ ys)

furthers_read : {left low high : ℕ} {ys : List ℕ} → Furthers left low high ys → (start : ℕ) (rest : List ℕ) (j : ℕ)
    → utf8_from (ys ++ rest) j (Inside left low high start) ≡ utf8_from rest (j + length ys) Between
furthers_read (last {low} {high} {y} h k) start rest j = further_last low high start y rest j h k
furthers_read (more {left} {low} {high} {y} {ys} h k f) start rest j =
    let e : j + 1 + length ys ≡ j + suc (length ys) = omega arith in
    further_more low high start y (ys ++ rest) j left h k ∙ furthers_read f start rest (j + 1) ∙ rw e

-- they are there, or the answer is where the sequence began
data Found (left low high start : ℕ) (bs : List ℕ) : Type 0 where
  found : {ys : List ℕ} → Furthers left low high ys → (rest : List ℕ) → bs ≡ ys ++ rest → Found left low high start bs
  cut : ((j : ℕ) → utf8_from bs j (Inside left low high start) ≡ bad_at start) → Found left low high start bs

found_within : (left low high start y : ℕ) (bs : List ℕ) → (low ≤ y → y ≤ high → Found left low high start (y ∷ bs)) → Found left low high start (y ∷ bs)
found_within left low high start y bs within =
    by_bound y low (λ h. outside (rw (lt-leb low y h)))
    (λ h. by_bound high y (λ k. outside (rw (le-leb low y h, lt-leb y high k)))
    (λ k. within h k))
  where
    outside : (leb low y && leb y high) ≡ false → Found left low high start (y ∷ bs)
    outside e = cut (λ j. further_bad low high start y bs j left e)

find : (bs : List ℕ) (left low high start : ℕ) → Found (suc left) low high start bs
unfolding utf8_from
find [] left low high start = cut (λ j. refl)
find (y ∷ bs) zero low high start = found_within 1 low high start y bs (λ h k. found (last h k) bs refl)
find (y ∷ bs) (suc left) low high start = found_within (suc (suc left)) low high start y bs (λ h k. by h k (find bs left 0x80 0xBF start))
  where
    by : low ≤ y → y ≤ high → Found (suc left) 0x80 0xBF start bs → Found (suc (suc left)) low high start (y ∷ bs)
    by h k (found f rest e) = found (more h k f) rest (ap (λ l. y ∷ l) e)
    by h k (cut e) = cut (λ j. further_more low high start y bs j left h k ∙ e (j + 1))

-- ---- a character

module _ (b i : ℕ) {left low high : ℕ} (e : after_first b i ≡ Inside left low high i) where
  sequence_read : {ys : List ℕ} → Furthers left low high ys → (rest : List ℕ)
      → utf8_from (b ∷ (ys ++ rest)) i Between ≡ utf8_from rest (i + suc (length ys)) Between
  sequence_read {ys} f rest =
      let p : i + 1 + length ys ≡ i + suc (length ys) = omega arith in
      first_byte b i (ys ++ rest) e ∙ furthers_read f i rest (i + 1) ∙ rw p

-- a form is read, and what comes after it stands at its place
pub form_read : {c : ℕ} {f : List ℕ} → Form c f → (rest : List ℕ) (i : ℕ) → utf8_from (f ++ rest) i Between ≡ utf8_from rest (i + length f) Between
form_read (one {b} r) rest i = first_byte b i rest (after_alone b i r.below)
form_read (two {b} r) rest i = sequence_read b i (after_two b i r.from r.below) (last r.second.from r.second.to) rest
form_read (three {b} {y} r) rest i =
    let l = after_three b i r.from r.below in
    let s = last r.third.from r.third.to in
    sequence_read b i l.is (more (l.limits.from y r.second) (l.limits.to y r.second) s) rest
form_read (four {b} {y} r) rest i =
    let l = after_four b i r.from r.below in
    let s = more r.third.from r.third.to (last r.fourth.from r.fourth.to) in
    sequence_read b i l.is (more (l.limits.from y r.second) (l.limits.to y r.second) s) rest

-- what bytes begin with, where no sequence is under way
pub data Start (i : ℕ) : List ℕ → Type 0 where
  over : Start i []
  character : {c : ℕ} {f : List ℕ} → Form c f → (rest bs : List ℕ) → bs ≡ f ++ rest → Start i bs
  broken : (b : ℕ) (bs : List ℕ) → utf8_from (b ∷ bs) i Between ≡ bad_at i → Start i (b ∷ bs)

-- so many further bytes within limits make a form of some character
record Formed (f : List ℕ) : Type 0 where
  of : ℕ
  form : Form of f

formed : (c : ℕ) {f : List ℕ} → Form c f → Formed f
formed c h = record { of = c; form = h }

module _ (b : ℕ) where
  formed_two : 0xC2 ≤ b → b < 0xE0 → (ys : List ℕ) → Furthers 1 0x80 0xBF ys → Formed (b ∷ ys)
  formed_two h k ys (last {y = y} p q) = formed ((b - 0xC0) * 64 + (y - 0x80)) (two (omega arith))

  formed_three : 0xE0 ≤ b → b < 0xF0 → {low high : ℕ} → Limits low high (λ y. SecondOfThree b y) → (ys : List ℕ) → Furthers 2 low high ys → Formed (b ∷ ys)
  formed_three h k l ys (more {y = y} p q (last {y = z} m n)) =
      let s = l.second y p q in
      formed ((b - 0xE0) * 4096 + (y - 0x80) * 64 + (z - 0x80)) (three (omega arith))

  formed_four : 0xF0 ≤ b → b < 0xF5 → {low high : ℕ} → Limits low high (λ y. SecondOfFour b y) → (ys : List ℕ) → Furthers 3 low high ys → Formed (b ∷ ys)
  formed_four h k l ys (more {y = y} p q (more {y = z} m n (last {y = w} r t))) =
      let s = l.second y p q in
      formed ((b - 0xF0) * 262144 + (y - 0x80) * 4096 + (z - 0x80) * 64 + (w - 0x80)) (four (omega arith))

module _ (i b : ℕ) (bs : List ℕ) where
  start_inside : (left low high : ℕ) → after_first b i ≡ Inside (suc left) low high i
      → ((ys : List ℕ) → Furthers (suc left) low high ys → Formed (b ∷ ys)) → Start i (b ∷ bs)
  start_inside left low high e forms = by (find bs left low high i)
    where
      by : Found (suc left) low high i bs → Start i (b ∷ bs)
      by (found {ys} f rest q) = character (forms ys f).form rest (b ∷ bs) (ap (λ l. b ∷ l) q)
      by (cut q) = broken b bs (first_byte b i bs e ∙ q (i + 1))

  start_broken : after_first b i ≡ Broken i → Start i (b ∷ bs)
  start_broken e = broken b bs (first_byte b i bs e ∙ stays_broken bs (i + 1) i)

  start_byte : Start i (b ∷ bs)
  start_byte =
      by_bound b 0x80
      (λ h. character {c = b} (one (record { is = refl; below = h })) bs (b ∷ bs) refl)
      (λ h. by_bound b 0xC2 (λ k. start_broken (after_stray b i h k))
      (λ k. by_bound b 0xE0 (λ l. start_inside 0 0x80 0xBF (after_two b i k l) (formed_two b k l))
      (λ l. by_bound b 0xF0 (λ m. let t = after_three b i l m in start_inside 1 t.low t.high t.is (formed_three b l m t.limits))
      (λ m. by_bound b 0xF5 (λ n. let t = after_four b i m n in start_inside 2 t.low t.high t.is (formed_four b m n t.limits))
      (λ n. start_broken (after_over b i n))))))

pub start : (i : ℕ) (bs : List ℕ) → Start i bs
start i [] = over
start i (b ∷ bs) = start_byte i b bs
