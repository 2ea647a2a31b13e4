-- The search by halving: how many comparisons, what it finds where characters rise, and each way through a turn of the loop.
use Prim.Native.Nat.{ℕ, zero, suc, ◌+◌, ◌-◌, ◌*◌, ◌/◌, ◌<◌, ◌≤◌}
use mathlib.Core.Path.{◌≡◌, refl, sym, ap, ◌∙◌}
use mathlib.Core.List.{List}
use native.Mathlib.Nat.{add-zero}
use native.Mathlib.Omega.{arith}
use lib.Dec.{eqb, ltb}
use lib.ListN.{length, get_or, take}
use lib.Seq.{get_or-take, length-take-le}
use borrow.Author.Tests.{eqb-true, eqb-false, ltb-true, ltb-false, eq-eqb, ne_eqb, lt-ltb, le-ltb}
use Rattle.std.specs.Prelude.{Result, Ok, Err}
use Rattle.basics.proofs.Tests.{by_cases, by_test, either}
use Rattle.order.specs.declared.Halved.{Halved}
use Rattle.order.specs.Order.{character, at_place, none_at, after, halved, searched}
use Rattle.order.specs.Internal.{Ordered, Distinct}
use Rattle.order.proofs.Rising.{each_at, at_each, rising_at, rises_rising, rises_below, first_words, order_each}

-- ---- how many comparisons

-- the most places that k comparisons serve
abbrev served : ℕ → ℕ
served zero = 0
served (suc k) = 2 * served k + 1

halved_within : (k : ℕ) (at : ℕ → ℕ) (c budget low left : ℕ) → left ≤ served k → (halved at c budget low left).comparisons ≤ k
unfolding halved
halved_within k at c zero low left h = omega arith
halved_within zero at c (suc budget) low left h = let e : left ≡ 0 = omega arith in rw e (omega arith)
halved_within (suc k) at c (suc budget) low left h =
    let half = (left - 1) / 2 in
    let above = halved_within k at c budget (low + half + 1) (left - (half + 1)) (omega arith) in
    let below = halved_within k at c budget low half (omega arith) in
    let Few : Halved → Type 0 = λ h. h.comparisons ≤ suc k in
    either Few (eqb left 0) (omega arith)
    (either Few (eqb (at (low + half)) c) (omega arith)
    (either (λ (h : Halved). Few (after 1 h)) (ltb (at (low + half)) c) (omega arith) (omega arith)))

-- 1,024 places are served by 11
pub eleven : (at : ℕ → ℕ) (c n : ℕ) → n ≤ 1024 → (halved at c n 0 n).comparisons ≤ 11
eleven at c n h = halved_within 11 at c n 0 n (omega arith)

-- ---- what it finds

-- at the places before one all are smaller, from it on all are larger
pub record Between (at : ℕ → ℕ) (c n place : ℕ) : Type 0 where
  pub within : place ≤ n
  pub before : (i : ℕ) → i < place → at i < c
  pub behind : (i : ℕ) → place ≤ i → i < n → c < at i

-- what an answer tells of n places
abbrev pub Tells : (ℕ → ℕ) → ℕ → ℕ → Result ℕ ℕ → Type 0
Tells at c n (Ok place) = (place < n) × (at place ≡ c)
Tells at c n (Err place) = Between at c n place

module _ (at : ℕ → ℕ) (c n : ℕ) (up : (i j : ℕ) → i ≤ j → j < n → at i ≤ at j) where
  -- all before `low` are smaller, all behind what is left are larger
  halved_tells : (budget low left : ℕ) → left ≤ budget → low + left ≤ n → ((i : ℕ) → i < low → at i < c) → ((i : ℕ) → low + left ≤ i → i < n → c < at i)
      → Tells at c n (halved at c budget low left).place
  unfolding halved
  halved_tells zero low left h room before behind =
      record { within = omega arith; before = before; behind = λ i p. behind i (omega arith) }
  halved_tells (suc budget) low left h room before behind =
      let half = (left - 1) / 2 in
      let mid = low + half in
      by_test (λ (h : Halved). Tells at c n h.place) (eqb left 0)
      (λ t.
      let none = eqb-true left 0 t in
      record { within = omega arith; before = before; behind = λ i p. behind i (omega arith) })
      (λ t.
      let some = eqb-false left 0 t in
      by_test (λ (h : Halved). Tells at c n h.place) (eqb (at mid) c)
      (λ e. (omega arith, eqb-true (at mid) c e))
      (λ e.
      let away = eqb-false (at mid) c e in
      by_test (λ (h : Halved). Tells at c n h.place) (ltb (at mid) c)
      (λ l.
      let less = ltb-true (at mid) c l in
      halved_tells budget (mid + 1) (left - (half + 1)) (omega arith) (omega arith) (λ i p. omega (arith, up i mid (omega arith) (omega arith)))
      (λ i p. behind i (omega arith)))
      (λ l.
      let more = ltb-false (at mid) c l in
      halved_tells budget low half (omega arith) (omega arith) before (λ i p q. omega (arith, up mid i (omega arith) q)))))

-- ---- in the order of n pairs

module _ (ws : List ℕ) (n : ℕ) (os : List ℕ) (o : Ordered ws n os) where
  size : length (take n os) ≡ n
  size = length-take-le n os o.long

  -- a pair number stands at each place
  place_below : (place : ℕ) → place < n → get_or os place 0 < n
  place_below place h =
      rw (get_or-take n os place 0 h) at (each_at (λ k. k < n) (take n os) (rises_below ws n (take n os) o.rising) place (omega (arith, size)))

  -- and its pair in the words
  pub pair_read : (place : ℕ) → place < n → 2 * get_or os place 0 + 1 < length ws
  pair_read place h = omega (arith, place_below place h, o.fits)

  places_rise : (i j : ℕ) → i < j → j < n → at_place ws os i < at_place ws os j
  places_rise i j l h =
      rw (get_or-take n os i 0 (omega arith), get_or-take n os j 0 h) at
      (rising_at ws (take n os) (rises_rising ws n (take n os) o.rising) i j l (omega (arith, size)))

  -- what holds of the pair at each place holds of each pair
  each_pair : (P : ℕ → Type 0) → ((place : ℕ) → place < n → P (get_or os place 0)) → (k : ℕ) → k < n → P k
  each_pair P f =
      let front = at_each P (take n os) (λ i h. rw (get_or-take n os i 0 (omega (arith, size))) (f i (omega (arith, size)))) in
      order_each ws P n (rw (first_words ws n os o.long o.rising) at front)

  places_differ : (p q : ℕ) → p < n → q < n → (get_or os p 0 ≡ get_or os q 0 → ⊥) → at_place ws os p ≡ at_place ws os q → ⊥
  places_differ p q a b away e =
      by_cases (eqb p q)
      (λ t. away (ap (λ (i : ℕ). get_or os i 0) (eqb-true p q t)))
      (λ t. by_cases (ltb p q)
      (λ s. omega (arith, places_rise p q (ltb-true p q s) b))
      (λ s. omega (arith, places_rise q p (omega (arith, ltb-false p q s, eqb-false p q t)) a)))

  pairs_differ : (i j : ℕ) → i < n → j < n → (i ≡ j → ⊥) → character ws i ≡ character ws j → ⊥
  pairs_differ i j a b =
      each_pair (λ i. (i ≡ j → ⊥) → character ws i ≡ character ws j → ⊥)
      (λ p l. each_pair (λ j. (get_or os p 0 ≡ j → ⊥) → at_place ws os p ≡ character ws j → ⊥) (λ q. places_differ p q l) j b)
      i a

  pub ordered_distinct : Distinct ws n
  ordered_distinct = record { differ = λ i j l h. pairs_differ i j (omega arith) h (λ e. omega arith) }

  module _ (c : ℕ) where
    pub tells : Tells (at_place ws os) c n (searched ws os n c).place
    tells =
        halved_tells (at_place ws os) c n
        (λ i j l h. by_cases (eqb i j) (λ t. rw (eqb-true i j t) (omega arith)) (λ t. omega (arith, places_rise i j (omega (arith, eqb-false i j t)) h)))
        n 0 n (omega arith) (omega arith) (λ i l. absurd (omega arith)) (λ i l h. absurd (omega arith))

    -- h is what the search answered
    module _ (h : Halved) (is : h ≡ searched ws os n c) where
      told_so : {r : Result ℕ ℕ} → h.place ≡ r → Tells (at_place ws os) c n r
      told_so e = rw (← e, is) tells

      module _ (place : ℕ) (found : h.place ≡ Ok place) where
        pub place_hit : place < n
        place_hit = (told_so found).0

        -- its pair has the character, and no other has it
        pub pair_hit : (get_or os place 0 < n) × (character ws (get_or os place 0) ≡ c)
        pair_hit = (place_below place place_hit, (told_so found).1)

        pub pair_alone : (k : ℕ) → k < n → (k ≡ get_or os place 0 → ⊥) → character ws k ≡ c → ⊥
        pair_alone k l away e = pairs_differ k (get_or os place 0) l pair_hit.0 away (e ∙ sym pair_hit.1)

      module _ (place : ℕ) (missing : h.place ≡ Err place) where
        pub between : Between (at_place ws os) c n place
        between = told_so missing

        pub no_pair : (k : ℕ) → k < n → character ws k ≡ c → ⊥
        no_pair =
            each_pair (λ k. character ws k ≡ c → ⊥)
            (λ i l e.
            by_cases (ltb i place)
            (λ t. omega (arith, between.before i (ltb-true i place t)))
            (λ t. omega (arith, between.behind i (ltb-false i place t) l)))

-- ---- a turn of the search; x is what it is to answer

counted : (place : Result ℕ ℕ) {m n : ℕ} → m ≡ n → ◌≡◌ {A = Halved} (record { place = place; comparisons = m }) (record { place = place; comparisons = n })
counted place e = rw e

pub search_first : (at : ℕ → ℕ) (c n : ℕ) → halved at c n 0 n ≡ after 0 (halved at c (n - 0) 0 n)
search_first at c n = let e : n - 0 ≡ n = omega arith in rw e (counted _ (omega arith))

none_found : (at : ℕ → ℕ) (c budget low : ℕ) → halved at c budget low 0 ≡ none_at low
unfolding halved
none_found at c zero low = refl
none_found at c (suc budget) low = refl

module _ (ws os : List ℕ) (c n low left k : ℕ) (x : Halved) (inv : x ≡ after k (halved (at_place ws os) c (n - k) low left)) (room : k + left ≤ n) where
  pub search_over : left ≤ 0 → record { place = Err low; comparisons = k } ≡ x
  search_over h = let none : left ≡ 0 = omega arith in sym (inv ∙ rw (none, none_found (at_place ws os) c (n - k) low, add-zero k))

  module _ (some : 0 < left) where
    abbrev mid : ℕ
    mid = at_place ws os (low + (left - 1) / 2)

    budget_left : n - k ≡ suc (n - (k + 1))
    budget_left = omega arith

    pub search_hit : mid ≡ c → record { place = Ok (low + (left - 1) / 2); comparisons = k + 1 } ≡ x
    unfolding halved
    search_hit same = sym (inv ∙ rw (budget_left, ne_eqb left 0 (λ q. omega arith), eq-eqb mid c same))

    pub search_above : mid < c → x ≡ after (k + 1) (halved (at_place ws os) c (n - (k + 1)) (low + (left - 1) / 2 + 1) (left - ((left - 1) / 2 + 1)))
    unfolding halved
    search_above less =
        inv ∙ rw (budget_left, ne_eqb left 0 (λ q. omega arith), ne_eqb mid c (λ q. omega arith), lt-ltb mid c less) (counted _ (omega arith))

    pub search_below : (mid ≡ c → ⊥) → c ≤ mid → x ≡ after (k + 1) (halved (at_place ws os) c (n - (k + 1)) low ((left - 1) / 2))
    unfolding halved
    search_below other more =
        inv ∙ rw (budget_left, ne_eqb left 0 (λ q. omega arith), ne_eqb mid c other, le-ltb mid c (omega arith)) (counted _ (omega arith))

pub ruleset turns = (search_over, search_hit, search_above, search_below)
