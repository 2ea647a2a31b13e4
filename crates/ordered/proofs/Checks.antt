-- The check of a table by the order of its pairs, and the test of both.
use Rattle.std.specs.Prelude.{None, Result, Ok, Err}
use Prim.Native.Nat.{ℕ, ◌+◌, ◌*◌, ◌≤◌, ◌<◌}
use mathlib.Core.Path.{◌≡◌, refl, sym, ap, ◌∙◌}
use mathlib.Core.Bool.{Bool, true, false, ◌&&◌}
use mathlib.Core.List.{List, [], ◌∷◌, ◌++◌, append-nil}
use native.Mathlib.Omega.{arith}
use lib.Dec.{ltb}
use lib.ListN.{length, get_or, take, drop, drop_of_length-le, length-append}
use lib.Seq.{append_snoc}
use borrow.Author.Tests.{lt-ltb, le-ltb, ltb-true, ltb-false}
use Rattle.basics.specs.Choice.{pick}
use Rattle.basics.specs.Refusals.{answered, refused}
use Rattle.basics.proofs.Tests.{told, by_cases, either}
use Rattle.basics.proofs.Loops.{two_more}
use Rattle.definitions.specs.declared.Meaning.{Meaning}
use Rattle.definitions.specs.declared.Definition.{Definition}
use Rattle.definitions.specs.Definitions.{find}
use Rattle.definitions.specs.Effects.{definition_limit, closes_loop, verdict_of}
use Rattle.definitions.proofs.Admission.{Admits, admissible}
use Rattle.pairs.specs.Words.{pair_words, table_words, meaning_of, definition_of, definitions}
use Rattle.pairs.proofs.Scan.{rest, rest_more, split}
use Rattle.table.specs.Check.{is_zero_pair, is_sound_pair, is_fresh, zero_from, check_from, check_of, lent_table}
use Rattle.table.proofs.Check.{pairs_part, if_fresh, check_start, check_next, check_over}
use Rattle.table.proofs.Lent.{lent_fault, lent_sound}
use Rattle.table.proofs.Readback.{Lent, lent, no_fault, sound_parts}
use Rattle.order.specs.Order.{character, is_order}
use Rattle.order.specs.Internal.{rises, Ordered, Distinct}
use Rattle.order.proofs.Rising.{rises_part, rises_order, falls_no_order}
use Rattle.order.proofs.Halving.{ordered_distinct}
use Rattle.ordered.specs.Tables.{ordered_table}
use Rattle.ordered.specs.Internal.{pairs_from, Passed}
use Rattle.ordered.proofs.Finds.{find_nowhere, find_away}

-- ---- how many pairs there are

module _ (ws : List ℕ) (k : ℕ) (len : length ws ≡ pair_words) where
  -- the pair k, and those behind it
  pair : k < definition_limit → drop (2 * k) ws ≡ get_or ws (2 * k) 0 ∷ get_or ws (2 * k + 1) 0 ∷ drop (2 * (k + 1)) ws
  pair h = let a : 2 * (k + 1) ≡ 2 * k + 2 = omega arith in rw a (two_more ws (2 * k) (omega arith))

  none : definition_limit ≤ k → drop (2 * k) ws ≡ []
  none h = drop_of_length-le ws {i = 2 * k} (omega arith)

  -- x is what the loop is to answer, n the answer of a call that counted
  module _ (x : ℕ) (inv : x ≡ pairs_from k (drop (2 * k) ws)) where
    module _ (z : Bool) (h : k < definition_limit) (test : z ≡ is_zero_pair (get_or ws (2 * k) 0) (get_or ws (2 * k + 1) 0)) where
      pub count_here : z ≡ true → k ≡ x
      unfolding pairs_from
      count_here e = sym (inv ∙ rw (pair h, ← test, e))

      pub count_on : z ≡ false → x ≡ pairs_from (k + 1) (drop (2 * (k + 1)) ws)
      unfolding pairs_from
      count_on e = inv ∙ rw (pair h, ← test, e)

    pub count_over : definition_limit ≤ k → k ≡ x
    unfolding pairs_from
    count_over h = sym (inv ∙ rw (none h))

pub ruleset counting = (count_here, count_on, count_over)

pairs_least : (k : ℕ) (ws : List ℕ) → k ≤ pairs_from k ws
unfolding pairs_from
pairs_least k [] = omega arith
pairs_least k (c ∷ []) = omega arith
pairs_least k (c ∷ w ∷ ws) = either (λ n. k ≤ n) (is_zero_pair c w) (omega arith) (omega (arith, pairs_least (k + 1) ws))

-- the check counts the same pairs
zero_count : (n k : ℕ) (ws : List ℕ) {m : ℕ} → zero_from n k ws ≡ Ok m → n ≡ m
unfolding zero_from
zero_count n k [] e = cc
zero_count n k (c ∷ []) e = cc
zero_count n k (c ∷ w ∷ ws) e = zero_count n (k + 1) ws (no_fault (is_zero_pair c w) (zero_from n (k + 1) ws) k e).1

check_count : (ds : List Definition) (ws : List ℕ) {n : ℕ} → check_from ds ws ≡ Ok n → pairs_from (length ds) ws ≡ n
unfolding check_from pairs_from
check_count ds [] e = cc
check_count ds (c ∷ []) e = cc
check_count ds (c ∷ w ∷ ws) {n} e =
    by_cases (is_zero_pair c w)
    (λ t. rw t (zero_count (length ds) (length ds + 1) ws (rw t at e)))
    (λ t.
    let more = ds ++ definition_of c w ∷ [] in
    let size : length ds + 1 ≡ length more = omega (arith, length-append ds (definition_of c w ∷ [])) in
    rw (t, size) (check_count more ws (no_fault (is_sound_pair c w && is_fresh ds (definition_of c w)) (check_from more ws) (length ds) (rw t at e)).1))

counted : (ws : List ℕ) (n count : ℕ) → count ≡ pairs_from 0 (take pair_words ws) → check_of ws ≡ Ok n → count ≡ n
counted ws n count e sound = e ∙ check_count [] (take pair_words ws) (sound_parts ws n sound).1

-- ---- the check of the pairs

-- it has come to the pair k of the n that stand before the first zero pair: those before k are definitions, and the check of
-- the others behind them is the check of all
pub record Checking (ws : List ℕ) (n k : ℕ) : Type 0 where
  pub count : n ≡ pairs_from k (drop (2 * k) ws)
  pub same : check_from (definitions k ws) (drop (2 * k) ws) ≡ check_from [] ws

pub check_begins : (ws : List ℕ) (n : ℕ) → n ≡ pairs_from 0 ws → Checking ws n 0
check_begins ws n count = record { count = count; same = check_start ws }

module _ (ws : List ℕ) (n k : ℕ) (size : length ws ≡ pair_words) (limit : n ≤ definition_limit) (so_far : Checking ws n k) where
  module _ (h : k < n) where
    inside : k < definition_limit
    inside = omega arith

    -- it is not zero
    not_zero : is_zero_pair (get_or ws (2 * k) 0) (get_or ws (2 * k + 1) 0) ≡ false
    not_zero =
        by_cases (is_zero_pair (get_or ws (2 * k) 0) (get_or ws (2 * k + 1) 0))
        (λ t. absurd (omega (arith, count_here ws k size n so_far.count true inside (sym t) refl)))
        (λ t. t)

    -- and no pair before it has its character
    not_defined : (os : List ℕ) → Ordered ws n os → find (definitions k ws) (get_or ws (2 * k) 0) ≡ None
    not_defined os o =
        find_nowhere k ws (omega (arith, o.fits)) (get_or ws (2 * k) 0) (λ j l. (ordered_distinct ws n os o).differ j k l h)

    pub pair_unsound : false ≡ is_sound_pair (get_or ws (2 * k) 0) (get_or ws (2 * k + 1) 0) → Err k ≡ check_from [] ws
    pair_unsound e = check_next ws k so_far.same size inside (rw (not_zero, ← e))

    -- it is sound by itself, and m is its meaning
    module _ (os : List ℕ) (o : Ordered ws n os) (sound : true ≡ is_sound_pair (get_or ws (2 * k) 0) (get_or ws (2 * k + 1) 0))
        (m : Meaning) (says : m ≡ meaning_of (get_or ws (2 * k + 1) 0)) where
      next : (r : Bool) → r ≡ closes_loop (definitions k ws) (record { character = get_or ws (2 * k) 0; meaning = m })
          → pick r (Err k) (check_from (definitions (k + 1) ws) (drop (2 * (k + 1)) ws)) ≡ check_from [] ws
      unfolding if_fresh
      next r loop = let same = rw says at loop in check_next ws k so_far.same size inside (rw (not_zero, ← sound, not_defined os o, ← same))

      pub pair_loops : true ≡ closes_loop (definitions k ws) (record { character = get_or ws (2 * k) 0; meaning = m }) → Err k ≡ check_from [] ws
      pair_loops loop = next true loop

      pub pair_passes : false ≡ closes_loop (definitions k ws) (record { character = get_or ws (2 * k) 0; meaning = m }) → Checking ws n (k + 1)
      pair_passes loop = record { count = count_on ws k size n so_far.count false inside (sym not_zero) refl; same = next false loop }

  -- behind the last pair the rest is zero
  pub pairs_over : {v : Result ℕ ℕ} → k ≤ n → n ≤ k → v ≡ zero_from n n (drop (2 * n) ws) → v ≡ check_from [] ws
  unfolding zero_from
  pairs_over {v} g h e =
      let same : n ≡ k = omega arith in
      let here : v ≡ zero_from k k (drop (2 * k) ws) = rw same at e in
      by_cases (ltb k definition_limit)
      (λ t.
      let l = ltb-true k definition_limit t in
      let zero = by_cases (is_zero_pair (get_or ws (2 * k) 0) (get_or ws (2 * k + 1) 0)) (λ z. z)
      (λ z. absurd (omega (arith, count_on ws k size n so_far.count false l (sym z) refl, pairs_least (k + 1) (drop (2 * (k + 1)) ws)))) in
      check_next ws k so_far.same size l (rw zero (rw (pair ws k size l, zero) at here)))
      (λ t.
      let l = ltb-false k definition_limit t in
      let last : k ≡ definition_limit = omega arith in
      (rw (none ws k size l) at here) ∙ ap Ok last ∙ check_over ws k so_far.same size (omega arith) l)

-- ---- a table has no character twice

-- each definition is admitted after those before it
admitted_at : (xs : List Definition) (d : Definition) (ys ds : List Definition) → Admits ds (xs ++ d ∷ ys) → verdict_of (ds ++ xs) d ≡ Ok tt
admitted_at [] d ys ds h = rw append-nil h.0
admitted_at (x ∷ xs) d ys ds h = rw (append_snoc ds x xs) at (admitted_at xs d ys (ds ++ x ∷ []) h.1)

pub lent_distinct : (ws : List ℕ) (n : ℕ) → Lent ws n → Distinct ws n
lent_distinct ws n t = record {
  differ = λ i j l h e.
      let d = definition_of (get_or ws (2 * j) 0) (get_or ws (2 * j + 1) 0) in
      let parts = rw (split n ws j (omega arith) t.fits, rest_more n j ws h t.fits) at t.admits in
      let fresh = (admissible (definitions j ws) d (admitted_at (definitions j ws) d (rest n (j + 1) ws) [] parts)).fresh in
      find_away j ws (omega (arith, t.fits)) (character ws j) fresh i l e;
}

-- ---- the test of both

-- the pairs of a slice, with the same order, and marks everywhere
pub pairs_ordered : (ws os : List ℕ) (n : ℕ) → table_words ≤ length ws → n ≤ definition_limit → Ordered ws n os → Ordered (take pair_words ws) n os
pairs_ordered ws os n long limit o = record {
  fits = omega (arith, pairs_part ws long);
  long = o.long;
  rising = rises_part ws pair_words n (take n os) 0 (omega arith) ∙ o.rising;
}

pub ordered_so : (ws os : List ℕ) (n : ℕ) (b : Bool) → 2 * n ≤ length ws → n ≤ length os → b ≡ rises ws n (take n os) 0 → b ≡ true → Ordered ws n os
ordered_so ws os n b fits long test t = record { fits = fits; long = long; rising = told test t }

module _ (ws os : List ℕ) where
  pub tests_few : length os < definition_limit → ordered_table ws os ≡ refused 2 0
  unfolding ordered_table
  tests_few h = rw (lt-ltb (length os) definition_limit h)

  module _ (enough : definition_limit ≤ length os) where
    pub tests_refused : {number place : ℕ} → lent_table ws ≡ refused number place → ordered_table ws os ≡ refused number place
    unfolding ordered_table
    tests_refused e = rw (le-ltb (length os) definition_limit enough, e)

    -- as many pairs as there are before the first zero pair, and the test of their order
    module _ (long : table_words ≤ length ws) (count : ℕ) (is : count ≡ pairs_from 0 (take pair_words ws)) where
      -- the slice is a table of so many definitions
      module _ (n : ℕ) (p : check_of ws ≡ Ok n) where
        known : Lent ws count
        known = rw (counted ws n count is p) (lent ws n long p)

        table_so : lent_table ws ≡ answered (definitions count ws)
        table_so = rw (counted ws n count is p) (lent_sound ws n long refl p)

        judged : (b' : Bool) → is_order ws count os ≡ b' → ordered_table ws os ≡ pick b' (answered (definitions count ws)) (refused 23 0)
        unfolding ordered_table
        judged b' e = rw (le-ltb (length os) definition_limit enough, table_so, known.count, e)

        pub tests_passed : true ≡ rises ws count (take count os) 0 → Passed ws os count
        tests_passed test =
            let room : count ≤ length os = omega (arith, known.limit) in
            let rising = sym test in
            record {
              table = judged true (rises_order ws count os room rising);
              lent = table_so;
              order = record { fits = known.fits; long = room; rising = rising };
            }

        tests_wrong : false ≡ rises ws count (take count os) 0 → ordered_table ws os ≡ refused 23 0
        tests_wrong test = judged false (falls_no_order ws count os (lent_distinct ws count known) (sym test))

      -- it is a table, as a call answered
      pub tests_order : false ≡ rises ws count (take count os) 0 → (ds : List Definition) → answered ds ≡ lent_table ws → ordered_table ws os ≡ refused 23 0
      tests_order test ds e = go (check_of ws) refl
        where
          go : (r : Result ℕ ℕ) → check_of ws ≡ r → ordered_table ws os ≡ refused 23 0
          go (Ok n) p = tests_wrong n p test
          go (Err pair) p = absurd (let z : ◌≡◌ {A = ℕ} 0 1 = cc (lent_fault ws pair long refl p) in omega arith)
