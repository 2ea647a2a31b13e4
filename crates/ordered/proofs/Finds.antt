-- The pair that a search in the order finds is the one that a scan finds.
use Rattle.std.specs.Prelude.{Option, None, Some, Ok, Err}
use Prim.Native.Nat.{ℕ, zero, suc, ◌+◌, ◌*◌, ◌≤◌, ◌<◌}
use mathlib.Core.Path.{◌≡◌, sym, ap, ◌∙◌}
use mathlib.Core.List.{List}
use native.Mathlib.Omega.{arith}
use lib.Dec.{eqb}
use lib.ListN.{length, get_or, set, replicate, length-set, length-replicate, get_or-replicate}
use lib.Seq.{get_or-set_same, get_or-set_other}
use borrow.Author.Tests.{eq-eqb, ne_eqb, eqb-true, eqb-false}
use Rattle.basics.proofs.Tests.{by_cases, by_test}
use Rattle.definitions.specs.declared.Meaning.{Meaning}
use Rattle.definitions.specs.Definitions.{find}
use Rattle.pairs.specs.Words.{meaning_of, definitions}
use Rattle.pairs.proofs.Scan.{definitions_length, rest, rest_all, rest_none, rest_more}
use Rattle.order.specs.declared.Halved.{Halved}
use Rattle.order.specs.Order.{character, searched}
use Rattle.order.specs.Internal.{Ordered}
use Rattle.ordered.specs.Internal.{slots, slot_of, Marks}
use Rattle.order.proofs.Halving.{pair_read, place_hit, pair_hit, pair_alone, no_pair}

module _ (n : ℕ) (ws : List ℕ) (fits : 2 * n ≤ length ws) (c : ℕ) where
  -- a scan passes pairs of other characters
  passed : (m i j : ℕ) → i + m ≡ j → j ≤ n → ((k : ℕ) → k < j → character ws k ≡ c → ⊥) → find (rest n i ws) c ≡ find (rest n j ws) c
  unfolding find
  passed zero i j e l away = let same : i ≡ j = omega arith in rw same
  passed (suc m) i j e l away =
      rw (rest_more n i ws (omega arith) fits, ne_eqb (character ws i) c (away i (omega arith))) (passed m (i + 1) j (omega arith) l away)

  -- and comes to the one that has c
  find_first : (k : ℕ) → k < n → character ws k ≡ c → ((j : ℕ) → j < k → character ws j ≡ c → ⊥)
      → find (definitions n ws) c ≡ Some (meaning_of (get_or ws (2 * k + 1) 0))
  unfolding find
  find_first k h e before =
      rw (← rest_all n ws) (passed k 0 k (omega arith) (omega arith) before ∙ rw (rest_more n k ws h fits, eq-eqb (character ws k) c e))

  pub find_nowhere : ((k : ℕ) → k < n → character ws k ≡ c → ⊥) → find (definitions n ws) c ≡ None
  unfolding find
  find_nowhere away = rw (← rest_all n ws) (passed n 0 n (omega arith) (omega arith) away ∙ rw (rest_none n n ws (omega arith)))

  -- what is not found has no pair
  away_from : (m i k : ℕ) → i + m ≡ k → k < n → find (rest n i ws) c ≡ None → character ws k ≡ c → ⊥
  unfolding find
  away_from zero i k z h e q =
      let same : i ≡ k = omega arith in
      let here = rw (rest_more n i ws (omega arith) fits, same, eq-eqb (character ws k) c q) at e in
      let z : ◌≡◌ {A = ℕ} 0 1 = cc in
      omega arith
  away_from (suc m) i k z h e q =
      by_test (λ (f : Option Meaning). f ≡ None → ⊥) (eqb (character ws i) c)
      (λ t g. let z : ◌≡◌ {A = ℕ} 0 1 = cc in omega arith)
      (λ t g. away_from m (i + 1) k (omega arith) h g q)
      (rw (rest_more n i ws (omega arith) fits) at e)

  pub find_away : find (definitions n ws) c ≡ None → (k : ℕ) → k < n → character ws k ≡ c → ⊥
  find_away e k h = away_from k 0 k (omega arith) h (rw rest_all e)

-- h is what the search answered
module _ (ws : List ℕ) (n : ℕ) (os : List ℕ) (o : Ordered ws n os) (c : ℕ) (h : Halved) (is : h ≡ searched ws os n c) where
  module _ (place : ℕ) (e : h.place ≡ Ok place) where
    -- what is read of it lies within the order and the words
    pub place_read : place < length os
    place_read = omega (arith, place_hit ws n os o c h is place e, o.long)

    pub word_read : 2 * get_or os place 0 + 1 < length ws
    word_read = pair_read ws n os o place (place_hit ws n os o c h is place e)

    -- of the first `limit` pairs
    module _ (limit : ℕ) (within : limit ≤ n) where
      pub found_pair : {m : Meaning} → get_or os place 0 < limit → m ≡ meaning_of (get_or ws (2 * get_or os place 0 + 1) 0)
          → Some m ≡ find (definitions limit ws) c
      found_pair l p =
          let hit = pair_hit ws n os o c h is place e in
          sym (find_first limit ws (omega (arith, o.fits)) c (get_or os place 0) l hit.1
          (λ j b. pair_alone ws n os o c h is place e j (omega arith) (λ w. omega arith)) ∙ rw p)

      pub found_later : limit ≤ get_or os place 0 → None ≡ find (definitions limit ws) c
      found_later l = sym (find_nowhere limit ws (omega (arith, o.fits)) c (λ j b. pair_alone ws n os o c h is place e j (omega arith) (λ w. omega arith)))

  pub found_none : (place limit : ℕ) → limit ≤ n → h.place ≡ Err place → None ≡ find (definitions limit ws) c
  found_none place limit within e = sym (find_nowhere limit ws (omega (arith, o.fits)) c (λ j b. no_pair ws n os o c h is place e j (omega arith)))

-- ---- marks

-- a slot of no mark has no pair; s is what a call answered of the slot of c
module _ (ws : List ℕ) (n : ℕ) (marks : List ℕ) (fits : 2 * n ≤ length ws) (marked : Marks ws n marks) (c s limit : ℕ) (is : s ≡ slot_of c)
    (within : limit ≤ n) where
  pub mark_missing : get_or marks s 0 ≡ 0 → None ≡ find (definitions limit ws) c
  mark_missing e =
      sym (find_nowhere limit ws (omega (arith, fits)) c
      (λ k l q. omega (arith, e, rw (q, ← is) at (marked.marked k (omega arith)))))

pub ruleset finds = (mark_missing, place_read, word_read, found_pair, found_later, found_none)

pub counted : (n limit : ℕ) (ws : List ℕ) → 2 * n ≤ length ws → limit ≤ n → limit ≡ length (definitions limit ws)
counted n limit ws fits within = sym (definitions_length limit ws (omega arith))

-- the pairs are marked one after another
pub none_marked : (ws marks : List ℕ) → length marks ≡ slots → Marks ws 0 marks
none_marked ws marks size = record { size = size; marked = λ j l. absurd (omega arith) }

pub one_marked : (ws : List ℕ) (k : ℕ) (marks : List ℕ) (s : ℕ) → Marks ws k marks → s ≡ slot_of (get_or ws (2 * k) 0) → s < slots
    → Marks ws (k + 1) (set marks s 1)
one_marked ws k marks s before is h = record {
  size = length-set marks s 1 ∙ before.size;
  marked = λ j l.
      let at = slot_of (character ws j) in
      by_cases (eqb at s)
      (λ t. rw (eqb-true at s t) (get_or-set_same marks s 1 0 (omega (arith, before.size))))
      (λ t.
      let other = eqb-false at s t in
      let earlier =
      by_cases (eqb j k) (λ u. absurd (other (ap (λ (i : ℕ). slot_of (get_or ws (2 * i) 0)) (eqb-true j k u) ∙ sym is)))
      (λ u. omega (arith, eqb-false j k u)) in
      get_or-set_other marks s at 1 0 other ∙ before.marked j earlier);
}

-- marks everywhere mark each
pub marked_everywhere : (ws : List ℕ) (n m : ℕ) → m ≡ slots → Marks ws n (replicate m 1)
unfolding slot_of
marked_everywhere ws n m e =
    record { size = length-replicate {A = ℕ} m 1 ∙ e; marked = λ k h. get_or-replicate m (slot_of (character ws k)) 1 0 (omega arith) }
