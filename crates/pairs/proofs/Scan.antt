-- The definitions of the words by position, as a scan by index meets them.
use Rattle.std.specs.Prelude.{Option, None, Some}
use Prim.Native.Nat.{ℕ, zero, suc, ◌+◌, ◌*◌, ◌-◌, ◌/◌, ◌≤◌, ◌<◌}
use mathlib.Core.Path.{◌≡◌, refl, sym, ap, ◌∙◌}
use mathlib.Core.List.{List, [], ◌∷◌, ◌++◌, map}
use Rattle.std.specs.Simd.{first_chunks}
use native.Mathlib.Numerals.{add-one}
use native.Mathlib.Omega.{arith}
use lib.ListN.{length, get_or, take, drop, take-append-drop, drop_of_length-le, get_or-eq_default}
use lib.Seq.{append_snoc, drop-cons, length-take-le}
use borrow.Author.Tests.{eq-eqb, ne_eqb}
use Rattle.basics.proofs.Loops.{two_more}
use Rattle.definitions.specs.declared.Meaning.{Meaning}
use Rattle.definitions.specs.declared.Definition.{Definition}
use Rattle.definitions.specs.Definitions.{find}
use Rattle.pairs.specs.Words.{pair_words, charset_of, meaning_of, definition_of, definition_row, definitions}

pub definitions_length : (n : ℕ) (ws : List ℕ) → 2 * n ≤ length ws → length (definitions n ws) ≡ n
unfolding definitions
definitions_length zero ws h = refl
definitions_length (suc n) [] h = absurd (omega arith)
definitions_length (suc n) (c ∷ []) h = absurd (omega arith)
definitions_length (suc n) (c ∷ w ∷ ws) h = ap suc (definitions_length n ws (omega arith))

-- the first n pairs as rows
rows_of : (n : ℕ) (ws : List ℕ) → 2 * n ≤ length ws → map definition_row (first_chunks 2 n (take (2 * n) ws)) ≡ definitions n ws
unfolding definitions
rows_of zero ws h = refl
rows_of (suc n) [] h = absurd (omega arith)
rows_of (suc n) (c ∷ []) h = absurd (omega arith)
rows_of (suc n) (c ∷ w ∷ ws) h =
    let e : 2 * suc n ≡ suc (suc (2 * n)) = omega arith in
    rw e (ap (λ (l : List Definition). definition_of c w ∷ l) (rows_of n ws (omega arith)))

pub rows_length : (n : ℕ) (ws : List ℕ) → 2 * n ≤ length ws → length (take (2 * n) ws) / 2 ≡ n
rows_length n ws h = omega (arith, length-take-le (2 * n) ws h)

pub rows_lem : (n : ℕ) (ws : List ℕ) → 2 * n ≤ length ws
    → map definition_row (first_chunks 2 (length (take (2 * n) ws) / 2) (take (2 * n) ws)) ≡ definitions n ws
rows_lem n ws h = rw (rows_length n ws h) (rows_of n ws h)

-- a pair behind n pairs is one definition more, whatever else follows
pub definitions_two : (n : ℕ) (xs us ws : List ℕ) (a b : ℕ) → length xs ≡ 2 * n
    → definitions (n + 1) (xs ++ a ∷ b ∷ ws) ≡ definitions n (xs ++ us) ++ definition_of a b ∷ []
unfolding definitions
definitions_two zero [] us ws a b h = refl
definitions_two zero (c ∷ xs) us ws a b h = absurd (omega arith)
definitions_two (suc n) [] us ws a b h = absurd (omega arith)
definitions_two (suc n) (c ∷ []) us ws a b h = absurd (omega arith)
definitions_two (suc n) (c ∷ w ∷ xs) us ws a b h =
    let e : suc n + 1 ≡ suc (n + 1) = omega arith in
    rw e (ap (λ (l : List Definition). definition_of c w ∷ l) (definitions_two n xs us ws a b (omega arith)))

pub definitions_more : (n : ℕ) (ws : List ℕ) → 2 * n + 1 < length ws
    → definitions (n + 1) ws ≡ definitions n ws ++ definition_of (get_or ws (2 * n) 0) (get_or ws (2 * n + 1) 0) ∷ []
definitions_more n ws h =
    rw (← two_more ws (2 * n) h, take-append-drop) at
    (definitions_two n (take (2 * n) ws) (drop (2 * n) ws) (drop (2 * n + 2) ws) (get_or ws (2 * n) 0) (get_or ws (2 * n + 1) 0)
    (length-take-le (2 * n) ws (omega arith)))

-- the definitions of the pairs i to n
abbrev pub rest : ℕ → ℕ → List ℕ → List Definition
rest n i ws = definitions (n - i) (drop (2 * i) ws)

pub rest_all : (n : ℕ) (ws : List ℕ) → rest n 0 ws ≡ definitions n ws
rest_all n ws = let a : n - 0 ≡ n = omega arith in rw a

pub rest_none : (n i : ℕ) (ws : List ℕ) → n ≤ i → rest n i ws ≡ []
unfolding definitions
rest_none n i ws h = let a : n - i ≡ 0 = omega arith in rw a

pub rest_more : (n i : ℕ) (ws : List ℕ) → i < n → 2 * n ≤ length ws
    → rest n i ws ≡ definition_of (get_or ws (2 * i) 0) (get_or ws (2 * i + 1) 0) ∷ rest n (i + 1) ws
unfolding definitions
rest_more n i ws h l =
    let a : n - i ≡ suc (n - (i + 1)) = omega arith in
    let b : 2 * (i + 1) ≡ 2 * i + 2 = omega arith in
    let p : 2 * i + 1 < length ws = omega arith in
    rw (b, a, two_more ws (2 * i) p)

-- those before pair i, and the rest
pub split : (n : ℕ) (ws : List ℕ) (i : ℕ) → i ≤ n → 2 * n ≤ length ws → definitions n ws ≡ definitions i ws ++ rest n i ws
unfolding definitions
split n ws zero h l = sym (rest_all n ws)
split n ws (suc i) h l =
    let d = definition_of (get_or ws (2 * i) 0) (get_or ws (2 * i + 1) 0) in
    split n ws i (omega arith) l
    ∙ rw (rest_more n i ws (omega arith) l, ← add-one i, definitions_more i ws (omega arith)) (sym (append_snoc (definitions i ws) d (rest n (i + 1) ws)))

-- what is left of rows from row i on
pub row_next : (rows : List (List ℕ)) (i : ℕ) → i < length rows
    → map definition_row (drop i rows) ≡ definition_row (get_or rows i []) ∷ map definition_row (drop (i + 1) rows)
row_next rows i h = rw (add-one i, drop-cons rows i [] h)

pub row_none : (rows : List (List ℕ)) (i : ℕ) → length rows ≤ i → map definition_row (drop i rows) ≡ []
row_none rows i h = rw (drop_of_length-le rows h)

-- a scan for c that has come to row i; x is what it is to answer
module _ (x : Option Meaning) (rows : List (List ℕ)) (i c : ℕ) (inv : x ≡ find (map definition_row (drop i rows)) c) where
  pub scan_here : {m : Meaning} → i < length rows → get_or (get_or rows i []) 0 0 ≡ c → m ≡ meaning_of (get_or (get_or rows i []) 1 0) → Some m ≡ x
  unfolding find
  scan_here h e p = sym (inv ∙ rw (row_next rows i h, eq-eqb _ c e, p))

  pub scan_later : i < length rows → (get_or (get_or rows i []) 0 0 ≡ c → ⊥) → x ≡ find (map definition_row (drop (i + 1) rows)) c
  unfolding find
  scan_later h e = inv ∙ rw (row_next rows i h, ne_eqb _ c e)

  pub scan_none : length rows ≤ i → None ≡ x
  unfolding find
  scan_none h = sym (inv ∙ rw (row_none rows i h))

-- so few words say no set
pub few_words : (ws : List ℕ) → length ws ≤ pair_words → 0 ≡ charset_of ws
few_words ws h = sym (get_or-eq_default ws 0 {n = pair_words} h)
