-- The check of the words as a loop goes it, pair by pair, and the bits that words have between them.
use Prim.Native.Nat.{ℕ, ◌+◌, ◌*◌, ◌≤◌, ◌<◌}
use mathlib.Core.Path.{◌≡◌, refl, sym, ap, ◌∙◌}
use mathlib.Core.Bool.{Bool, true, false, not, ◌&&◌}
use mathlib.Core.List.{List, [], ◌∷◌, ◌++◌, map}
use native.Mathlib.Omega.{arith}
use lib.ListN.{length, get_or, take, drop, drop_of_length-le}
use lib.Seq.{length-take-le}
use lib.Bits.{bit_or}
use borrow.Author.Tests.{eq-eqb}
use Rattle.basics.specs.Choice.{pick}
use Rattle.basics.proofs.Tests.{told}
use Rattle.basics.specs.Internal.{bits_with, bits_of}
use Rattle.basics.proofs.Bits.{or_more, bits_more}
use Rattle.basics.proofs.Loops.{two_more}
use Rattle.definitions.specs.declared.Meaning.{Meaning}
use Rattle.definitions.specs.declared.Definition.{Definition}
use Rattle.definitions.specs.Definitions.{find}
use Rattle.definitions.specs.Effects.{definition_limit, is_defined, closes_loop}
use Rattle.std.specs.Prelude.{Result, Ok, Err}
use Rattle.pairs.specs.Words.{pair_words, table_words, charset_of, meaning_of, definition_of, definition_row, definitions}
use Rattle.table.specs.Check.{is_zero_pair, is_sound_pair, zero_from, check_from, is_sound_end, and_end, check_of}
use Rattle.pairs.proofs.Scan.{definitions_length, definitions_more, scan_here, scan_none}

module _ (ws : List ℕ) (k : ℕ) where
  abbrev character : ℕ
  character = get_or ws (2 * k) 0

  abbrev word : ℕ
  word = get_or ws (2 * k + 1) 0

  abbrev behind : List ℕ
  behind = drop (2 * (k + 1)) ws

  pair : length ws ≡ pair_words → k < definition_limit → drop (2 * k) ws ≡ character ∷ word ∷ behind
  pair len h = let a : 2 * (k + 1) ≡ 2 * k + 2 = omega arith in rw a (two_more ws (2 * k) (omega arith))

  over : length ws ≡ pair_words → definition_limit ≤ k → drop (2 * k) ws ≡ []
  over len h = drop_of_length-le ws {i = 2 * k} (omega arith)

-- words that have no bit between them are zero pairs
no_bits_with : (ws : List ℕ) (bits n k : ℕ) → bits_with ws bits ≡ 0 → Ok n ≡ zero_from n k ws
unfolding bits_with zero_from
no_bits_with [] bits n k e = refl
no_bits_with (c ∷ []) bits n k e = refl
no_bits_with (c ∷ w ∷ ws) bits n k e =
    let before : ℕ = bit_or bits c in
    let none : bit_or before w ≡ 0 = omega (arith, bits_more ws (bit_or before w), e) in
    let first : c ≡ 0 = omega (arith, none, (or_more bits c).1, (or_more before w).0) in
    let second : w ≡ 0 = omega (arith, none, (or_more before w).1) in
    rw (eq-eqb c 0 first, eq-eqb w 0 second) (no_bits_with ws (bit_or before w) n (k + 1) e)

-- r is what a call answered of the bits
pub no_bits : (r n k : ℕ) (ws : List ℕ) → r ≡ bits_of ws → r ≡ 0 → Ok n ≡ zero_from n k ws
no_bits r n k ws e q = no_bits_with ws 0 n k (told e q)

-- behind a zero pair the check has come from the pair `from` to the pair k
module _ (n from : ℕ) (ws : List ℕ) (k : ℕ) (inv : zero_from n k (drop (2 * k) ws) ≡ zero_from n from (drop (2 * from) ws)) (len : length ws ≡ pair_words) where
  pub zero_next : {v : Result ℕ ℕ} → k < definition_limit → v ≡ pick (is_zero_pair (character ws k) (word ws k)) (zero_from n (k + 1) (behind ws k)) (Err k)
      → v ≡ zero_from n from (drop (2 * from) ws)
  unfolding zero_from
  zero_next h e = e ∙ rw (pair ws k len h) at inv

  pub zero_over : definition_limit ≤ k → Ok n ≡ zero_from n from (drop (2 * from) ws)
  unfolding zero_from
  zero_over h = rw (over ws k len h) at inv

-- the pair k after the definitions before it, with what the check says of the pairs behind it
unfoldable pub if_fresh : List Definition → Definition → ℕ → Result ℕ ℕ → Result ℕ ℕ
if_fresh ds d k next = pick (is_defined ds d.character) (Err k) (pick (closes_loop ds d) (Err k) next)

in_turn : (sound defined closes : Bool) (x y : Result ℕ ℕ) → pick (sound && (not defined && not closes)) x y ≡ pick sound (pick defined y (pick closes y x)) y
in_turn false defined closes x y = refl
in_turn true true closes x y = refl
in_turn true false true x y = refl
in_turn true false false x y = refl

-- n and more are what the loop has for the number of the definitions and for them with one more
check_first : (ds more : List Definition) (n c w : ℕ) (ws : List ℕ) → length ds ≡ n → more ≡ ds ++ definition_of c w ∷ [] → check_from ds (c ∷ w ∷ ws)
    ≡ pick (is_zero_pair c w) (zero_from n (n + 1) ws) (pick (is_sound_pair c w) (if_fresh ds (definition_of c w) n (check_from more ws)) (Err n))
unfolding check_from if_fresh
check_first ds more n c w ws e m =
    rw (← e, m) (ap (pick (is_zero_pair c w) _) (in_turn (is_sound_pair c w) (is_defined ds c) (closes_loop ds (definition_of c w)) _ _))

pub check_start : (ws : List ℕ) → check_from (definitions 0 ws) (drop (2 * 0) ws) ≡ check_from [] ws
unfolding definitions
check_start ws = refl

-- the check has come to the pair k, behind k definitions
module _ (ws : List ℕ) (k : ℕ) (inv : check_from (definitions k ws) (drop (2 * k) ws) ≡ check_from [] ws) (len : length ws ≡ pair_words) where
  pub check_next : {v : Result ℕ ℕ} → k < definition_limit
      → v ≡ pick (is_zero_pair (character ws k) (word ws k)) (zero_from k (k + 1) (behind ws k))
      (pick (is_sound_pair (character ws k) (word ws k))
      (if_fresh (definitions k ws) (definition_of (character ws k) (word ws k)) k (check_from (definitions (k + 1) ws) (behind ws k)))
      (Err k))
      → v ≡ check_from [] ws
  check_next h e =
      e ∙ sym (check_first (definitions k ws) (definitions (k + 1) ws) k _ _ _ (definitions_length k ws (omega arith)) (definitions_more k ws (omega arith)))
      ∙ rw (pair ws k len h) at inv

  pub check_over : k ≤ definition_limit → definition_limit ≤ k → Ok definition_limit ≡ check_from [] ws
  unfolding check_from
  check_over top h =
      let e : length (definitions k ws) ≡ definition_limit = omega (arith, definitions_length k ws (omega arith)) in
      ap Ok (sym e) ∙ rw (over ws k len h) at inv

-- the pair k by itself is sound: a pair before it has its character, it closes a loop, or the check goes on
module _ (next : Result ℕ ℕ) (ws : List ℕ) (k c w : ℕ) (inv : if_fresh (definitions k ws) (definition_of c w) k next ≡ check_from [] ws)
    (rows : List (List ℕ)) (j : ℕ) (scan : find (definitions k ws) c ≡ find (map definition_row (drop j rows)) c) where
  pub check_repeat : j < length rows → get_or (get_or rows j []) 0 0 ≡ c → Err k ≡ check_from [] ws
  unfolding if_fresh
  check_repeat h e = rw (← scan_here _ rows j c scan h e refl) at inv

  pub check_none : {m : Meaning} {v : Result ℕ ℕ} → length rows ≤ j → m ≡ meaning_of w
      → v ≡ pick (closes_loop (definitions k ws) (record { character = c; meaning = m })) (Err k) next → v ≡ check_from [] ws
  unfolding if_fresh
  check_none none says e = (rw says at e) ∙ rw (← scan_none _ rows j c scan none) at inv

-- ---- the whole table

pub pairs_part : (ws : List ℕ) → table_words ≤ length ws → length (take pair_words ws) ≡ pair_words
pairs_part ws h = length-take-le pair_words ws (omega arith)

-- p is what the check of the pairs answered, and s what a call answered of the two words behind them
module _ (ws : List ℕ) (p : Result ℕ ℕ) (pairs : p ≡ check_from [] (take pair_words ws)) where
  pub check_fault : (pair : ℕ) → p ≡ Err pair → Err pair ≡ check_of ws
  unfolding check_of
  check_fault pair q = rw (← pairs, q)

  module _ (n : ℕ) (s : Bool) (q : p ≡ Ok n) (end : s ≡ is_sound_end (charset_of ws) (get_or ws (pair_words + 1) 0)) where
    pub check_sound : s ≡ true → Ok n ≡ check_of ws
    unfolding check_of
    check_sound t = rw (← pairs, q, ← end, t)

    pub check_end : s ≡ false → Err definition_limit ≡ check_of ws
    unfolding check_of
    check_end t = rw (← pairs, q, ← end, t)

-- p is what the check of the pairs answered
pub check_whole : (ws : List ℕ) (p : Result ℕ ℕ) {r : Result ℕ ℕ} → p ≡ check_from [] (take pair_words ws)
    → r ≡ and_end (is_sound_end (charset_of ws) (get_or ws (pair_words + 1) 0)) p → r ≡ check_of ws
unfolding check_of
check_whole ws p e q = rw (← e) q

-- s is what a call answered of the two words behind the pairs, and c the check of the pairs
module _ (c : Result ℕ ℕ) (n : ℕ) (s t : Bool) (q : c ≡ Ok n) (e : s ≡ t) where
  pub end_sound : s ≡ true → Ok n ≡ and_end t c
  end_sound is = rw (q, told e is)

  pub end_fault : s ≡ false → Err definition_limit ≡ and_end t c
  end_fault is = rw (q, told e is)

pub fault_stays : (t : Bool) (c : Result ℕ ℕ) (pair : ℕ) → c ≡ Err pair → Err pair ≡ and_end t c
fault_stays t c pair q = rw q
