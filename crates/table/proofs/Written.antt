-- Words that are a table so far: empty, and with one definition more stored.
use Prim.Native.Nat.{ℕ, zero, suc, ◌+◌, ◌*◌, ◌-◌, ◌<◌}
use mathlib.Core.Path.{◌≡◌, refl, sym, ap, ◌∙◌}
use mathlib.Core.Bool.{true}
use mathlib.Core.List.{List, [], ◌∷◌, ◌++◌, append_assoc}
use native.Mathlib.Numerals.{add-one}
use native.Mathlib.Omega.{arith}
use lib.ListN.{length, get_or, take, drop, take-append-drop, set, replicate, length-set, length-append, length-replicate}
use lib.Seq.{drop_at, drop-drop, drop-set-lt, get_or-drop, sets-eq, length-take-le}
use borrow.Author.Tests.{leb-true}
use Rattle.definitions.specs.declared.Definition.{Definition}
use Rattle.definitions.specs.declared.Meaning.{Meaning}
use Rattle.definitions.specs.declared.Meaning.TheVariants.{Typed, Shown, Alias}
use Rattle.definitions.specs.Effects.{definition_limit}
use Rattle.pairs.specs.Words.{pair_words, table_words, kind_unit, word_of, words_of, pairs_of, image_of, charset_of, definitions}
use Rattle.table.specs.Internal.{Written}
use Rattle.pairs.proofs.Scan.{definitions_length, definitions_two}
use Rattle.table.proofs.Readback.{is_number_in_range, InRange, operand_small, word_says, behind_charset, behind_beyond}

-- a set put down in zeroed words
set_behind : (m : ℕ) (u : List ℕ) (charset : ℕ) → set (replicate (suc (suc m)) 0 ++ u) m charset ≡ replicate m 0 ++ charset ∷ 0 ∷ u
set_behind zero u charset = refl
set_behind (suc m) u charset = ap (λ (l : List ℕ). 0 ∷ l) (set_behind m u charset)

pub set_put : (u ws : List ℕ) (charset : ℕ) → ws ≡ replicate table_words 0 ++ u → set ws pair_words charset ≡ replicate pair_words 0 ++ charset ∷ 0 ∷ u
set_put u ws charset e = rw e (set_behind pair_words u charset)

-- words that were made empty are the table of no definition, for their set
module _ (u empty : List ℕ) (charset : ℕ) (q : empty ≡ replicate pair_words 0 ++ charset ∷ 0 ∷ u) where
  behind : drop pair_words empty ≡ charset ∷ 0 ∷ u
  behind = rw q (drop_at (replicate pair_words 0) (charset ∷ 0 ∷ u) pair_words (length-replicate {A = ℕ} pair_words 0))

  pub empty_charset : charset_of empty ≡ charset
  empty_charset = behind_charset empty u charset behind

  pub empty_beyond : drop table_words empty ≡ u
  empty_beyond = behind_beyond empty u charset behind

  pub empty_written : Written empty 0
  unfolding definitions words_of
  empty_written = record {
    image = rw (empty_charset, empty_beyond) (q ∙ sym (append_assoc (replicate pair_words 0) (charset ∷ 0 ∷ []) u));
    room = omega arith;
    long = rw q (omega (arith, length-append (replicate pair_words 0) (charset ∷ 0 ∷ u), length-replicate {A = ℕ} pair_words 0));
  }

-- words that have the same behind their pairs are for the same set, and have the same beyond the table
module _ (a b : List ℕ) (same : drop pair_words a ≡ drop pair_words b) where
  pub same_charset : charset_of a ≡ charset_of b
  same_charset = sym (get_or-drop pair_words a 0 0) ∙ ap (λ (l : List ℕ). get_or l 0 0) same ∙ get_or-drop pair_words b 0 0

  pub same_beyond : drop table_words a ≡ drop table_words b
  same_beyond = sym (drop-drop 2 pair_words a) ∙ ap (drop 2) same ∙ drop-drop 2 pair_words b

-- the words with definition n stored
abbrev pub stored : List ℕ → ℕ → Definition → List ℕ
stored ws n d = set (set ws (2 * n) d.character) (2 * n + 1) (word_of d.meaning)

-- they differ from the words before in these two
stored_two : (ws : List ℕ) (n : ℕ) (d : Definition) → 2 * n + 1 < length ws
    → stored ws n d ≡ take (2 * n) ws ++ d.character ∷ word_of d.meaning ∷ drop (2 * n + 2) ws
stored_two ws n d h = rw add-one (rw append_assoc at (sets-eq (d.character ∷ word_of d.meaning ∷ []) ws (2 * n) (omega arith)))

stored_words : (ds : List Definition) (d : Definition) (v : List ℕ) → stored (words_of ds ++ 0 ∷ 0 ∷ v) (length ds) d ≡ words_of (ds ++ d ∷ []) ++ v
unfolding words_of
stored_words [] d v = refl
stored_words (e ∷ ds) d v =
    let p : 2 * suc (length ds) ≡ suc (suc (2 * length ds)) = omega arith in
    let q : suc (suc (2 * length ds)) + 1 ≡ suc (suc (2 * length ds + 1)) = omega arith in
    rw (p, q) (ap (λ (l : List ℕ). e.character ∷ word_of e.meaning ∷ l) (stored_words ds d v))

-- stored behind the pairs of some definitions it makes the pairs of one more
stored_behind : (ds : List Definition) (d : Definition) (u : List ℕ) (n : ℕ) → length ds ≡ n → n < definition_limit
    → stored (pairs_of ds ++ u) n d ≡ pairs_of (ds ++ d ∷ []) ++ u
stored_behind ds d u n e h =
    let p : pair_words - 2 * length ds ≡ suc (suc (pair_words - 2 * length (ds ++ d ∷ []))) = omega (arith, length-append ds (d ∷ [])) in
    rw (← e, append_assoc (words_of ds), p, append_assoc (words_of (ds ++ d ∷ []))) (stored_words ds d _)

word_small : (m : Meaning) → is_number_in_range m ≡ true → word_of m < 4 * kind_unit
word_small (Typed dots) e = omega (arith, leb-true dots 255 e)
word_small (Shown dots) e = omega (arith, leb-true dots 255 e)
word_small (Alias target) e = omega (arith, operand_small target e)

module _ (ws : List ℕ) (n : ℕ) (w : Written ws n) where
  pub written_length : length (definitions n ws) ≡ n
  written_length = definitions_length n ws (omega arith)

  -- words that are the table of n definitions are that of n + 1 with one more stored
  module _ (d : Definition) (room : n < definition_limit) (fit : InRange d) where
    -- what the store asks for
    pub store_fits : (2 * n + 1 < length ws) × (word_of d.meaning < 4 * kind_unit)
    store_fits = (omega arith, word_small d.meaning fit.number)

    abbrev end : List ℕ
    end = charset_of ws ∷ 0 ∷ []

    stored_image : stored ws n d ≡ image_of (charset_of ws) (definitions n ws ++ d ∷ []) ++ drop table_words ws
    stored_image =
        ap (λ (v : List ℕ). stored v n d) (w.image ∙ append_assoc (pairs_of (definitions n ws)) end (drop table_words ws))
        ∙ stored_behind (definitions n ws) d (charset_of ws ∷ 0 ∷ drop table_words ws) n written_length room
        ∙ sym (append_assoc (pairs_of (definitions n ws ++ d ∷ [])) end (drop table_words ws))

    pub stored_beyond : drop pair_words (stored ws n d) ≡ drop pair_words ws
    stored_beyond =
        drop-set-lt pair_words (set ws (2 * n) d.character) (2 * n + 1) (word_of d.meaning) (omega arith)
        ∙ drop-set-lt pair_words ws (2 * n) d.character (omega arith)

    pub stored_more : definitions (n + 1) (stored ws n d) ≡ definitions n ws ++ d ∷ []
    stored_more =
        rw (stored_two ws n d (omega arith))
        (rw (take-append-drop, (word_says d.meaning fit.number).1) at
        (definitions_two n (take (2 * n) ws) (drop (2 * n) ws) (drop (2 * n + 2) ws) d.character (word_of d.meaning) (length-take-le (2 * n) ws (omega arith))))

    pub stored_written : Written (stored ws n d) (n + 1)
    stored_written = record {
      image = rw (stored_more, same_charset (stored ws n d) ws stored_beyond, same_beyond (stored ws n d) ws stored_beyond) stored_image;
      room = omega arith;
      long = simp length-set w.long;
    }
