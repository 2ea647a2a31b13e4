-- The words of a table are read back as its definitions, and words that pass the check are a table: definitions in range, the
-- words of one meaning, of a whole image, and what is known of a lent slice that is sound.
use Prim.Native.Nat.{ℕ, zero, suc, ◌+◌, ◌*◌, ◌-◌, ◌/◌, ◌%◌, ◌≤◌, ◌<◌}
use mathlib.Core.Path.{◌≡◌, refl, sym, ap, ◌∙◌}
use mathlib.Core.Bool.{Bool, true, false, not, ◌&&◌, ◌||◌}
use mathlib.Core.List.{List, [], ◌∷◌, ◌++◌, append_assoc, append-nil}
use native.Mathlib.Omega.{arith}
use lib.Dec.{eqb, leb, ltb}
use lib.ListN.{length, get_or, take, drop, replicate, length-append, length-replicate, take-append-drop}
use lib.Seq.{append_snoc, take_at, drop_at, drop-drop, get_or-drop, length-take-le}
use borrow.Author.Tests.{eqb-true, leb-true, le-leb, lt-leb, ltb-true, ltb-false, le-ltb, not-true}
use Rattle.basics.specs.Choice.{pick}
use Rattle.basics.proofs.Tests.{both, by_test}
use Rattle.basics.proofs.Loops.{two_more}
use Rattle.basics.specs.Refusals.{Reply, answered}
use Rattle.scalars.specs.Characters.{is_scalar, is_braille, is_operand, is_charset}
use Rattle.definitions.specs.declared.Meaning.{Meaning}
use Rattle.definitions.specs.declared.Meaning.TheVariants.{Typed, Shown, Alias}
use Rattle.definitions.specs.declared.Definition.{Definition}
use Rattle.std.specs.Prelude.{Result, Ok, Err}
use Rattle.definitions.specs.Effects.{definition_limit, is_defined, closes_loop, verdict_of}
use Rattle.definitions.proofs.Admission.{admissible, Admits, admits_limit}
use Rattle.pairs.specs.Words.{pair_words, table_words, kind_unit, word_of, words_of, pairs_of, image_of, charset_of, is_sound_word, meaning_of}
use Rattle.pairs.specs.Words.{definition_of, definitions}
use Rattle.table.specs.Check.{is_zero_pair, is_definable, is_sound_pair, is_fresh, zero_from, check_from, is_sound_end, and_end, check_of}
use Rattle.table.specs.Check.{checked_table, lent_table}
use Rattle.std.specs.Prelude.{Result, Ok, Err}

-- ---- numbers in range

abbrev pub is_number_in_range : Meaning → Bool
is_number_in_range (Typed dots) = leb dots 255
is_number_in_range (Shown dots) = leb dots 255
is_number_in_range (Alias target) = is_operand target

-- a character and a target that an operand can stand for, dots of one cell
pub record InRange (d : Definition) : Type 0 where
  pub character : is_operand d.character ≡ true
  pub number : is_number_in_range d.meaning ≡ true

abbrev pub AllInRange : List Definition → Type 0
AllInRange [] = Unit
AllInRange (d ∷ ds) = InRange d × AllInRange ds

pub operand_below : (c : ℕ) → is_operand c ≡ true → c < 0x110000
operand_below c h = go (ltb c 0xD800) refl (both (is_scalar c) _ h).0
  where
    go : (b : Bool) → ltb c 0xD800 ≡ b → (b || (leb 0xE000 c && ltb c 0x110000)) ≡ true → c < 0x110000
    go true p e = omega (arith, ltb-true c 0xD800 p)
    go false p e = ltb-true c 0x110000 (both (leb 0xE000 c) (ltb c 0x110000) e).1

-- it leaves the kind of a second word alone
pub operand_small : (c : ℕ) → is_operand c ≡ true → c < kind_unit
operand_small c h = omega (arith, operand_below c h)

-- ---- one meaning as a word

-- kind and number come back
parts_back : (kind number : ℕ) → number < kind_unit → ((kind * kind_unit + number) / kind_unit ≡ kind) × ((kind * kind_unit + number) % kind_unit ≡ number)
parts_back kind number h = (omega arith, omega arith)

dots_back : (kind dots : ℕ) → dots ≤ 255 → (kind * kind_unit + dots) % 256 ≡ dots
dots_back kind dots l = omega arith

-- the word of a meaning in range is sound, and says that meaning
pub word_says : (m : Meaning) → is_number_in_range m ≡ true → (is_sound_word (word_of m) ≡ true) × (meaning_of (word_of m) ≡ m)
unfolding is_sound_word meaning_of
word_says (Typed dots) e = let l = leb-true dots 255 e in let p = parts_back 1 dots (omega arith) in (rw (p.0, p.1) e, rw (p.0, dots_back 1 dots l))
word_says (Shown dots) e = let l = leb-true dots 255 e in let p = parts_back 2 dots (omega arith) in (rw (p.0, p.1) e, rw (p.0, dots_back 2 dots l))
word_says (Alias target) e = let p = parts_back 3 target (operand_small target e) in (rw (p.0, p.1) e, rw (p.0, p.1))

-- what a sound word says is in range, and has that word
sound_says : (w : ℕ) → is_sound_word w ≡ true → (is_number_in_range (meaning_of w) ≡ true) × (word_of (meaning_of w) ≡ w)
unfolding is_sound_word meaning_of
sound_says w = go (eqb (w / kind_unit) 1) (eqb (w / kind_unit) 2) (eqb (w / kind_unit) 3) refl refl refl
  where
    go : (a b c : Bool) → eqb (w / kind_unit) 1 ≡ a → eqb (w / kind_unit) 2 ≡ b → eqb (w / kind_unit) 3 ≡ c
        → pick a (leb (w % kind_unit) 255) (pick b (leb (w % kind_unit) 255) (pick c (is_operand (w % kind_unit)) false)) ≡ true
        → (is_number_in_range (pick a (Typed (w % 256)) (pick b (Shown (w % 256)) (Alias (w % kind_unit)))) ≡ true)
        × (word_of (pick a (Typed (w % 256)) (pick b (Shown (w % 256)) (Alias (w % kind_unit)))) ≡ w)
    go true b c p q r e = (le-leb (w % 256) 255 (omega arith), omega (arith, eqb-true (w / kind_unit) 1 p, leb-true (w % kind_unit) 255 e))
    go false true c p q r e = (le-leb (w % 256) 255 (omega arith), omega (arith, eqb-true (w / kind_unit) 2 q, leb-true (w % kind_unit) 255 e))
    go false false true p q r e = (e, omega (arith, eqb-true (w / kind_unit) 3 r))
    go false false false p q r e = (cc, cc)

-- the word of an alias is one of 32 bits
pub alias_fits : (m : Meaning) (target : ℕ) → word_of m < 4 * kind_unit → m ≡ Alias target → 3 * kind_unit + target < 0x100000000
alias_fits m target h q = omega (arith, rw q at h)

zero_pair : (c w : ℕ) → is_zero_pair c w ≡ true → (c ≡ 0) × (w ≡ 0)
zero_pair c w e = let parts = both (eqb c 0) (eqb w 0) e in (eqb-true c 0 parts.0, eqb-true w 0 parts.1)

-- a pair with a sound word is not zero
sound_not_zero : (c w : ℕ) → is_sound_word w ≡ true → is_zero_pair c w ≡ false
unfolding is_sound_word
sound_not_zero c w e = go (is_zero_pair c w) refl
  where
    go : (b : Bool) → is_zero_pair c w ≡ b → b ≡ false
    go true p = sym (rw (zero_pair c w p).1 at e)
    go false p = refl

-- ---- the words of a table

pub words_length : (ds : List Definition) → length (words_of ds) ≡ 2 * length ds
unfolding words_of
words_length [] = refl
words_length (d ∷ ds) = omega (arith, words_length ds)

pub pairs_length : (ds : List Definition) → length ds ≤ definition_limit → length (pairs_of ds) ≡ pair_words
pairs_length ds h =
    omega (
      arith,
      length-append (words_of ds) (replicate (pair_words - 2 * length ds) 0),
      words_length ds,
      length-replicate {A = ℕ} (pair_words - 2 * length ds) 0,
    )

-- what stands behind the pairs says the set, and what lies beyond the table
module _ (ws u : List ℕ) (charset : ℕ) (behind : drop pair_words ws ≡ charset ∷ 0 ∷ u) where
  pub behind_charset : charset_of ws ≡ charset
  behind_charset = sym (get_or-drop pair_words ws 0 0) ∙ ap (λ (l : List ℕ). get_or l 0 0) behind

  pub behind_last : get_or ws (pair_words + 1) 0 ≡ 0
  behind_last = sym (get_or-drop pair_words ws 1 0) ∙ ap (λ (l : List ℕ). get_or l 1 0) behind

  pub behind_beyond : drop table_words ws ≡ u
  behind_beyond = sym (drop-drop 2 pair_words ws) ∙ ap (drop 2) behind

-- as many definitions as there are come back, whatever words follow
definitions_back : (ds : List Definition) (ws : List ℕ) → AllInRange ds → definitions (length ds) (words_of ds ++ ws) ≡ ds
unfolding definitions words_of
definitions_back [] ws f = refl
definitions_back (d ∷ ds) ws f = rw ((word_says d.meaning f.0.number).1, definitions_back ds ws f.1)

zeros_sound : (n k m : ℕ) → zero_from n k (replicate m 0) ≡ Ok n
unfolding zero_from
zeros_sound n k zero = refl
zeros_sound n k (suc zero) = refl
zeros_sound n k (suc (suc m)) = zeros_sound n (k + 1) m

none_sound : (ds : List Definition) (m : ℕ) → check_from ds (replicate m 0) ≡ Ok (length ds)
unfolding check_from
none_sound ds zero = refl
none_sound ds (suc zero) = refl
none_sound ds (suc (suc m)) = zeros_sound (length ds) (length ds + 1) m

words_sound : (rs ds : List Definition) (m : ℕ) → Admits ds rs → AllInRange rs → check_from ds (words_of rs ++ replicate m 0) ≡ Ok (length (ds ++ rs))
unfolding check_from words_of
words_sound [] ds m h f = rw append-nil (none_sound ds m)
words_sound (d ∷ rs) ds m h f =
    let says = word_says d.meaning f.0.number in
    let a = admissible ds d h.0 in
    rw (sound_not_zero d.character (word_of d.meaning) says.0, f.0.character, a.plain, says.0)
    (rw (says.1, a.fresh, a.opens)
    (rw append_snoc at (words_sound rs (ds ++ d ∷ []) m h.1 f.1)))

module _ (ds : List Definition) (h : Admits [] ds) (f : AllInRange ds) (charset : ℕ) (u : List ℕ) where
  abbrev image : List ℕ
  image = image_of charset ds ++ u

  parts : image ≡ pairs_of ds ++ charset ∷ 0 ∷ u
  parts = append_assoc (pairs_of ds) (charset ∷ 0 ∷ []) u

  behind : drop pair_words image ≡ charset ∷ 0 ∷ u
  behind = rw parts (drop_at (pairs_of ds) (charset ∷ 0 ∷ u) pair_words (pairs_length ds (admits_limit ds h)))

  pub image_charset : charset_of image ≡ charset
  image_charset = behind_charset image u charset behind

  -- its pairs are its definitions, whatever words follow
  pub image_back : definitions (length ds) image ≡ ds
  image_back = rw (parts, append_assoc) (definitions_back ds (replicate (pair_words - 2 * length ds) 0 ++ charset ∷ 0 ∷ u) f)

  -- an image passes the check
  module _ (known : is_charset charset ≡ true) where
    image_sound : check_of image ≡ Ok (length ds)
    unfolding check_of
    image_sound =
        let pairs : take pair_words image ≡ pairs_of ds = rw parts (take_at (pairs_of ds) (charset ∷ 0 ∷ u) pair_words (pairs_length ds (admits_limit ds h))) in
        rw (image_charset, behind_last image u charset behind, known, pairs, words_sound ds [] (pair_words - 2 * length ds) h f)

    -- so it is the table of its definitions
    pub image_lent : lent_table image ≡ answered ds
    unfolding lent_table
    image_lent =
        let long : table_words ≤ length image =
        omega (arith, ap length parts, length-append (pairs_of ds) (charset ∷ 0 ∷ u), pairs_length ds (admits_limit ds h)) in
        rw (le-ltb (length image) table_words long, image_sound, image_back)

-- ---- words that pass the check

-- a check that finds no fault
pub no_fault : (b : Bool) (x : Result ℕ ℕ) (k : ℕ) {n : ℕ} → pick b x (Err k) ≡ Ok n → (b ≡ true) × (x ≡ Ok n)
no_fault true x k e = (refl, e)
no_fault false x k e = (cc, cc)

zeros_back : (n k : ℕ) (ws : List ℕ) {r : ℕ} (m : ℕ) → length ws ≡ 2 * m → zero_from n k ws ≡ Ok r → (n ≡ r) × (ws ≡ replicate (length ws) 0)
unfolding zero_from
zeros_back n k [] m l e = (cc, refl)
zeros_back n k (c ∷ []) m l e = absurd (omega arith)
zeros_back n k (c ∷ w ∷ ws) zero l e = absurd (omega arith)
zeros_back n k (c ∷ w ∷ ws) (suc m) l e =
    let parts = no_fault (is_zero_pair c w) (zero_from n (k + 1) ws) k e in
    let rest = zeros_back n (k + 1) ws m (omega arith) parts.1 in
    let zero-words = zero_pair c w parts.0 in
    (rest.0, cc (rest.1, zero-words.0, zero-words.1))

-- what words behind the definitions ds are that pass the check with n in all
record PairsRead (ds : List Definition) (ws : List ℕ) (n : ℕ) : Type 0 where
  rest : List Definition
  count : n ≡ length ds + length rest
  admits : Admits ds rest
  in_range : AllInRange rest
  words : ws ≡ words_of rest ++ replicate (length ws - 2 * length rest) 0

no_more : (ds : List Definition) (ws : List ℕ) {n : ℕ} → length ds ≡ n → ws ≡ replicate (length ws) 0 → PairsRead ds ws n
unfolding words_of
no_more ds ws e z =
    let l : length ws - 0 ≡ length ws = omega arith in
    record { rest = []; count = omega arith; admits = tt; in_range = tt; words = rw l z }

fresh_admitted : (ds : List Definition) (d : Definition) → is_braille d.character ≡ false → is_fresh ds d ≡ true → length ds < definition_limit
    → verdict_of ds d ≡ Ok tt
unfolding verdict_of
fresh_admitted ds d plain e room =
    let parts = both (not (is_defined ds d.character)) (not (closes_loop ds d)) e in
    rw (plain, not-true (is_defined ds d.character) parts.0, not-true (closes_loop ds d) parts.1, lt-leb definition_limit (length ds) room)

one_more : (ds : List Definition) (c w : ℕ) (ws : List ℕ) {n : ℕ} → length ds < definition_limit → (is_sound_pair c w && is_fresh ds (definition_of c w)) ≡ true
    → PairsRead (ds ++ definition_of c w ∷ []) ws n → PairsRead ds (c ∷ w ∷ ws) n
unfolding words_of
one_more ds c w ws room e r =
    let parts = both (is_sound_pair c w) (is_fresh ds (definition_of c w)) e in
    let sound = both (is_definable c) (is_sound_word w) parts.0 in
    let definable = both (is_operand c) (not (is_braille c)) sound.0 in
    let says = sound_says w sound.1 in
    let l : suc (suc (length ws)) - 2 * suc (length r.rest) ≡ length ws - 2 * length r.rest = omega arith in
    record {
      rest = definition_of c w ∷ r.rest;
      count = omega (arith, r.count, length-append ds (definition_of c w ∷ []));
      admits = (fresh_admitted ds (definition_of c w) (not-true (is_braille c) definable.1) parts.1 room, r.admits);
      in_range = (record { character = definable.0; number = says.0 }, r.in_range);
      words = rw (l, says.1) (ap (λ (v : List ℕ). c ∷ w ∷ v) r.words);
    }

check_reads : (ds : List Definition) (ws : List ℕ) {n : ℕ} (m : ℕ) → length ws ≡ 2 * m → length ds + m ≤ definition_limit → check_from ds ws ≡ Ok n
    → PairsRead ds ws n
unfolding check_from
check_reads ds [] m l room e = no_more ds [] (cc) refl
check_reads ds (c ∷ []) m l room e = absurd (omega arith)
check_reads ds (c ∷ w ∷ ws) zero l room e = absurd (omega arith)
check_reads ds (c ∷ w ∷ ws) {n} (suc m) l room e =
    by_test (λ (x : Result ℕ ℕ). x ≡ Ok n → PairsRead ds (c ∷ w ∷ ws) n) (is_zero_pair c w)
    (λ p g.
    let zeros = zeros_back (length ds) (length ds + 1) ws m (omega arith) g in
    let pair = zero_pair c w p in
    no_more ds (c ∷ w ∷ ws) zeros.0 (cc (zeros.1, pair.0, pair.1)))
    (λ p g.
    let ds' = ds ++ definition_of c w ∷ [] in
    let parts = no_fault (is_sound_pair c w && is_fresh ds (definition_of c w)) (check_from ds' ws) (length ds) g in
    one_more ds c w ws (omega arith) parts.0 (check_reads ds' ws m (omega arith) (omega (arith, length-append ds (definition_of c w ∷ []))) parts.1))
    e

-- what is known of a lent slice that passes the check with n definitions
pub record Lent (ws : List ℕ) (n : ℕ) : Type 0 where
  pub admits : Admits [] (definitions n ws)
  pub in_range : AllInRange (definitions n ws)
  pub count : length (definitions n ws) ≡ n
  pub limit : n ≤ definition_limit
  pub fits : 2 * n ≤ length ws
  pub charset : is_charset (charset_of ws) ≡ true
  pub image : ws ≡ image_of (charset_of ws) (definitions n ws) ++ drop table_words ws

lent_read : (ws : List ℕ) (n : ℕ) → table_words ≤ length ws → PairsRead [] (take pair_words ws) n
    → is_sound_end (charset_of ws) (get_or ws (pair_words + 1) 0) ≡ true → Lent ws n
lent_read ws n long r sound =
    let end = both (is_charset (charset_of ws)) (eqb (get_or ws (pair_words + 1) 0) 0) sound in
    let pairs : take pair_words ws ≡ pairs_of r.rest = rw (length-take-le pair_words ws (omega arith)) at r.words in
    let behind : drop pair_words ws ≡ charset_of ws ∷ 0 ∷ drop table_words ws =
    rw (eqb-true (get_or ws (pair_words + 1) 0) 0 end.1) at (two_more ws pair_words (omega arith)) in
    let image : ws ≡ image_of (charset_of ws) r.rest ++ drop table_words ws =
    sym (take-append-drop pair_words ws) ∙ rw (pairs, behind) (sym (append_assoc (pairs_of r.rest) (charset_of ws ∷ 0 ∷ []) (drop table_words ws))) in
    let count : n ≡ length r.rest = omega (arith, r.count) in
    let back : definitions n ws ≡ r.rest = rw count (rw (← image) at (image_back r.rest r.admits r.in_range (charset_of ws) (drop table_words ws))) in
    let limit = admits_limit r.rest r.admits in
    record {
      admits = rw back r.admits;
      in_range = rw back r.in_range;
      count = ap length back ∙ sym count;
      limit = omega arith;
      fits = omega arith;
      charset = end.0;
      image = rw back image;
    }

-- both parts of a check that is passed
pub sound_parts : (ws : List ℕ) (n : ℕ) → check_of ws ≡ Ok n
    → (is_sound_end (charset_of ws) (get_or ws (pair_words + 1) 0) ≡ true) × (check_from [] (take pair_words ws) ≡ Ok n)
unfolding check_of
sound_parts ws n e = go (check_from [] (take pair_words ws)) refl e
  where
    go : (pairs : Result ℕ ℕ) → check_from [] (take pair_words ws) ≡ pairs → and_end (is_sound_end (charset_of ws) (get_or ws (pair_words + 1) 0)) pairs ≡ Ok n
        → (is_sound_end (charset_of ws) (get_or ws (pair_words + 1) 0) ≡ true) × (check_from [] (take pair_words ws) ≡ Ok n)
    go (Ok m) p q = let parts = no_fault (is_sound_end (charset_of ws) (get_or ws (pair_words + 1) 0)) (Ok m) definition_limit q in (parts.0, p ∙ parts.1)
    go (Err pair) p q = absurd (let z : ◌≡◌ {A = ℕ} 0 1 = cc in omega arith)

pub lent : (ws : List ℕ) (n : ℕ) → table_words ≤ length ws → check_of ws ≡ Ok n → Lent ws n
lent ws n long e =
    let parts = sound_parts ws n e in
    lent_read ws n long (check_reads [] (take pair_words ws) definition_limit (length-take-le pair_words ws (omega arith)) (omega arith) parts.1) parts.0

-- what holds of the pairs of a slice that passes the check holds of the table that it is
pub lent_table_lem : (P : List Definition → Type 0) (ws : List ℕ) (ds : List Definition) → ((n : ℕ) → Lent ws n → P (definitions n ws))
    → lent_table ws ≡ answered ds → P ds
unfolding lent_table
lent_table_lem P ws ds holds e =
    by_test (λ (r : Reply (List Definition)). r ≡ answered ds → P ds) (ltb (length ws) table_words)
    (λ p g. absurd (let z : ◌≡◌ {A = ℕ} 0 1 = cc in omega arith))
    (λ p g. on_check (check_of ws) refl (ltb-false (length ws) table_words p) g)
    e
  where
    on_check : (checked : Result ℕ ℕ) → check_of ws ≡ checked → table_words ≤ length ws → checked_table ws checked ≡ answered ds → P ds
    on_check (Ok n) p long e = let same : definitions n ws ≡ ds = cc in rw same at (holds n (lent ws n long p))
    on_check (Err pair) p long e = absurd (let z : ◌≡◌ {A = ℕ} 0 1 = cc in omega arith)

-- its definitions are admitted one after the other
pub lent_admits : (ws : List ℕ) (ds : List Definition) → lent_table ws ≡ answered ds → Admits [] ds
lent_admits ws ds e = lent_table_lem (λ rs. Admits [] rs) ws ds (λ n l. l.admits) e

-- and in range
pub lent_in_range : (ws : List ℕ) (ds : List Definition) → lent_table ws ≡ answered ds → AllInRange ds
lent_in_range ws ds e = lent_table_lem (λ rs. AllInRange rs) ws ds (λ n l. l.in_range) e
