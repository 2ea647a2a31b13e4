-- A listed line is read back as its definition.
use Rattle.std.proofs.Common.{◌≡◌, ℕ, ◌+◌, ◌-◌, ◌≤◌, ◌<◌, Bool, true, false, List, [], ◌∷◌, ◌++◌, length, Result, Ok}
use Rattle.std.proofs.Common.{refl, ap, ◌∙◌, append_assoc, arith}
use Rattle.std.proofs.lemmas.List.Folds.{list_all-append}
use mathlib.Core.List.{append-nil}
use lib.Seq.{drop-length}
use borrow.Author.Tests.{eq-eqb, le-ltb, leb-true}
use Rattle.basics.specs.Ascii.{ascii}
use Rattle.scalars.specs.Characters.{is_operand}
use Rattle.lines.specs.declared.LineFault.{LineFault}
use Rattle.lines.specs.Words.{is_blank, first_from, first_at, word_at, same_bytes, is_over}
use Rattle.lines.specs.Texts.{line_limit, opening_of}
use Rattle.characters.specs.declared.OperandKind.TheVariants.{Character}
use Rattle.blocks.specs.Blocks.{around_of}
use Rattle.definitions.specs.declared.Meaning.{Meaning}
use Rattle.definitions.specs.declared.Meaning.TheVariants.{Typed, Shown, Alias}
use Rattle.definitions.specs.declared.Definition.{Definition}
use Rattle.table.proofs.Readback.{InRange, is_number_in_range}
use Rattle.operands.specs.Operands as O
use Rattle.reader.specs.Reader.{condition_of, directive_of, finished, define, dots_meaning, dots_line, alias_line, front_of, read_from, if_holds}
use Rattle.reader.specs.Reader.{read_first, read_line}
use Rattle.reader.specs.declared.Reading.{Reading}
use Rattle.reader.specs.declared.Reading.TheVariants.{Define}
use Rattle.operands.specs.Operands.{character_at, dots_operand_at}
use Rattle.writing.specs.Writing.{hex_digits, dots_text}
use Rattle.writing.proofs.Numerals.{digits_length, dots_few}
use Rattle.listing.specs.Listing.{escaped, directive_word, operand_text, line_of}
use Rattle.listing.proofs.Lines.{front_length, line_length_lem}
use Rattle.round_trip.proofs.Bytes.{is_plain, Plain, plain_utf8, digits_plain}
use Rattle.round_trip.proofs.Operands.{ends_nil, ends_blank, parsed, character_behind, dots_plain, dots_behind_lem, all_listed}

-- a line by its word, its character and its operand
module _ (word o : List ℕ) (c : ℕ) where
  abbrev front : List ℕ
  front = word ++ (32 ∷ escaped c)

  abbrev line : List ℕ
  line = front ++ (32 ∷ o)

  line_plain : Plain word → Plain o → Plain line
  line_plain p q = rw (list_all-append is_plain front, list_all-append is_plain word, p, digits_plain c, q)

  -- nothing stands behind its last byte
  ended : (end : ℕ) (reading : Reading) → end ≡ length line → finished line end reading ≡ Ok reading
  unfolding finished O.ended is_over word_at first_at first_from
  ended end reading e = rw (e, drop-length line, drop-length line, eq-eqb (length line) (length line) refl)

-- its operands, where the word is one of a definition
module _ (word : List ℕ) (charset c : ℕ) (h : is_operand c ≡ true) where
  character_read : (o : List ℕ) → character_at charset Character (line word o c) (length word) ≡ parsed c (length word + 11)
  character_read o = rw (append_assoc word (32 ∷ escaped c) (32 ∷ o)) (character_behind word (32 ∷ o) c (ends_blank o) charset h)

  dots_read : (typed : Bool) (n left : ℕ) → dots_operand_at (line word (dots_text n) c) (length word + 11) ≡ parsed n (length word + 12 + length (dots_text n))
      → dots_line charset Character typed (line word (dots_text n) c) (length word) left ≡ Ok (define c (dots_meaning typed n) left)
  unfolding dots_line
  dots_read typed n left e = rw (character_read (dots_text n), e) (ended word (dots_text n) c _ _ (omega (arith, line_length_lem word (dots_text n) c)))

  alias_read : (t left : ℕ) → is_operand t ≡ true → alias_line charset (line word (escaped t) c) (length word) left ≡ Ok (define c (Alias t) left)
  unfolding alias_line
  alias_read t left g =
      let second = rw (append-nil (hex_digits 8 t), front_length word c) at (character_behind (front word (escaped t) c) [] t ends_nil charset g) in
      rw (character_read (escaped t), second) (ended word (escaped t) c _ _ (omega (arith, line_length_lem word (escaped t) c, digits_length 8 t)))

module _ (charset : ℕ) (ds : List Definition) where
  -- what follows from a directive word where no block is open, the line that it begins and its place given
  abbrev behind : Meaning → List ℕ → ℕ → Result Reading LineFault
  behind (Typed n) l left = dots_line charset Character true l 4 left
  behind (Shown n) l left = dots_line charset Character false l 5 left
  behind (Alias t) l left = alias_line charset l 5 left

  -- what is known of a listed line
  pub record LineBack (d : Definition) : Type 0 where
    pub plain : Plain (line_of d)
    pub short : length (line_of d) ≤ 27
    pub reads : read_line charset ds (around_of []) (line_of d) ≡ Ok (Define d (length (line_of d)))

  module _ (c : ℕ) where
    abbrev whole : Meaning → List ℕ
    whole m = line (directive_word m) (operand_text m) c

    word_read : (m : Meaning) → Plain (whole m) → length (whole m) ≤ line_limit → ((left : ℕ) → behind m (whole m) left ≡ Ok (define c m left))
        → read_line charset ds (around_of []) (whole m) ≡ Ok (define c m (length (whole m) - 0))
    unfolding read_line opening_of is_over word_at first_at first_from is_blank read_first same_bytes read_from front_of directive_of condition_of
        if_holds around_of
    word_read (Typed n) p l e = rw (le-ltb line_limit _ l, plain_utf8 _ 0 p, e)
    word_read (Shown n) p l e = rw (le-ltb line_limit _ l, plain_utf8 _ 0 p, e)
    word_read (Alias t) p l e = rw (le-ltb line_limit _ l, plain_utf8 _ 0 p, e)

    line_back : (m : Meaning) → Plain (operand_text m) → length (operand_text m) + length (directive_word m) ≤ 15 → Plain (directive_word m)
        → ((left : ℕ) → behind m (whole m) left ≡ Ok (define c m left)) → LineBack (record { character = c; meaning = m })
    line_back m d l p e =
        let plain = line_plain (directive_word m) (operand_text m) c p d in
        let size = line_length_lem (directive_word m) (operand_text m) c in
        record {
          plain = plain;
          short = omega (arith, size);
          reads = word_read m plain (omega (arith, size)) e ∙ ap (λ (left : ℕ). Ok (define c m left)) (omega arith);
        }

    meaning_back : is_operand c ≡ true → (m : Meaning) → is_number_in_range m ≡ true → LineBack (record { character = c; meaning = m })
    meaning_back h (Typed n) e =
        let l : n < 256 = omega (arith, leb-true n 255 e) in
        let all = (all_listed c).0 in
        line_back (Typed n) (dots_plain c (ascii "char") all n l) (omega (arith, dots_few n l)) refl
        (λ left. dots_read (ascii "char") charset c h true n left (dots_behind_lem c (ascii "char") all n l))
    meaning_back h (Shown n) e =
        let l : n < 256 = omega (arith, leb-true n 255 e) in
        let all = (all_listed c).1 in
        line_back (Shown n) (dots_plain c (ascii "glyph") all n l) (omega (arith, dots_few n l)) refl
        (λ left. dots_read (ascii "glyph") charset c h false n left (dots_behind_lem c (ascii "glyph") all n l))
    meaning_back h (Alias t) e =
        line_back (Alias t) (digits_plain t) (omega (arith, digits_length 8 t)) refl (λ left. alias_read (ascii "alias") charset c h t left e)

  pub listed_back : (d : Definition) → InRange d → LineBack d
  listed_back d f = meaning_back d.character f.character d.meaning f.number
