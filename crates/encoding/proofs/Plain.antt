-- A plain word that is UTF-8: one character is that character, none and several are no character.
use Prim.Native.Nat.{ℕ, ◌-◌, ◌%◌, ◌≤◌, ◌<◌}
use mathlib.Core.Path.{◌≡◌, refl, sym, ap, ◌∙◌}
use mathlib.Core.Logic.{◌≢◌}
use mathlib.Core.Bool.{true, false, ◌&&◌}
use mathlib.Core.List.{List, ◌∷◌, ◌++◌, append-nil}
use native.Mathlib.Omega.{arith}
use lib.Dec.{eqb, leb}
use lib.ListN.{length, get_or, length-append}
use borrow.Author.Tests.{eqb-true, ne_eqb, le-leb, lt-leb}
use Rattle.std.specs.Prelude.{Option, None, Some}
use Rattle.basics.proofs.Tests.{by_cases, by_test}
use Rattle.scalars.specs.Characters.{is_scalar}
use Rattle.characters.specs.Characters.{no_number, backslash, plain_of, word_number, character_of}
use Rattle.encoding.specs.Encoding.{encoded, encodings, Scalars, none, one_more, IsUtf8, IsForm, SaysPlain, Exactly, Plain}
use Rattle.encoding.proofs.Forms.{Further, Form, one, two, three, four, form_length, encoded_form, form_of, form_is}
use Rattle.encoding.proofs.Encoding.{exactly}

six_bits : (y : ℕ) → Further y → y % 64 ≡ y - 0x80
six_bits y h = omega arith

three_bits : (b : ℕ) → 0xF0 ≤ b → b < 0xF5 → b % 8 ≡ b - 0xF0
three_bits b h k = omega arith

-- a form is the character that it is written for
plain_form : {c : ℕ} {f : List ℕ} → Form c f → plain_of f ≡ c
unfolding plain_of
plain_form (one r) = sym r.is
plain_form (two {b} r) = rw (le-leb 0xC0 b (omega arith)) (omega arith)
plain_form (three {b} r) = rw (le-leb 0xE0 b r.from) (omega arith)
plain_form (four {b} {y} {z} {w} r) =
    rw (le-leb 0xF0 b r.from, three_bits b r.from r.below, six_bits y r.second.further, six_bits z r.third, six_bits w r.fourth) (sym r.is)

-- at each length the first byte is below those of the forms
record NoForm (w : List ℕ) : Type 0 where
  one : length w ≢ 1
  two : length w ≡ 2 → get_or w 0 0 < 0xC0
  three : length w ≡ 3 → get_or w 0 0 < 0xE0
  four : length w ≡ 4 → get_or w 0 0 < 0xF0

plain_none : (w : List ℕ) → NoForm w → plain_of w ≡ no_number
unfolding plain_of
plain_none w h = rw (ne_eqb (length w) 1 h.one, off 2 0xC0 h.two, off 3 0xE0 h.three, off 4 0xF0 h.four)
  where
    off : (n least : ℕ) → (length w ≡ n → get_or w 0 0 < least) → (eqb (length w) n && leb least (get_or w 0 0)) ≡ false
    off n least k = by_cases (eqb (length w) n) (λ e. rw (e, lt-leb least (get_or w 0 0) (k (eqb-true (length w) n e)))) (λ e. rw e)

-- a form and more
plain_longer : {c : ℕ} {f : List ℕ} → Form c f → (l : List ℕ) → 0 < length l → plain_of (f ++ l) ≡ no_number
plain_longer (one {b} r) l h = plain_none (b ∷ l) (omega arith)
plain_longer (two {b} {y} r) l h = plain_none (b ∷ y ∷ l) (omega arith)
plain_longer (three {b} {y} {z} r) l h = plain_none (b ∷ y ∷ z ∷ l) (omega arith)
plain_longer (four {b} {y} {z} {w} r) l h = plain_none (b ∷ y ∷ z ∷ w ∷ l) (omega arith)

-- a word that is UTF-8 and has a number is the form of it
number_form : {cs : List ℕ} → Scalars cs → is_scalar (plain_of (encodings cs)) ≡ true → IsForm (plain_of (encodings cs)) (encodings cs)
unfolding plain_of
number_form none h = absurd (let z : ◌≡◌ {A = ℕ} 0 1 = cc in omega arith)
number_form (one_more {c} s none) h = rw (append-nil (encoded c), plain_form (encoded_form c s)) (form_is (encoded_form c s))
number_form (one_more {c} s (one_more {c = d} {cs} t r)) h =
    let l : 0 < length (encodings (d ∷ cs)) = omega (arith, form_length (encoded_form d t), length-append (encoded d) (encodings cs)) in
    let e = rw (plain_longer (encoded_form c s) (encodings (d ∷ cs)) l) at h in
    absurd (let z : ◌≡◌ {A = ℕ} 0 1 = cc in omega arith)

plain_says : (w : List ℕ) → IsUtf8 w → Plain w → SaysPlain (character_of w) w
unfolding character_of word_number
plain_says w u h =
    rw (ne_eqb (get_or w 0 0) backslash h)
    (by_test (λ m. SaysPlain m w) (is_scalar (plain_of w))
    (λ e. rw u.forms (number_form u.scalars (rw u.forms at e)))
    (λ e c f. absurd (let z : ◌≡◌ {A = ℕ} 0 1 = cc (f.scalar, plain_form (form_of f)) in omega arith)))

plain_once : (w : List ℕ) (m n : Option ℕ) → SaysPlain m w → SaysPlain n w → m ≡ n
plain_once w (Some c) (Some d) h k = ap Some (sym (plain_form (form_of h)) ∙ plain_form (form_of k))
plain_once w (Some c) None h k = absurd (k c h)
plain_once w None (Some d) h k = absurd (h d k)
plain_once w None None h k = refl

pub plain_exactly : (w : List ℕ) → IsUtf8 w → Plain w → Exactly character_of SaysPlain w
plain_exactly w u h = exactly character_of SaysPlain w (plain_says w u h) (plain_once w)
