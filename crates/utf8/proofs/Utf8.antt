-- One byte more of a line, a run of ASCII bytes, and where the sequence begins that is not over or was bad.
use Prim.Native.Nat.{ℕ, ◌+◌, ◌≤◌, ◌<◌}
use mathlib.Core.Path.{◌≡◌, refl, sym, ap, ◌∙◌}
use mathlib.Core.List.{List, [], ◌∷◌}
use native.Mathlib.Omega.{arith}
use lib.ListN.{length, drop, get_or}
use lib.Seq.{drop-drop}
use lib.Dec.{ltb, leb}
use lib.Bits.{bit_or}
use borrow.Author.Tests.{lt-ltb, ltb-true, ltb-false, le-leb, lt-leb}
use native.Mathlib.Nat.{add-zero}
use Rattle.std.specs.List.{position, position_or_len}
use Rattle.std.specs.Option.{unwrap_or}
use Rattle.utf8.proofs.Positions.{end_of, first_from, first_within}
use Rattle.basics.specs.Internal.{bits_with, bits_of}
use Rattle.basics.proofs.Bits.{or_more, bits_more}
use Rattle.basics.proofs.Tests.{either, by_cases}
use Rattle.basics.proofs.Loops.{next_element}
use Rattle.utf8.specs.Utf8.{after_first, after_further, after_byte, at_end, utf8_from, utf8}
use Rattle.utf8.specs.Internal.{BadWithin, Resumed, ascii_end}
use Rattle.utf8.specs.declared.Utf8State.{Utf8State}
use Rattle.utf8.specs.declared.Utf8State.TheVariants.{Between, Inside, Broken}
use Rattle.utf8.specs.declared.BadSequence.{BadSequence}
use Rattle.std.specs.Prelude.{Option, Result, Ok, Err}

pub byte_on : {x : Result Unit BadSequence} (line : List ℕ) (i : ℕ) (p q : Utf8State) → utf8_from (drop i line) i p ≡ x → i < length line
    → q ≡ after_byte p (get_or line i 0) i → utf8_from (drop (i + 1) line) (i + 1) q ≡ x
unfolding utf8_from
byte_on line i p q inv h e = next_element utf8_from line i p inv h (rw e)

-- the run of ASCII bytes ends at the first byte that is none, or at the end
ascii_end_lem : (bs : List ℕ) (i : ℕ) → ascii_end bs i ≡ i + position_or_len (λ b. leb 0x80 b) bs
unfolding ascii_end
ascii_end_lem [] i = sym (add-zero i)
ascii_end_lem (b ∷ bs) i =
    by_cases (ltb b 0x80)
    (λ q. rw (q, lt-leb _ _ (ltb-true b 0x80 q)) (omega (arith, ascii_end_lem bs (i + 1))))
    (λ q. rw (q, le-leb _ _ (ltb-false b 0x80 q)) (sym (add-zero i)))

pub ascii_first : (line : List ℕ) (from n : ℕ) (r : Option ℕ) → from ≤ length line → n ≡ unwrap_or r (length (end_of line from))
    → r ≡ position (λ b. leb 0x80 b) (end_of line from)
    → Resumed line from Between (from + n)
ascii_first line from n r h is e = record {
  is = first_from (λ b. leb 0x80 b) line from n r is e ∙ sym (ascii_end_lem (drop from line) from);
  from = omega arith;
  within = first_within (λ b. leb 0x80 b) line from n r is e h;
}

-- between two characters a run of ASCII bytes changes nothing
ascii_run : (line bs : List ℕ) (i : ℕ) → drop i line ≡ bs → utf8_from (drop (ascii_end bs i) line) (ascii_end bs i) Between ≡ utf8_from bs i Between
unfolding utf8_from ascii_end after_first
ascii_run line [] i e = rw e
ascii_run line (b ∷ bs) i e =
    let behind : drop (i + 1) line ≡ bs = sym (drop-drop 1 i line) ∙ ap (drop 1) e in
    by_cases (ltb b 0x80)
    (λ q. rw q (ascii_run line bs (i + 1) behind))
    (λ q. let stays : ascii_end (b ∷ bs) i ≡ i = rw q in rw stays (ap (λ (l : List ℕ). utf8_from l i Between) e))

-- bytes that have no bit above ASCII between them are UTF-8
ascii_good_with : (bs : List ℕ) (bits i : ℕ) → bits_with bs bits < 0x80 → Ok tt ≡ utf8_from bs i Between
unfolding bits_with utf8_from after_first
ascii_good_with [] bits i h = refl
ascii_good_with (b ∷ bs) bits i h =
    let small : b < 0x80 = omega (arith, h, bits_more bs (bit_or bits b), (or_more bits b).1) in
    rw (lt-ltb b 0x80 small) (ascii_good_with bs (bit_or bits b) (i + 1) h)

-- r is what a call answered of the bits
pub ascii_good : (line : List ℕ) (r : ℕ) → r ≡ bits_of line → r < 0x80 → Ok tt ≡ utf8 line
ascii_good line r e h = ascii_good_with line 0 0 (rw e at h)

pub resumed : {x : Result Unit BadSequence} (line : List ℕ) (i : ℕ) (p : Utf8State) (r : ℕ) → Resumed line i p r → utf8_from (drop i line) i p ≡ x
    → utf8_from (drop r line) r p ≡ x
resumed line i Between r h inv = rw h.is (ascii_run line (drop i line) i refl ∙ inv)
resumed line i (Inside left low high start) r h inv = rw h.is inv
resumed line i (Broken start) r h inv = rw h.is inv

-- it begins within so many bytes: there a line that ended now would be bad
abbrev pub StartWithin : Utf8State → ℕ → Type 0
StartWithin p n = BadWithin (at_end p) n

byte_within : (p : Utf8State) (b i : ℕ) → StartWithin p i → StartWithin (after_byte p b i) (i + 1)
unfolding after_first after_further
byte_within Between b i h = let k : i ≤ i + 1 = omega arith in search (either (λ p. StartWithin p (i + 1))) depth 12
byte_within (Inside left low high start) b i h = let k : start ≤ i + 1 = omega arith in search (either (λ p. StartWithin p (i + 1)))
byte_within (Broken start) b i h = omega arith

later_within : (v : Result Unit BadSequence) (i n : ℕ) → BadWithin v i → i ≤ n → BadWithin v n
later_within (Ok u) i n h k = tt
later_within (Err bad) i n h k = omega arith

pub start_on : (p q : Utf8State) (b i n : ℕ) → StartWithin p i → q ≡ after_byte p b i → i + 1 ≤ n → StartWithin q n
start_on p q b i n h e k = later_within (at_end q) (i + 1) n (rw e (byte_within p b i h)) k

pub start_end : (p : Utf8State) (i n : ℕ) (r : Result Unit BadSequence) → StartWithin p i → i ≤ n → r ≡ at_end p → BadWithin r n
start_end p i n r h k e = later_within r i n (rw e h) k

pub ruleset checked = (ascii_good, start_on, start_end)
