-- The words of a line that is UTF-8: it may be cut before whitespace and after it, since no further byte of a form is ASCII.
use Prim.Native.Nat.{ℕ, zero, suc, ◌+◌, ◌-◌, ◌<◌}
use mathlib.Core.Path.{◌≡◌, refl, sym, ◌∙◌}
use mathlib.Core.Bool.{Bool, true, false, beq}
use mathlib.Core.List.{List, [], ◌∷◌, ◌++◌}
use native.Mathlib.Nat.{add-zero}
use native.Mathlib.Numerals.{add-one}
use native.Mathlib.Omega.{arith}
use lib.ListN.{take, drop, get_or, take-append-drop}
use lib.Seq.{get_or-drop, drop-drop}
use lib.Dec.{leb, eqb}
use borrow.Author.Tests.{leb-true, eqb-true, lt-leb}
use Rattle.basics.proofs.Tests.{by_cases, either}
use Rattle.utf8.specs.Utf8.{after_first, after_further, after_byte, utf8_from}
use Rattle.utf8.specs.declared.Utf8State.{Utf8State}
use Rattle.utf8.specs.declared.Utf8State.TheVariants.{Between, Inside, Broken}
use Rattle.lines.specs.Words.{is_blank, first_from, first_at, word_at, bytes_of}
use Rattle.encoding.specs.Encoding.{IsUtf8, is_border, GoodWord}
use Rattle.encoding.proofs.Reading.{good, after_alone, first_byte, stays_broken, further_bad}
use Rattle.encoding.proofs.Encoding.{good_utf8, utf8_exactly}
use Rattle.encoding.proofs.Plain.{plain_exactly}

-- ---- a cut at whitespace

blank_ascii : (b : ℕ) → is_blank b ≡ true → b < 0x80
unfolding is_blank
blank_ascii b h = by_cases (eqb b 32) (λ e. omega (arith, eqb-true b 32 e)) (λ e. omega (arith, eqb-true b 9 (rw e at h)))

-- bytes begin with whitespace, or there are none
abbrev Border : List ℕ → Type 0
Border bs = is_blank (get_or bs 0 32) ≡ true

-- no byte that is due is ASCII
abbrev NoneDue : Utf8State → Type 0
NoneDue Between = Unit {0}
NoneDue (Inside left low high start) = leb 0x80 low ≡ true
NoneDue (Broken start) = Unit {0}

none_due : (p : Utf8State) (b i : ℕ) → NoneDue p → NoneDue (after_byte p b i)
unfolding after_first after_further
none_due Between b i h = search (either NoneDue) depth 12
none_due (Inside left low high start) b i h = search (either NoneDue)
none_due (Broken start) b i h = tt

-- so at a border of good bytes nothing is under way
is_between : (p : Utf8State) (bs : List ℕ) (i : ℕ) → NoneDue p → Border bs → utf8_from bs i p ≡ good → p ≡ Between
unfolding utf8_from
is_between Between bs i h w e = refl
is_between (Inside left low high start) [] i h w e = cc
is_between (Inside left low high start) (b ∷ bs) i h w e =
    let l : b < low = omega (arith, blank_ascii b w, leb-true 0x80 low h) in
    cc (further_bad low high start b bs i left (rw (lt-leb low b l)))
is_between (Broken start) bs i h w e = cc (stays_broken bs i start)

good_cut : (xs ys : List ℕ) (i : ℕ) (p : Utf8State) → NoneDue p → Border ys → utf8_from (xs ++ ys) i p ≡ good → (utf8_from xs i p ≡ good) × IsUtf8 ys
unfolding utf8_from
good_cut [] ys i p h w e =
    let q = is_between p ys i h w e in
    (rw q refl, good_utf8 i ys (rw q at e))
good_cut (x ∷ xs) ys i p h w e = good_cut xs ys (i + 1) (after_byte p x i) (none_due p x i h) w e

cut_at : (k : ℕ) (bs : List ℕ) → Border (drop k bs) → IsUtf8 bs → IsUtf8 (take k bs) × IsUtf8 (drop k bs)
cut_at k bs w u =
    let t = good_cut (take k bs) (drop k bs) 0 Between tt w (rw (take-append-drop k bs) ((utf8_exactly bs).complete good u)) in
    (good_utf8 0 (take k bs) t.0, t.1)

cut_after : (bs : List ℕ) → Border bs → IsUtf8 bs → IsUtf8 (drop 1 bs)
cut_after [] w u = u
cut_after (b ∷ bs) w u = good_utf8 1 bs (sym (first_byte b 0 bs (after_alone b 0 (blank_ascii b w))) ∙ (utf8_exactly (b ∷ bs)).complete good u)

-- ---- the rest of a line, and its next word

rest_good : (line : List ℕ) (at : ℕ) → IsUtf8 line → is_border line at ≡ true → IsUtf8 (drop at line)
rest_good line at u h = by_cases (is_blank (get_or line at 32)) (λ e. from at e) (λ e. behind at (rw e at h))
  where
    here : (n : ℕ) → is_blank (get_or line n 32) ≡ true → Border (drop n line)
    here n e = rw (get_or-drop n line 0 32, add-zero n) e

    from : (n : ℕ) → is_blank (get_or line n 32) ≡ true → IsUtf8 (drop n line)
    from n e = (cut_at n line (here n e) u).1

    behind : (n : ℕ) → is_blank (get_or (32 ∷ line) n 32) ≡ true → IsUtf8 (drop n line)
    behind zero e = u
    behind (suc n) e = rw (← add-one n, ← drop-drop 1 n line) (cut_after (drop n line) (here n e) (from n e))

-- a scan that begins at i ends as much later
first_from_lem : (blank : Bool) (bs : List ℕ) (i : ℕ) → first_from blank bs i ≡ i + first_from blank bs 0
unfolding first_from
first_from_lem blank [] i = omega arith
first_from_lem blank (b ∷ bs) i =
    by_cases (beq (is_blank b) blank)
    (λ e. rw e (omega arith))
    (λ e. rw (e, first_from_lem blank bs (i + 1), first_from_lem blank bs 1) (omega arith))

first_next : (blank : Bool) (bs : List ℕ) → first_from blank bs 1 ≡ suc (first_from blank bs 0)
first_next blank bs = omega (arith, first_from_lem blank bs 1)

-- the bytes from the first on that is no whitespace, and those before the first that is
abbrev from_word : List ℕ → List ℕ
from_word bs = drop (first_from false bs 0) bs

abbrev to_blank : List ℕ → List ℕ
to_blank bs = take (first_from true bs 0) bs

from_word_lem : (bs : List ℕ) → IsUtf8 bs → IsUtf8 (from_word bs)
unfolding first_from
from_word_lem [] u = u
from_word_lem (b ∷ bs) u =
    by_cases (is_blank b)
    (λ e. rw (e, first_next false bs) (from_word_lem bs (cut_after (b ∷ bs) e u)))
    (λ e. rw e u)

word_border : (bs : List ℕ) → Border (drop (first_from true bs 0) bs)
unfolding first_from is_blank
word_border [] = refl
word_border (b ∷ bs) = by_cases (is_blank b) (λ e. rw e e) (λ e. rw (e, first_next true bs) (word_border bs))

to_blank_lem : (bs : List ℕ) → IsUtf8 bs → IsUtf8 (to_blank bs)
to_blank_lem bs u = (cut_at (first_from true bs 0) bs (word_border bs) u).0

-- the next word by the bytes that are left
word_bytes : (line : List ℕ) (at : ℕ) → bytes_of line (word_at line at) ≡ to_blank (from_word (drop at line))
unfolding word_at first_at
word_bytes line at =
    let start = first_from false (drop at line) at in
    let e : first_from true (drop start line) start - start ≡ first_from true (drop start line) 0 =
    omega (arith, first_from_lem true (drop start line) start) in
    rw (e, first_from_lem false (drop at line) at, drop-drop (first_from false (drop at line) 0) at line)

-- the claim: on a line that is UTF-8, at any border
pub good_word : (line : List ℕ) (at : ℕ) → IsUtf8 line → is_border line at ≡ true → GoodWord line at
good_word line at u h =
    let r = rest_good line at u h in
    let w : IsUtf8 (bytes_of line (word_at line at)) = rw (word_bytes line at) (to_blank_lem (from_word (drop at line)) (from_word_lem (drop at line) r)) in
    record { rest = r; word = w; plain = plain_exactly (bytes_of line (word_at line at)) w }
