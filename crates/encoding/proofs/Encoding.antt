-- What `utf8` answers is what the line is: UTF-8, or UTF-8 up to the place that is answered and no further.
use Prim.Native.Nat.{ℕ, zero, suc, ◌+◌, ◌≤◌}
use mathlib.Core.Path.{◌≡◌, refl, sym, ap, ◌∙◌}
use mathlib.Core.List.{List, [], ◌∷◌, ◌++◌, append_assoc}
use native.Mathlib.Nat.{add-zero}
use native.Mathlib.Omega.{arith}
use lib.ListN.{length, take, drop, length-append, take-append-drop}
use lib.Seq.{length-take-le, take_at, take-length}
use Rattle.utf8.specs.Utf8.{utf8_from, utf8}
use Rattle.utf8.specs.declared.Utf8State.TheVariants.{Between}
use Rattle.utf8.specs.declared.BadSequence.{BadSequence}
use Rattle.std.specs.Prelude.{Result, Ok, Err}
use Rattle.encoding.specs.Encoding.{encoded, encodings, Scalars, none, one_more, IsUtf8, BreaksAt, Says, IsForm, Exactly, LineAnswered}
use Rattle.encoding.proofs.Forms.{form_length, encoded_form, form_is}
use Rattle.encoding.proofs.Reading.{good, bad_at, form_read, Start, over, character, broken, start}

-- what is answered is so, and no two answers can be: then an answer is given exactly if it is so
pub exactly : {A : Type 0} (f : List ℕ → A) (Saying : A → List ℕ → Type 0) (bs : List ℕ)
    → Saying (f bs) bs → ((v w : A) → Saying v bs → Saying w bs → v ≡ w) → Exactly f Saying bs
exactly f Saying bs here once = record { sound = λ v e. rw (← e) here; complete = λ v h. once (f bs) v here h }

-- ---- UTF-8 is read, and what comes after it stands at its place

scalars_read : {cs : List ℕ} → Scalars cs → (rest : List ℕ) (i : ℕ)
    → utf8_from (encodings cs ++ rest) i Between ≡ utf8_from rest (i + length (encodings cs)) Between
scalars_read none rest i = rw (add-zero i)
scalars_read (one_more {c} {cs} h s) rest i =
    let e : i + length (encoded c) + length (encodings cs) ≡ i + (length (encoded c) + length (encodings cs)) = omega arith in
    rw (append_assoc (encoded c) (encodings cs) rest, length-append (encoded c) (encodings cs), ← e)
    (form_read (encoded_form c h) (encodings cs ++ rest) i ∙ scalars_read s rest (i + length (encoded c)))

utf8_read : {front : List ℕ} → IsUtf8 front → (rest : List ℕ) (i : ℕ) → utf8_from (front ++ rest) i Between ≡ utf8_from rest (i + length front) Between
utf8_read u rest i = rw u.forms (scalars_read u.scalars rest i)

-- ---- what is read is UTF-8

nothing : IsUtf8 []
nothing = record { characters = []; scalars = none; forms = refl }

form_first : {c : ℕ} {f bs : List ℕ} → IsForm c f → IsUtf8 bs → IsUtf8 (f ++ bs)
form_first {c} h u = record { characters = c ∷ u.characters; scalars = one_more h.scalar u.scalars; forms = rw (← h.form, ← u.forms) }

-- bytes from i on are UTF-8, or begin with UTF-8 up to the place that is answered and do not end there
data Read (i : ℕ) (bs : List ℕ) : Result Unit BadSequence → Type 0 where
  whole : IsUtf8 bs → Read i bs good
  part : {front : List ℕ} → IsUtf8 front → (b : ℕ) (rest : List ℕ) (p : ℕ) → bs ≡ front ++ (b ∷ rest) → p ≡ i + length front → Read i bs (bad_at p)

read_on : {c : ℕ} {f : List ℕ} → IsForm c f → (i : ℕ) {rest : List ℕ} {v : Result Unit BadSequence} → Read (i + length f) rest v → Read i (f ++ rest) v
read_on h i (whole u) = whole (form_first h u)
read_on {c} {f} h i (part {front} u b rest p e k) =
    let l : p ≡ i + length (f ++ front) = rw (length-append f front) (omega arith) in
    part (form_first h u) b rest p (rw e (sym (append_assoc f front (b ∷ rest)))) l

-- n bounds the length, which falls
read_within : (n : ℕ) (bs : List ℕ) (i : ℕ) → length bs ≤ n → Read i bs (utf8_from bs i Between)
unfolding utf8_from
read_within zero [] i h = whole nothing
read_within zero (b ∷ bs) i h = absurd (omega arith)
read_within (suc n) bs i h = by (start i bs) (λ rest j k. read_within n rest j k) h
  where
    by : {bs : List ℕ} → Start i bs → ((rest : List ℕ) (j : ℕ) → length rest ≤ n → Read j rest (utf8_from rest j Between)) → length bs ≤ suc n
        → Read i bs (utf8_from bs i Between)
    by over on h = whole nothing
    by (character {c} {f} form rest bs e) on h =
        let k : length rest ≤ n = omega (arith, form_length form, length-append f rest, ap length e) in
        rw (e, form_read form rest i) (read_on (form_is form) i (on rest (i + length f) k))
    by (broken b bs e) on h = rw e (part nothing b bs i refl (sym (add-zero i)))

read : (i : ℕ) (bs : List ℕ) → Read i bs (utf8_from bs i Between)
read i bs = read_within (length bs) bs i (omega arith)

pub good_utf8 : (i : ℕ) (bs : List ℕ) → utf8_from bs i Between ≡ good → IsUtf8 bs
good_utf8 i bs e = by (rw e at (read i bs))
  where
    by : Read i bs good → IsUtf8 bs
    by (whole u) = u

-- ---- the answer

-- the place that is answered, if there is one
abbrev start_of : Result Unit BadSequence → ℕ
start_of (Ok u) = 0
start_of (Err bad) = bad.start

-- a place that is answered is no earlier than where the reading begins
not_earlier : (i : ℕ) {bs : List ℕ} {v : Result Unit BadSequence} {p : ℕ} → Read i bs v → v ≡ bad_at p → i ≤ p
not_earlier i (whole u) h = absurd (let z : ◌≡◌ {A = ℕ} 0 1 = cc in omega arith)
not_earlier i {p = p} (part u b rest place e k) h =
    let l : place ≡ p = ap start_of h in
    omega arith

not_shorter : (bs : List ℕ) {p : ℕ} → utf8 bs ≡ bad_at p → (q : ℕ) → IsUtf8 (take q bs) → length (take q bs) ≤ p
not_shorter bs h q u =
    let i = 0 + length (take q bs) in
    omega (arith, not_earlier i (read i (drop q bs)) (sym (utf8_read u (drop q bs) 0) ∙ ap utf8 (take-append-drop q bs) ∙ h))

says : {bs : List ℕ} {v : Result Unit BadSequence} → Read 0 bs v → utf8 bs ≡ v → Says v bs
says (whole u) h = u
says {bs} (part {front} u b rest p e k) h =
    let t : take p bs ≡ front = rw e (take_at front (b ∷ rest) p (omega arith)) in
    record {
      before = rw t u;
      longest = λ q l v. omega (arith, not_shorter bs h q v, length-take-le q bs l);
      within = omega (arith, length-append front (b ∷ rest), ap length e);
    }

not_both : {bs : List ℕ} {p : ℕ} → IsUtf8 bs → BreaksAt bs p → ⊥
not_both {bs} u at =
    let l = at.longest (length bs) (omega arith) (rw (take-length bs) u) in
    omega arith

says_once : (bs : List ℕ) (v w : Result Unit BadSequence) → Says v bs → Says w bs → v ≡ w
says_once bs (Ok u) (Ok t) h k = refl
says_once bs (Ok u) (Err bad) h k = absurd (not_both h k)
says_once bs (Err bad) (Ok u) h k = absurd (not_both k h)
says_once bs (Err bad) (Err other) h k =
    let m = h.longest other.start (omega arith) k.before in
    let n = k.longest bad.start (omega arith) h.before in
    let e : bad.start ≡ other.start = omega arith in
    ap bad_at e

-- a line is answered to be UTF-8 exactly if it is, and to break at a place exactly if it does
pub utf8_exactly : (line : List ℕ) → LineAnswered line
utf8_exactly line = exactly utf8 Says line (says (read 0 line) refl) (says_once line)
