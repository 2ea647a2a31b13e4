-- Each way through the reading of a line: what the calls answered, put into the definitions.
use Rattle.std.proofs.Common.{◌≡◌, refl, ℕ, ◌+◌, ◌-◌, ◌≤◌, ◌<◌, add-one, Bool, true, false, List, [], ◌∷◌, length, get_or, drop, Option, None, Some}
use Rattle.std.proofs.Common.{Result, arith}
use Rattle.std.specs.Borrow.{Bor}
use lib.ListN.{drop_of_length-le}
use lib.Seq.{drop-cons}
use borrow.Author.Tests.{ne_eqb}
use Rattle.basics.proofs.Tests.{on_result, on_value}
use Rattle.lines.proofs.Openings.{on_opening}
use Rattle.basics.specs.Choice.{pick}
use Rattle.basics.specs.declared.Refusal.TheVariants.{UnknownDirective}
use Rattle.lines.specs.Words.{word_at, bytes_of, same_bytes}
use Rattle.lines.specs.Texts.{fault}
use Rattle.lines.specs.declared.Word.{Word}
use Rattle.lines.specs.declared.LineFault.{LineFault}
use Rattle.attributes.specs.Reader.{attribute_of, state_of, dot_at, dot_line}
use Rattle.basics.specs.Ascii.{ascii}
use Rattle.attributes.specs.declared.DotLine.{DotLine}
use Rattle.attributes.specs.declared.States.TheVariants.{ByAttribute}
use Rattle.attributes.specs.declared.State.TheVariants.{On, Off}
use Rattle.attributes.specs.declared.Attribute.{Attribute}

-- r is what was answered of a name behind a sign
module _ (w : List ℕ) (sign : ℕ) (name : List ℕ) (is : w ≡ sign ∷ name) (r : Option Attribute) (e : r ≡ attribute_of name) where
  pub name_none : r ≡ None → None ≡ state_of w
  unfolding state_of
  name_none q = rw (is, ← e, q)

  module _ (a : Attribute) (q : r ≡ Some a) where
    pub name_on : sign ≡ 61 → Some (On a) ≡ state_of w
    unfolding state_of
    name_on s = rw (is, ← e, q, s)

    pub name_off : sign ≡ 126 → Some (Off a) ≡ state_of w
    unfolding state_of
    name_off s = rw (is, ← e, q, s)

    pub name_other : (sign ≡ 61 → ⊥) → (sign ≡ 126 → ⊥) → None ≡ state_of w
    unfolding state_of
    name_other s t = rw (is, ← e, q, ne_eqb sign 61 s, ne_eqb sign 126 t)

-- the attribute of a name, by the rows of a table
abbrev pub attribute_by : List (Bor (List ℕ) × Attribute) → List ℕ → Option Attribute
attribute_by [] name = None
attribute_by (row ∷ rows) name = pick (same_bytes name row.0.now) (Some row.1) (attribute_by rows name)

-- the rows from i on say what the whole table says; r is what a call answered of row i
module _ (rows : List (Bor (List ℕ) × Attribute)) (name : List ℕ) (x : Option Attribute) (i : ℕ) (inv : attribute_by (drop i rows) name ≡ x) where
  pub row_none : length rows ≤ i → None ≡ x
  row_none h = rw (drop_of_length-le rows h) at inv

  module _ (d : Bor (List ℕ) × Attribute) (h : i < length rows) (r : Bool) (e : r ≡ same_bytes name (get_or rows i d).0.now) where
    row_next : pick r (Some (get_or rows i d).1) (attribute_by (drop (i + 1) rows) name) ≡ x
    row_next = rw (e, add-one i) (rw (drop-cons rows i d h) at inv)

    pub row_found : r ≡ true → Some (get_or rows i d).1 ≡ x
    row_found q = rw q at row_next

    pub row_other : r ≡ false → attribute_by (drop (i + 1) rows) name ≡ x
    row_other q = rw q at row_next

-- no name is empty
pub state_empty : (w : List ℕ) → length w ≡ 0 → None ≡ state_of w
unfolding state_of attribute_of same_bytes
state_empty [] h = refl
state_empty (b ∷ bs) h = absurd (omega arith)

pub ruleset state_names = (name_none, name_on, name_off, name_other, state_empty)

pub first_word : (line : List ℕ) (w : Word) (r : Result DotLine LineFault) → w ≡ word_at line 0
    → r ≡ pick (same_bytes (bytes_of line w) (ascii "dot")) (dot_at ByAttribute line w.end (length line - w.start))
    (fault UnknownDirective (length line - w.start)) → r ≡ dot_line line
unfolding dot_line
first_word line w r e h = rw (← e) h

-- each way through what calls answered
pub ruleset ways = (on_result, on_value, on_opening)
