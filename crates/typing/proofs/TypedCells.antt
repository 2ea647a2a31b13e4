-- What a cell types: the entry table by its definitions in order, kept by those that follow, and in plain words.
use Prim.Native.Nat.{ℕ, ◌<◌}
use Rattle.std.specs.Prelude.{Option, None, Some}
use mathlib.Core.Path.{◌≡◌, refl, sym, ◌∙◌}
use mathlib.Core.List.{List, [], ◌∷◌, ◌++◌}
use lib.Dec.{eqb}
use lib.ListN.{length, get_or, replicate, length-set, length-replicate, get_or-replicate}
use lib.Seq.{get_or-set_same, get_or-set_other, set-get_or}
use borrow.Author.Tests.{eqb-true, eqb-false}
use Rattle.basics.specs.Choice.{pick}
use Rattle.basics.proofs.Tests.{by_cases, by_test}
use Rattle.definitions.specs.declared.Meaning.{Meaning}
use Rattle.definitions.specs.declared.Meaning.TheVariants.{Typed, Shown, Alias}
use Rattle.definitions.specs.declared.Definition.{Definition}
use Rattle.definitions.specs.Definitions.{types, typed_in}
use Rattle.typing.specs.Typing.{nothing, kept_in, with_meaning, filled_from, entries_of}

-- those that follow fill the table that the earlier ones filled
filled_append : (ds rs : List Definition) (es : List (Option ℕ)) → filled_from (ds ++ rs) es ≡ filled_from rs (filled_from ds es)
unfolding filled_from
filled_append [] rs es = refl
filled_append (d ∷ ds) rs es = filled_append ds rs (with_meaning es d.character d.meaning)

-- ---- a typed cell stays typed

-- one definition more leaves it
meaning_stays : (es : List (Option ℕ)) (x : ℕ) (m : Meaning) (cell : ℕ) {c : ℕ} → get_or es cell nothing ≡ Some c
    → get_or (with_meaning es x m) cell nothing ≡ Some c
meaning_stays es x (Shown dots) cell e = e
meaning_stays es x (Alias target) cell e = e
meaning_stays es x (Typed dots) cell e =
    by_cases (eqb cell dots)
    (λ p. rw (← eqb-true cell dots p, e, ← e, set-get_or es cell nothing))
    (λ p. rw (get_or-set_other es dots cell (kept_in (get_or es dots nothing) x) nothing (eqb-false cell dots p)) e)

filled_stays : (rs : List Definition) (es : List (Option ℕ)) (cell : ℕ) {c : ℕ} → get_or es cell nothing ≡ Some c
    → get_or (filled_from rs es) cell nothing ≡ Some c
unfolding filled_from
filled_stays [] es cell e = e
filled_stays (d ∷ rs) es cell e = filled_stays rs (with_meaning es d.character d.meaning) cell (meaning_stays es d.character d.meaning cell e)

-- a cell that types a character types it with further definitions too
pub stays_typed : (ds rs : List Definition) (cell : ℕ) {c : ℕ} → get_or (entries_of ds) cell nothing ≡ Some c
    → get_or (entries_of (ds ++ rs)) cell nothing ≡ Some c
stays_typed ds rs cell e = rw filled_append (filled_stays rs (entries_of ds) cell e)

-- ---- the earliest `char` definition of a cell

-- an entry that types nothing, after one definition more
meaning_types : (es : List (Option ℕ)) (x : ℕ) (m : Meaning) (cell : ℕ) → cell < length es → get_or es cell nothing ≡ None
    → get_or (with_meaning es x m) cell nothing ≡ pick (types m cell) (Some x) None
meaning_types es x (Shown dots) cell l e = e
meaning_types es x (Alias target) cell l e = e
meaning_types es x (Typed dots) cell l e =
    by_cases (eqb dots cell)
    (λ p. rw (p, eqb-true dots cell p, e, get_or-set_same es cell _ nothing l))
    (λ p. rw (p, get_or-set_other es dots cell (kept_in (get_or es dots nothing) x) nothing (λ q. eqb-false dots cell p (sym q))) e)

-- no definition changes the number of cells
meaning_length : (es : List (Option ℕ)) (c : ℕ) (m : Meaning) → length (with_meaning es c m) ≡ length es
meaning_length es c (Typed dots) = simp length-set
meaning_length es c (Shown dots) = refl
meaning_length es c (Alias target) = refl

filled_length : (ds : List Definition) (es : List (Option ℕ)) → length (filled_from ds es) ≡ length es
unfolding filled_from
filled_length [] es = refl
filled_length (d ∷ ds) es = filled_length ds (with_meaning es d.character d.meaning) ∙ meaning_length es d.character d.meaning

pub entries_length : (ds : List Definition) → length (entries_of ds) ≡ 256
entries_length ds = filled_length ds (replicate 256 nothing) ∙ length-replicate 256 nothing

filled_types : (ds : List Definition) (es : List (Option ℕ)) (cell : ℕ) → cell < length es → get_or es cell nothing ≡ None
    → get_or (filled_from ds es) cell nothing ≡ typed_in ds cell
unfolding filled_from typed_in
filled_types [] es cell l e = e
filled_types (d ∷ ds) es cell l e =
    let more : List (Option ℕ) = with_meaning es d.character d.meaning in
    let here : get_or more cell nothing ≡ pick (types d.meaning cell) (Some d.character) None = meaning_types es d.character d.meaning cell l e in
    by_test (λ (m : Option ℕ). get_or (filled_from ds more) cell nothing ≡ m) (types d.meaning cell)
    (λ q. filled_stays ds more cell (rw q at here))
    (λ q. filled_types ds more cell (rw meaning_length l) (rw q at here))

-- the entry of a cell is what the definitions say in plain words
pub entry_types : (ds : List Definition) (cell : ℕ) → cell < 256 → get_or (entries_of ds) cell nothing ≡ typed_in ds cell
entry_types ds cell l =
    filled_types ds (replicate 256 nothing) cell (rw (length-replicate 256 nothing) l) (get_or-replicate 256 cell nothing nothing l)
