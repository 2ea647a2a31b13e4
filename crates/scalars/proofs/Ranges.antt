-- What stands for all characters of a range by rows of a first character, the last, and what stands for them.
use Rattle.std.proofs.Common.{◌≡◌, ℕ, ◌+◌, ◌-◌, ◌≤◌, Bool, true, false, not, ◌&&◌, ◌||◌, List, [], ◌∷◌, Option, None, Some, is_some, ltb, leb, eqb, get_or}
use Rattle.std.proofs.Common.{arith}
use Rattle.std.proofs.lemmas.Bool.Decides.{nat_tests}
use Rattle.basics.specs.Choice.{pick, if_some}
use Rattle.basics.proofs.Tests.{all_below, below}
use Rattle.scalars.specs.Characters.{stands_for, bases, base_of}

-- whether x stands for all from lo to hi: the first row that holds any of them holds them all and has x, or no row holds any
unfoldable pub throughout : List (ℕ × ℕ × ℕ) → ℕ → ℕ → Option ℕ → Bool
throughout [] lo hi x = not (is_some x)
throughout ((first, last, other) ∷ rows) lo hi x =
    let rest : Bool = throughout rows lo hi x in
    pick (ltb hi first || ltb last lo) rest (leb first lo && (leb hi last && if_some x false (eqb other)))

stands_throughout : (rows : List (ℕ × ℕ × ℕ)) (lo hi c : ℕ) (x : Option ℕ) → throughout rows lo hi x ≡ true → lo ≤ c → c ≤ hi → x ≡ stands_for rows c
unfolding throughout stands_for
stands_throughout [] lo hi c x h low high = grind arith
stands_throughout ((first, last, other) ∷ rows) lo hi c x h low high = grind (arith, nat_tests, stands_throughout rows lo hi c x)

-- the base of a whole range by one computed test of the rows, as on_range 0xC0 0xC5 refl low high where throughout is unfolded
pub on_range : (lo hi : ℕ) {x : Option ℕ} {c : ℕ} → throughout bases lo hi x ≡ true → lo ≤ c → c ≤ hi → x ≡ base_of c
on_range lo hi {x} {c} = stands_throughout bases lo hi c x

-- letters, one for each character from U+00C0 on, and a blank where there is none: by one computed test they are the bases
abbrev letter_at : List ℕ → ℕ → Option ℕ
letter_at letters i = pick (eqb (get_or letters i 0) 32) None (Some (get_or letters i 0))

abbrev pub is_letter : List ℕ → ℕ → Bool
is_letter letters i = throughout bases (0xC0 + i) (0xC0 + i) (letter_at letters i)

pub on_letters : (letters : List ℕ) (c : ℕ) → all_below 64 (is_letter letters) ≡ true → 0xC0 ≤ c → c ≤ 0xFF → letter_at letters (c - 0xC0) ≡ base_of c
on_letters letters c all low high =
    let at : 0xC0 + (c - 0xC0) ≡ c = omega arith in
    rw at at (on_range (0xC0 + (c - 0xC0)) (0xC0 + (c - 0xC0)) {c = 0xC0 + (c - 0xC0)} (below 64 (is_letter letters) all (c - 0xC0) (omega arith)) (omega arith) (omega arith))
