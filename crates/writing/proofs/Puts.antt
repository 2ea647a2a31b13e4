-- Texts put one behind another are one text.
use Prim.Native.Nat.{ℕ, suc, ◌+◌, ◌-◌, ◌≤◌}
use mathlib.Core.Path.{◌≡◌, refl, sym, ◌∙◌}
use mathlib.Core.List.{List, [], ◌∷◌, ◌++◌, append_assoc}
use native.Mathlib.Nat.{add-zero, zero-add}
use native.Mathlib.Omega.{arith}
use lib.ListN.{length, take, drop, set, length-append}
use lib.Seq.{drop-drop, sets, length-sets, sets-eq}
use borrow.Rule.Slice.PartMut.{put_mid}
use Rattle.basics.specs.Buffers.{over}
use Rattle.writing.specs.Writing.{Put}

sets_append : (l : List ℕ) (i : ℕ) (s t : List ℕ) → sets l i (s ++ t) ≡ sets (sets l i s) (i + length s) t
sets_append l i [] t = rw (add-zero i)
sets_append l i (x ∷ s) t =
    let e : suc i + length s ≡ i + suc (length s) = omega arith in
    rw e at (sets_append (set l i x) (suc i) s t)

module _ {old : List ℕ} {at m : ℕ} {mid : List ℕ} (s t : List ℕ) (p : Put old at s m mid) where
  put_length : length mid ≡ length old
  put_length = rw p.bytes (length-sets old at s)

  -- what is put behind a text goes on with it
  pub put_on : sets mid m t ≡ sets old at (s ++ t)
  put_on = rw (p.bytes, p.after) (sym (sets_append old at s t))

  pub put_put : {r : ℕ} {new : List ℕ} → Put mid m t r new → Put old at (s ++ t) r new
  put_put q = record { bytes = q.bytes ∙ put_on; after = omega (arith, q.after, p.after, length-append s t) }

  -- what had room for both has room for the second
  pub fits_then : at + length (s ++ t) ≤ length old → m + length t ≤ length mid
  fits_then h = omega (arith, length-append s t, p.after, put_length)

-- and for the first
pub fits_first : (s t : List ℕ) (at n : ℕ) → at + length (s ++ t) ≤ n → at + length s ≤ n
fits_first s t at n h = omega (arith, length-append s t)

-- a text at the front of a buffer that has room for it
pub put_front : (text old : List ℕ) → length text ≤ length old → sets old 0 text ≡ over text old
put_front text old h = rw (zero-add (length text)) at (sets-eq text old 0 (omega arith))

-- a text copied into the part of a buffer that it has room in
pub copied : (old text part : List ℕ) (at : ℕ) → at + length text ≤ length old → part ≡ text
    → Put old at text (at + length text) (put_mid at (at + length text - at) old part)
copied old text part at h e =
    let room : at + length text - at ≡ length text = omega arith in
    record {
      bytes = rw (e, room, sets-eq text old at h, drop-drop (length text) at old)
          (sym (append_assoc (take at old) text (drop (at + length text) old)));
      after = refl;
    }
