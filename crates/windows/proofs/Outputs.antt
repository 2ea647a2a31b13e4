-- Outputs that are written part by part.
use Prim.Native.Nat.{ℕ, ◌+◌, ◌-◌, ◌≤◌}
use mathlib.Core.Path.{◌≡◌, refl, sym, ap, ◌∙◌}
use mathlib.Core.List.{List, [], ◌∷◌, ◌++◌, map, append-nil, append_assoc, map-append}
use native.Mathlib.Omega.{arith}
use lib.ListN.{length, take, drop, length-append, length-drop, length-map, length-take, drop_of_length-le}
use lib.Seq.{length-take-le, take-append_seam, drop-append_seam, drop-drop}
use Rattle.basics.specs.Refusals.{answered}
use Rattle.basics.specs.Buffers.{over}
use Rattle.windows.specs.declared.Window.{Window}
use Rattle.windows.specs.Windows.{part_of, parts_of, widths, all_within}
use Rattle.windows.specs.Internal.{Filled}
use Rattle.windows.proofs.Lists.{within_rest}

-- a window within the page is as long as it is wide
pub part_length : (page : List ℕ) (w : Window) → w.start + w.width ≤ length page → length (part_of page w) ≡ w.width
part_length page w h = length-take-le w.width (drop w.start page) (simp length-drop (omega arith))

-- more bytes right behind the new ones
pub over_more : (new more old : List ℕ) → over (new ++ more) old ≡ new ++ over more (drop (length new) old)
over_more new more old =
    rw (append_assoc new more (drop (length (new ++ more)) old), length-append new more, drop-drop (length more) (length new) old)

-- bytes that fill a part
pub over_whole : (new old : List ℕ) → length old ≤ length new → over new old ≡ new
over_whole new old h = rw (drop_of_length-le old {i = length new} h) (append-nil new)

-- an output keeps its length
over_length : (new old : List ℕ) → length new ≤ length old → length (over new old) ≡ length old
over_length new old h = omega (arith, length-append new (drop (length new) old), length-drop (length new) old)

-- what is behind the bytes that are written
over_behind : (new old now : List ℕ) {at : ℕ} → length new ≡ at → now ≡ over new old → (take at now ≡ new) × (drop at now ≡ drop at old)
over_behind new old now long e = (rw (e, ← long) (take-append_seam new _), rw (e, ← long) (drop-append_seam new _))

-- ---- window by window

module _ (f : ℕ → ℕ) (page : List ℕ) (ws : List Window) (old : List ℕ) where
  pub filled_none : all_within (length page) ws 0 ≡ answered tt → widths ws ≤ length old → Filled f page ws old 0 0 old
  filled_none within room = record { written = []; long = refl; bytes = refl; rest = refl; within = within; room = omega arith }

  module _ {i at : ℕ} {now : List ℕ} (inv : Filled f page ws old i at now) where
    pub filled_all : drop i ws ≡ [] → now ≡ over (map f (parts_of page ws)) old
    unfolding parts_of
    filled_all none =
        let all : inv.written ≡ map f (parts_of page ws) = sym (append-nil inv.written) ∙ rw none at inv.rest in
        inv.bytes ∙ ap (λ (new : List ℕ). over new old) all

    module _ {w : Window} (next : drop i ws ≡ w ∷ drop (i + 1) ws) where
      within : (w.start + w.width ≤ length page) × (all_within (length page) (drop (i + 1) ws) (i + 1) ≡ answered tt)
      within = within_rest (length page) w (drop (i + 1) ws) i (rw next at inv.within)

      pub in_page : w.start + w.width ≤ length page
      in_page = within.0

      left : widths (drop i ws) ≡ w.width + widths (drop (i + 1) ws)
      unfolding widths
      left = rw next

      pub in_output : at + w.width ≤ length now
      in_output = omega (arith, inv.room, left, inv.long, over_length inv.written old, ap length inv.bytes)

      pub filled_more : {filled : List ℕ}
          → filled ≡ over (map f (take (w.start + w.width - w.start) (drop w.start page))) (take (at + w.width - at) (drop at now))
          → Filled f page ws old (i + 1) (at + w.width) (take at now ++ (filled ++ drop (at + w.width - at) (drop at now)))
      unfolding parts_of
      filled_more {filled} e =
          let new : List ℕ = map f (part_of page w) in
          let others : List ℕ = parts_of page (drop (i + 1) ws) in
          let wide : length new ≡ w.width = length-map (part_of page w) f ∙ part_length page w in_page in
          let k : at + w.width - at ≡ w.width = omega arith in
          let j : w.start + w.width - w.start ≡ w.width = omega arith in
          let behind = over_behind inv.written old now inv.long inv.bytes in
          let whole : over new (take w.width (drop at old)) ≡ new = over_whole new _ (omega (arith, wide, length-take w.width (drop at old))) in
          record {
            written = inv.written ++ new;
            long = length-append inv.written new ∙ omega (arith, wide, inv.long);
            bytes = rw (e, k, j, behind.0, behind.1, whole, over_more inv.written new old, wide, inv.long);
            rest = append_assoc inv.written new (map f others) ∙ rw (← map-append f (part_of page w) others) (rw next at inv.rest);
            within = within.1;
            room = omega (arith, inv.room, left);
          }
